-- From a settled matching to the promise of `maximum`.
use Prim.Native.Nat.{ℕ}
use mathlib.Core.Path.{◌≡◌, sym}
use mathlib.Core.List.{List}
use native.Mathlib.Omega.{arith}
use lib.ListN.{length}
use Rattle.ring.specs.Requests.{requests_of}
use Rattle.ring.specs.Matchings.{IsMaximum}
use Rattle.matching.specs.declared.matchings.Matching.{Matching}
use Rattle.matching.specs.Maximum.{pairs_of, MaximumMatching}
use Rattle.matching.specs.declared.matchings.Search.{Search}
use Rattle.matching.specs.Internal.Model.{entry}
use Rattle.matching.specs.Internal.Progress.{Ready}
use Rattle.matching.specs.Internal.Search.{Settled}
use Rattle.matching.proofs.AdjacencyLaws.{adjacent_symmetric}
use Rattle.matching.proofs.CertifiedLaws.{settled_certified}
use Rattle.matching.proofs.ModelLaws.{entry_inside}
use Rattle.matching.proofs.PairLaws.{maximum_pairs}

-- once every exposed request is frozen, the pairs are a maximum matching
settled_maximum : (ends : List ℕ) (s : Search) → Settled (requests_of ends) s (length (requests_of ends))
    → IsMaximum (requests_of ends) (pairs_of (length (requests_of ends)) s.mates)
settled_maximum ends s S =
    let R = requests_of ends in
    let m = length R in
    maximum_pairs R s.mates (omega (arith, S.sized.few, S.sized.mates)) (entry m s.mates)
    (λ z h. sym (entry_inside m s.mates z h)) S.between.mates (adjacent_symmetric ends) S.label S.base S.between
    (λ z h. rw (S.base_is z, entry_inside m s.bases z h) (S.sized.bases_inside z h))

-- and so they are once no search is due
pub maximum_reached : (ends : List ℕ) (s : Matching) → Ready (requests_of ends) s → s.root ≡ length (requests_of ends)
    → MaximumMatching (requests_of ends) s
maximum_reached ends s ready over =
    let S = rw over at ready.rooted.due.settled in
    record {
      maximum = settled_maximum ends _ S;
      size = ready.counted;
      searched = over;
      certified = settled_certified (requests_of ends) s S;
    }
