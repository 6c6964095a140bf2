-- What an edge from an even vertex to a free one does to a search.
use Prim.Native.Nat.{ℕ, suc, ◌+◌, ◌<◌, ◌≤◌}
use mathlib.Core.Path.{◌≡◌, refl, sym, ◌∙◌}
use mathlib.Core.Bool.{Bool, true, false}
use mathlib.Core.List.{List}
use native.Mathlib.Omega.{arith}
use lib.Dec.{eqb}
use lib.ListN.{length, get_or}
use lib.Seq.{get_or-set_other}
use borrow.Author.Tests.{ne_eqb}
use Rattle.ring.specs.declared.requests.Request.{Request}
use Rattle.ring.proofs.Cases.{impossible}
use Rattle.blossom.specs.Internal.Labels.{Free, Even}
use Rattle.blossom.specs.Internal.Rows.{Symmetric}
use Rattle.blossom.specs.Internal.Searches.{Searching}
use Rattle.matching.specs.declared.labels.VertexLabel.TheVariants as kind
use Rattle.matching.specs.Internal.Adjacency.{adjacent}
use Rattle.matching.specs.declared.matchings.Search.{Search}
use Rattle.matching.specs.Internal.Model.{entry, among}
use Rattle.matching.specs.Internal.Search.{Standing, Settled, SearchAt, ScanAt, SearchOutcome}
use Rattle.matching.specs.Internal.Steps.{enlarged_arrays, Attachable, Attached, enlarges, grows}
use Rattle.matching.proofs.ModelLaws.{entry_inside}
use Rattle.matching.proofs.StandingLaws.{even_inside, mate_inside, label_told}
use Rattle.matching.proofs.EnlargeLaws.{enlarge_settled}
use Rattle.matching.proofs.GrowLaws.{grow_room, grown_stands, search_grows, grow_stands}

module _ (R : List Request) (symmetric : Symmetric (adjacent R)) (r : ℕ) (s : Search) (rows : List (List ℕ)) (T : Standing R r s rows)
    (scanned : ℕ → Bool)
    (S : Searching (adjacent R) (entry (length R) s.mates) T.frozen_label T.frozen_base r T.state scanned)
    (x y : ℕ) (ex : T.state.label x ≡ Even) (l : y < length R) (f : get_or s.labels y kind.Free ≡ kind.Free)
    (a : adjacent R x y ≡ true) where
  y_free : T.state.label y ≡ Free
  y_free = label_told R s rows T.state T.stands y kind.Free l f

  y_covered : (get_or s.mates y 0 ≡ y → ⊥) → eqb (entry (length R) s.mates y) y ≡ false
  y_covered d = ne_eqb (entry (length R) s.mates y) y (λ e. d (sym (entry_inside (length R) s.mates y l) ∙ e))

  -- there is room for the mate of y in the queue
  pub attach_room : (get_or s.mates y 0 ≡ y → ⊥) → s.clock < 512
  attach_room d = grow_room R symmetric r s rows T scanned S x y ex l y_free (y_covered d) a

  pub attachable : Attachable s rows x y
  attachable = record {
    from = omega (arith, T.sized.few, even_inside R s rows T.state T.stands x ex);
    to = omega (arith, T.sized.few, l);
    mate = omega (arith, T.sized.few, mate_inside R r s rows T y l);
    room = attach_room;
    from_row = omega (arith, T.square.many, even_inside R s rows T.state T.stands x ex);
    mate_row = omega (arith, T.square.many, mate_inside R r s rows T y l);
  }

  enlarged_by : get_or s.mates y 0 ≡ y → Settled R (enlarged_arrays s rows x y) (suc r)
  enlarged_by e = enlarge_settled R symmetric r s rows T scanned S x y ex l y_free (entry_inside (length R) s.mates y l ∙ e) a

  -- no vertex is being scanned
  pub search_attached : (h : ℕ) → h ≤ s.clock → ((z : ℕ) → scanned z ≡ among s.queue h z)
      → (t : Search) (after : List (List ℕ)) (done : Bool)
      → Attached s rows x y t after done → SearchOutcome R r t after done (SearchAt R r t after h)
  search_attached h w i t after done (enlarges e d et er) = record {
    square = rw er T.square;
    enlarged = λ u. rw et (enlarged_by e);
    going = λ u. impossible (cc);
  }
  search_attached h w i t after done (grows c ec n d et er) =
      let away : get_or s.mates y 0 ≡ y → ⊥ = λ e. n (ec ∙ e) in
      record {
        square = rw (er, ec) (grown_stands R symmetric r s rows T scanned S x y ex l y_free (y_covered away) a).square;
        enlarged = λ u. impossible (cc);
        going = λ u. rw (et, er, ec) (search_grows R symmetric r s rows T scanned S x y ex l y_free (y_covered away) a h w i);
      }

-- x is being scanned, and y comes next
pub scan_attached : (R : List Request) → Symmetric (adjacent R) → (r : ℕ) (s : Search) (rows : List (List ℕ)) (h x y : ℕ)
    → ScanAt R r s rows h x y
    → y < length R → get_or s.labels y kind.Free ≡ kind.Free → adjacent R x y ≡ true → (t : Search) (after : List (List ℕ)) (done : Bool)
    → Attached s rows x y t after done → SearchOutcome R r t after done (ScanAt R r t after h x (y + 1))
scan_attached R symmetric r s rows h x y at l f a t after done (enlarges e d et er) = record {
  square = rw er at.standing.square;
  enlarged = λ u.
      rw et
      (enlarged_by R symmetric r s rows at.standing at.scanned at.scanning.search x y at.scanning.partly.x_even l f a e);
  going = λ u. impossible (cc);
}
scan_attached R symmetric r s rows h x y at l f a t after done (grows c ec n d et er) =
    let T = at.standing in let ex = at.scanning.partly.x_even in
    let away : get_or s.mates y 0 ≡ y → ⊥ = λ e. n (ec ∙ e) in
    let fy = y_free R symmetric r s rows T at.scanned at.scanning.search x y ex l f a in
    let ey = y_covered R symmetric r s rows T at.scanned at.scanning.search x y ex l f a away in
    let grown = grow_stands R symmetric r s rows h x y at l fy ey a in
    record {
      square = rw (er, ec) grown.standing.square;
      enlarged = λ u. impossible (cc);
      going = λ u. rw (et, er, ec) grown;
    }

-- what is queued stays where it is
pub attached_queue : (s : Search) (rows : List (List ℕ)) (x y : ℕ) (t : Search) (after : List (List ℕ)) (done : Bool)
    → Attached s rows x y t after done
    → (g : ℕ) → g < s.clock → (get_or t.queue g 0 ≡ get_or s.queue g 0) × (g < t.clock)
attached_queue s rows x y t after done (enlarges e d et er) g l = rw et (refl, l)
attached_queue s rows x y t after done (grows c ec n d et er) g l =
    rw et (get_or-set_other s.queue s.clock g c 0 (λ e. omega arith), omega arith)
