-- Distances: put together link by link, and read as the metres along a way.
use Prim.Native.Nat.{ℕ, ◌+◌, ◌≤◌, ◌<◌, min}
use mathlib.Core.Path.{◌≡◌, refl, sym, ◌∙◌, ap}
use mathlib.Core.List.{List, [], ◌∷◌}
use native.Mathlib.Omega.{arith}
use lib.ListN.{length, take, set}
use lib.Seq.{take_all, get_or-set_same, get_or-set_other}
use Rattle.ring.specs.declared.requests.Request.{Request}
use Rattle.ring.specs.declared.ways.Way.{Way}
use Rattle.ring.specs.declared.ways.Way.TheVariants.{Plain, Seam}
use Rattle.ring.proofs.Cases.{less, not_less, compare}
use Rattle.book.specs.declared.circuits.Circuit.{Circuit}
use Rattle.charges.specs.Lengths.{metres}
use Rattle.charges.specs.Rates.{rates_in, cents}
use Rattle.charges.specs.Charges.{circuit_charge, charges_of}
use Rattle.charges.specs.Promises.{total}
use Rattle.charges.specs.Internal.Distances.{AddedUpTo, AddedUp, up_to, metres_by, charge_by, charges_by}
use Rattle.charges.proofs.LengthLaws.{plain_metres, ways_make_ring}

-- one link more
pub added_up_next : (lengths distances : List ℕ) (i metres : ℕ) → i + 1 < length distances → AddedUpTo i lengths distances
    → metres ≡ total (take (i + 1) lengths) → AddedUpTo (i + 1) lengths (set distances (i + 1) metres)
added_up_next lengths distances i metres h before e k l = elim (compare k (i + 1)) [
  | less m t ↦ get_or-set_other distances (i + 1) k metres 0 (λ q. omega arith) ∙ before k (omega arith)
  | not_less m t ↦
      let last : k ≡ i + 1 = omega arith in
      rw last (get_or-set_same distances (i + 1) metres 0 h ∙ e)
]

module _ (lengths distances : List ℕ) (m : AddedUp lengths distances) (few : length lengths ≤ 256) where
  up_to_total : (node : ℕ) → up_to distances node ≡ total (take node lengths)
  up_to_total node = m (min node 256) (omega arith) ∙ elim (compare node 256) [
    | less h t ↦ let same : min node 256 ≡ node = omega arith in ap (λ (k : ℕ). total (take k lengths)) same
    | not_less h t ↦ ap total (take_all (min node 256) lengths (omega arith) ∙ sym (take_all node lengths (omega arith)))
  ]

  -- the metres by distances are those along the way
  pub metres_by_lem : (way : Way) (r : Request) → metres_by way r distances ≡ metres way r lengths
  unfolding metres_by
  metres_by_lem Plain r = rw (up_to_total r.a, up_to_total r.b) (sym (plain_metres r lengths))
  metres_by_lem Seam r =
      let whole = (ways_make_ring r).whole lengths in
      let plain = plain_metres r lengths in
      let ring : total (take 256 lengths) ≡ total lengths = ap total (take_all 256 lengths few) in
      rw (up_to_total r.a, up_to_total r.b, up_to_total 256, ring) (omega arith)

  pub charge_by_lem : (rates : List ℕ) (c : Circuit) → charge_by (rates_in rates) distances c ≡ circuit_charge lengths rates c
  unfolding charge_by circuit_charge
  charge_by_lem rates c = ap (cents (rates_in rates)) (metres_by_lem c.way _)

  pub charges_by_lem : (rates : List ℕ) (cs : List Circuit) → charges_by (rates_in rates) distances cs ≡ charges_of lengths rates cs
  charges_by_lem rates [] = refl
  charges_by_lem rates (c ∷ cs) =
      let first = charge_by_lem rates c in
      let rest = charges_by_lem rates cs in
      omega arith
