-- The loop that gives the vertices of a blossom's cycle their rows.
use Prim.Native.Nat.{ℕ, ◌+◌, ◌<◌, ◌≤◌}
use mathlib.Core.Path.{◌≡◌, refl, sym, ap, ◌∙◌}
use mathlib.Core.Bool.{false}
use mathlib.Core.List.{List, []}
use mathlib.Core.Logic.{◌⊎◌, ⊎_elim}
use native.Mathlib.Decide.{dec_lt}
use native.Mathlib.Omega.{arith}
use lib.ListN.{get_or}
use borrow.Author.Tests.{eqb-false}
use Rattle.ring.proofs.Cases.{Apart, same, different, test, impossible}
use Rattle.sets.specs.Sets.{has}
use Rattle.matching.specs.declared.labels.VertexLabel.{VertexLabel}
use Rattle.matching.specs.declared.labels.VertexLabel.TheVariants as kind
use Rattle.matching.specs.declared.climbs.Side.{Side}
use Rattle.matching.specs.declared.climbs.Side.TheVariants.{Neither, First, Second}
use Rattle.matching.specs.Internal.Rows.{cell, absorbed_entry, Readable, AbsorbedVertex, Absorbed}
use Rattle.matching.specs.Internal.Search.{Square}
use Rattle.matching.specs.Internal.Steps.{off_cycle}
use Rattle.matching.proofs.LabellingLaws.{even_not_odd}
use Rattle.matching.proofs.RowLaws.{readable_turned}
use Rattle.matching.proofs.MendLaws.{same_entry}

-- the loop over the vertices: those below n have got their rows
pub record AbsorbedBelow (n m : ℕ) (rows now : List (List ℕ)) (labels : List VertexLabel) (mates : List ℕ) (sides : List Side)
    (x y : ℕ) : Type 0 where
  pub square : Square m now
  pub kept : (v : ℕ) → v < 512 → get_or labels v kind.Free ≡ kind.Even → get_or now v [] ≡ get_or rows v []
  pub first : (v z : ℕ) → v < n → z < m → get_or sides v Neither ≡ First → cell now v z ≡ absorbed_entry rows labels mates x y v z
  pub second : (v z : ℕ) → v < n → z < m → get_or sides v Neither ≡ Second → cell now v z ≡ absorbed_entry rows labels mates y x v z

module _ (m : ℕ) (rows : List (List ℕ)) (labels : List VertexLabel) (mates : List ℕ) (sides : List Side) (x y : ℕ) where
  pub absorb_start : Square m rows → AbsorbedBelow 0 m rows rows labels mates sides x y
  absorb_start square =
      record { square = square; kept = λ v h e. refl; first = λ v z h. absurd (none v h); second = λ v z h. absurd (none v h) }
    where
      none : (v : ℕ) → v < 0 → ⊥
      none v h = omega arith

  -- vertices off the cycle get no row
  pub absorb_skip : (cycle : List ℕ) (n next : ℕ) (now : List (List ℕ)) → ((v : ℕ) → v < m → has cycle v ≡ false → get_or sides v Neither ≡ Neither)
      → next ≤ m
      → ((v : ℕ) → n ≤ v → v < next → has cycle v ≡ false) → AbsorbedBelow n m rows now labels mates sides x y
      → AbsorbedBelow next m rows now labels mates sides x y
  absorb_skip cycle n next now covered l none H =
      record {
        square = H.square;
        kept = H.kept;
        first =
            λ v z h k side.
            elim (dec_lt v n) [
              | yes a ↦ H.first v z a k side
              | no a ↦ impossible (ap off_cycle (sym (off v (omega arith) h) ∙ side))
            ];
        second =
            λ v z h k side.
            elim (dec_lt v n) [
              | yes a ↦ H.second v z a k side
              | no a ↦ impossible (ap off_cycle (sym (off v (omega arith) h) ∙ side))
            ];
      }
    where
      off : (v : ℕ) → n ≤ v → v < next → get_or sides v Neither ≡ Neither
      off v a h = covered v (omega arith) (none v a h)

  pub absorb_turn : (n : ℕ) (now after : List (List ℕ)) → Readable m labels mates x y
      → ((v : ℕ) → v < m → (get_or sides v Neither ≡ Neither) ⊎ (get_or labels v kind.Free ≡ kind.Odd)) → n < m
      → AbsorbedBelow n m rows now labels mates sides x y
      → AbsorbedVertex m now after labels mates (get_or sides n Neither) x y n → AbsorbedBelow (n + 1) m rows after labels mates sides x y
  absorb_turn n now after readable odd less before vertex =
      record {
        square = vertex.square;
        kept =
            λ v h even.
            elim (test v n) [
              | same e t ↦ at_n v even e (odd n less) ∙ before.kept v h even
              | different d ↦ vertex.others v (eqb-false v n d.left) ∙ before.kept v h even
            ];
        first =
            λ v z h k side.
            elim (test v n) [
              | same e t ↦
                  rw e (vertex.first (rw e at side) z k ∙ same_entry m rows now labels mates before.kept x y n z readable k)
              | different d ↦ other v z d ∙ before.first v z (below v h d) k side
            ];
        second =
            λ v z h k side.
            elim (test v n) [
              | same e t ↦
                  rw e
                  (vertex.second (rw e at side) z k ∙ same_entry m rows now labels mates before.kept y x n z (readable_turned readable)
                  k)
              | different d ↦ other v z d ∙ before.second v z (below v h d) k side
            ];
      }
    where
      at_n : (v : ℕ) → get_or labels v kind.Free ≡ kind.Even → v ≡ n
          → (get_or sides n Neither ≡ Neither) ⊎ (get_or labels n kind.Free ≡ kind.Odd) → get_or after v [] ≡ get_or now v []
      at_n v even e =
          ⊎_elim (λ none. rw e (vertex.unmoved none)) (λ two. absurd (even_not_odd (get_or labels v kind.Free) even (rw e two)))

      other : (v z : ℕ) → Apart v n → cell after v z ≡ cell now v z
      other v z d = ap (λ (l : List ℕ). get_or l z 0) (vertex.others v (eqb-false v n d.left))

      below : (v : ℕ) → v < n + 1 → Apart v n → v < n
      below v h d = let distinct : v ≡ n → ⊥ = eqb-false v n d.left in omega arith

  pub absorb_end : (n : ℕ) (now : List (List ℕ)) → m ≤ n → AbsorbedBelow n m rows now labels mates sides x y
      → Absorbed m rows now labels mates sides x y
  absorb_end n now all h =
      record { kept = h.kept; first = λ v z less. h.first v z (omega arith); second = λ v z less. h.second v z (omega arith) }
