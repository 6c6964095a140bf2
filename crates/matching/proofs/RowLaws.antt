-- Laws of the rows of a blossom, over plain lists.
use Prim.Native.Nat.{ℕ, ◌+◌, ◌<◌, ◌≤◌}
use mathlib.Core.Path.{◌≡◌, refl, sym, ap, ◌∙◌}
use mathlib.Core.Bool.{Bool, true, false, not, cond}
use mathlib.Core.List.{List, []}
use native.Mathlib.Decide.{dec_lt}
use native.Mathlib.Omega.{arith}
use lib.Dec.{eqb}
use lib.ListN.{length, get_or, set, length-set}
use lib.Seq.{get_or-set_same, get_or-set_other, set-set}
use borrow.Author.Tests.{eq-eqb, ne_eqb, eqb-false}
use Rattle.ring.proofs.Cases.{same, different, test, impossible}
use Rattle.sets.specs.Sets.{has}
use Rattle.blossom.specs.Internal.State.{below_test}
use Rattle.matching.specs.declared.labels.VertexLabel.{VertexLabel}
use Rattle.matching.specs.declared.labels.VertexLabel.TheVariants as kind
use Rattle.matching.specs.declared.climbs.Side.{Side}
use Rattle.matching.specs.declared.climbs.Side.TheVariants.{Neither, First, Second}
use Rattle.matching.specs.Internal.Model.{label_of}
use Rattle.matching.specs.Internal.Rows.{cell, below_in, mixed_entry, absorbed_entry, Readable}
use Rattle.matching.specs.Internal.Search.{Square}
use Rattle.matching.specs.Internal.Steps.{off_cycle}

-- a vertex that is free or frozen is below none
below_outside : (l : VertexLabel) (self a b : Bool) → (l ≡ kind.Even → ⊥) → (l ≡ kind.Odd → ⊥) → below_test (label_of l) self a b ≡ false
below_outside kind.Free self a b e f = refl
below_outside kind.Even self a b e f = absurd (e refl)
below_outside kind.Odd self a b e f = absurd (f refl)
below_outside kind.FrozenEven self a b e f = refl
below_outside kind.FrozenOdd self a b e f = refl

cond_same : (b : Bool) (a : ℕ) → cond b a a ≡ a
cond_same true a = refl
cond_same false a = refl

-- `below`, by the label of z
module _ (rows : List (List ℕ)) (labels : List VertexLabel) (mates : List ℕ) (v z : ℕ) where
  pub below_even : get_or labels z kind.Free ≡ kind.Even → below_in rows labels mates v z ≡ not (eqb (cell rows z v) (get_or mates v 0))
  unfolding below_in
  below_even even = rw even

  pub below_self : get_or labels z kind.Free ≡ kind.Odd → z ≡ v → below_in rows labels mates v z ≡ false
  unfolding below_in
  below_self odd self = rw (odd, eq-eqb z v self)

  pub below_odd : get_or labels z kind.Free ≡ kind.Odd → (z ≡ v → ⊥)
      → below_in rows labels mates v z ≡ not (eqb (cell rows (get_or mates z 0) v) (get_or mates v 0))
  unfolding below_in
  below_odd odd other = rw (odd, ne_eqb z v other)

  pub below_none : (get_or labels z kind.Free ≡ kind.Even → ⊥) → (get_or labels z kind.Free ≡ kind.Odd → ⊥)
      → below_in rows labels mates v z ≡ false
  unfolding below_in
  below_none not-even not-odd =
      below_outside (get_or labels z kind.Free) (eqb z v) (eqb (cell rows z v) (get_or mates v 0))
      (eqb (cell rows (get_or mates z 0) v) (get_or mates v 0)) not-even not-odd

-- an entry of a row that is mixed of two
module _ (rows : List (List ℕ)) (labels : List VertexLabel) (mates : List ℕ) (p q v z : ℕ) where
  pub mixed_same : cell rows p z ≡ cell rows q z → cell rows q z ≡ mixed_entry rows labels mates p q v z
  unfolding mixed_entry
  mixed_same agree = rw agree (sym (cond_same (below_in rows labels mates v z) (cell rows q z)))

  pub mixed_inner : below_in rows labels mates v z ≡ true → cell rows p z ≡ mixed_entry rows labels mates p q v z
  unfolding mixed_entry
  mixed_inner inner = rw inner

  pub mixed_outer : below_in rows labels mates v z ≡ false → cell rows q z ≡ mixed_entry rows labels mates p q v z
  unfolding mixed_entry
  mixed_outer outer = rw outer

-- a list as a loop fills it from the front with f
abbrev pub Filled : (ℕ → ℕ) → List ℕ → ℕ → Type 0
Filled f r n = (k : ℕ) → k < n → get_or r k 0 ≡ f k

pub filled_turn : (f : ℕ → ℕ) (r : List ℕ) (n value : ℕ) → Filled f r n → n < length r → value ≡ f n → Filled f (set r n value) (n + 1)
filled_turn f r n value filled room right k less = elim (test k n) [
  | same e t ↦ rw e (get_or-set_same r n value 0 room ∙ right)
  | different d ↦
      let other : k ≡ n → ⊥ = eqb-false k n d.left in
      get_or-set_other r n k value 0 other ∙ filled k (omega arith)
]

-- a list of g that a loop over a set makes one of f: the entries below n are done
pub record Mended (f g : ℕ → ℕ) (r : List ℕ) (n : ℕ) : Type 0 where
  pub done : Filled f r n
  pub rest : (k : ℕ) → n ≤ k → get_or r k 0 ≡ g k

-- one entry more
pub mended_turn : (f g : ℕ → ℕ) (r : List ℕ) (n value : ℕ) → Mended f g r n → n < length r → value ≡ f n → Mended f g (set r n value) (n + 1)
mended_turn f g r n value H room right = record {
  done = filled_turn f r n value H.done room right;
  rest = λ k b. get_or-set_other r n k value 0 (λ e. omega arith) ∙ H.rest k (omega arith);
}

module _ (f g : ℕ → ℕ) (set-of : List ℕ) (m : ℕ) (agree : (k : ℕ) → k < m → has set-of k ≡ false → f k ≡ g k) where
  -- the loop goes on to the next vertex of the set
  pub mended_skip : (r : List ℕ) (n next : ℕ) → Mended f g r n → n ≤ next → next ≤ m → ((k : ℕ) → n ≤ k → k < next → has set-of k ≡ false)
      → Mended f g r next
  mended_skip r n next H h l none =
      record {
        done =
            λ k b.
            elim (dec_lt k n) [
              | yes a ↦ H.done k a
              | no a ↦ H.rest k (omega arith) ∙ sym (agree k (omega arith) (none k (omega arith) b))
            ];
        rest = λ k b. H.rest k (omega arith);
      }

-- an entry after a store
pub entry_set : (r : List ℕ) (i a z : ℕ) → i < length r → get_or (set r i a) z 0 ≡ cond (eqb z i) a (get_or r z 0)
entry_set r i a z room = elim (test z i) [
  | same e t ↦ rw (t, e) (get_or-set_same r i a 0 room)
  | different d ↦ rw d.left (get_or-set_other r i z a 0 (eqb-false z i d.left))
]

-- a side or a flag after a store
pub value_set : {A : Type 0} (l : List A) (i : ℕ) (a : A) (z : ℕ) (none : A) → i < length l
    → get_or (set l i a) z none ≡ cond (eqb z i) a (get_or l z none)
value_set l i a z none room = elim (test z i) [
  | same e t ↦ rw (t, e) (get_or-set_same l i a none room)
  | different d ↦ rw d.left (get_or-set_other l i z a none (eqb-false z i d.left))
]

-- a row that is mixed of two, with p and q paired and v exposed
pub row_end : (m : ℕ) (rows : List (List ℕ)) (labels : List VertexLabel) (mates : List ℕ) (p q v : ℕ) (r : List ℕ) → p < 512 → q < 512
    → v < 512 → length r ≡ 512
    → Filled (mixed_entry rows labels mates p q v) r m → Filled (absorbed_entry rows labels mates p q v) (set (set (set r q p) p q) v v) m
unfolding mixed_entry absorbed_entry
row_end m rows labels mates p q v r lp lq lv wide filled z less =
    entry_set (set (set r q p) p q) v v z (simp length-set (omega arith))
    ∙ ap (cond (eqb z v) v)
    (entry_set (set r q p) p q z (simp length-set (omega arith)) ∙ ap (cond (eqb z p) q)
    (entry_set r q p z (omega arith) ∙ ap (cond (eqb z q) p) (filled z less)))

-- a row of the right length may be stored
pub square_set : (m : ℕ) (rows : List (List ℕ)) (v : ℕ) (r : List ℕ) → Square m rows → v < m → length r ≡ 512 → Square m (set rows v r)
square_set m rows v r square inside wide =
    let room : v < length rows = omega (arith, square.many) in
    record {
      many = omega (arith, length-set rows v r, square.many);
      wide =
          λ i less.
          elim (test i v) [
            | same e t ↦ rw e (ap length (get_or-set_same rows v r [] room) ∙ wide)
            | different d ↦ ap length (get_or-set_other rows v i r [] (eqb-false i v d.left)) ∙ square.wide i less
          ];
    }

-- a row that has been stored and is changed in place
pub changed_row : (rows now : List (List ℕ)) (v : ℕ) (r : List ℕ) (change : List ℕ → List ℕ) → v < length rows → now ≡ set rows v r
    → set now v (change (get_or now v [])) ≡ set rows v (change r)
changed_row rows now v r change room stored = rw (stored, get_or-set_same rows v r [] room) (set-set rows v r (change r))

-- a side off the cycle
pub off_neither : (side : Side) → off_cycle side ≡ true → side ≡ Neither
off_neither Neither e = refl
off_neither First e = impossible (sym e)
off_neither Second e = impossible (sym e)

pub readable_turned : {m : ℕ} {labels : List VertexLabel} {mates : List ℕ} {x y : ℕ} → Readable m labels mates x y
    → Readable m labels mates y x
readable_turned h =
    record {
      few = h.few;
      inside = h.inside;
      mate_even = h.mate_even;
      x_inside = h.y_inside;
      y_inside = h.x_inside;
      x_even = h.y_even;
      y_even = h.x_even;
    }
