-- A row of a blossom that is made in place: the row that is written is an odd vertex's, and those that are read are even vertices'.
use Prim.Native.Nat.{ℕ, ◌+◌, ◌<◌, ◌≤◌}
use mathlib.Core.Path.{◌≡◌, refl, ap, ◌∙◌}
use mathlib.Core.Bool.{false, cond}
use mathlib.Core.List.{List, []}
use native.Mathlib.Omega.{arith}
use lib.Dec.{eqb}
use lib.ListN.{length, get_or, set, length-set}
use lib.Seq.{get_or-set_other, set-set}
use borrow.Author.Tests.{eqb-false}
use Rattle.ring.proofs.Cases.{same, different, test}
use Rattle.sets.specs.Sets.{has}
use Rattle.matching.specs.declared.labels.VertexLabel.{VertexLabel}
use Rattle.matching.specs.declared.labels.VertexLabel.TheVariants as kind
use Rattle.matching.specs.Internal.Rows.{cell, below_in, mixed_entry, absorbed_entry, Readable, Unmixed, AbsorbedRow}
use Rattle.matching.specs.Internal.Search.{Square}
use Rattle.matching.proofs.LabellingLaws.{is_even, is_odd, is_neither, label_case, even_not_odd}
use Rattle.matching.proofs.RowLaws.{below_even, below_self, below_odd, below_none, Mended}
use Rattle.matching.proofs.RowLaws.{mended_skip, mended_turn, row_end, square_set, changed_row}

-- rows that agree at the even vertices give the same absorbed rows
module _ (m : ℕ) (rows now : List (List ℕ)) (labels : List VertexLabel) (mates : List ℕ)
    (kept : (w : ℕ) → w < 512 → get_or labels w kind.Free ≡ kind.Even → get_or now w [] ≡ get_or rows w []) where
  same_below : (x y v z : ℕ) → Readable m labels mates x y → z < m → below_in now labels mates v z ≡ below_in rows labels mates v z
  same_below x y v z readable less = elim (label_case (get_or labels z kind.Free)) [
    | is_even even ↦
        cc (below_even now labels mates v z even, below_even rows labels mates v z even, kept z (omega (arith, readable.few)) even)
    | is_neither d e ↦ cc (below_none now labels mates v z d e, below_none rows labels mates v z d e)
    | is_odd odd ↦ elim (test z v) [
      | same self u ↦ cc (below_self now labels mates v z odd self, below_self rows labels mates v z odd self)
      | different u ↦
          cc (
            below_odd now labels mates v z odd (eqb-false _ _ u.left),
            below_odd rows labels mates v z odd (eqb-false _ _ u.left),
            kept (get_or mates z 0) (omega (arith, readable.few, readable.inside z less)) (readable.mate_even z less odd),
          )
    ]
  ]

  same_mixed : (x y v z : ℕ) → Readable m labels mates x y → z < m
      → mixed_entry now labels mates x y v z ≡ mixed_entry rows labels mates x y v z
  unfolding mixed_entry
  same_mixed x y v z readable less =
      cc (
        same_below x y v z readable less,
        kept x (omega (arith, readable.few, readable.x_inside)) readable.x_even,
        kept y (omega (arith, readable.few, readable.y_inside)) readable.y_even,
      )

  pub same_entry : (x y v z : ℕ) → Readable m labels mates x y → z < m
      → absorbed_entry now labels mates x y v z ≡ absorbed_entry rows labels mates x y v z
  unfolding absorbed_entry mixed_entry
  same_entry x y v z readable less =
      ap (λ (e : ℕ). cond (eqb z v) v (cond (eqb z x) y (cond (eqb z y) x e))) (same_mixed x y v z readable less)

  pub same_unmixed : (joined : List ℕ) (x y v : ℕ) → Readable m labels mates x y → Unmixed m rows labels mates joined x y v
      → Unmixed m now labels mates joined x y v
  same_unmixed joined x y v readable unmixed z less out =
      cc (
        unmixed z less out,
        same_mixed x y v z readable less,
        kept y (omega (arith, readable.few, readable.y_inside)) readable.y_even,
      )

-- rows of which one, an odd vertex's, has been stored anew
odd_kept : (rows now : List (List ℕ)) (labels : List VertexLabel) (v : ℕ) (r : List ℕ) → get_or labels v kind.Free ≡ kind.Odd
    → now ≡ set rows v r
    → (w : ℕ) → w < 512 → get_or labels w kind.Free ≡ kind.Even → get_or now w [] ≡ get_or rows w []
odd_kept rows now labels v r odd stored w h even =
    rw stored (get_or-set_other rows v w r [] (λ e. even_not_odd (get_or labels w kind.Free) even (rw e odd)))

-- the rows as a loop mends row v, at first a copy of row q: the row is mixed of rows p and q below n
pub record Mending (n m : ℕ) (rows now : List (List ℕ)) (labels : List VertexLabel) (mates joined : List ℕ) (p q v : ℕ) : Type 0 where
  pub square : Square m rows
  pub unmixed : Unmixed m rows labels mates joined p q v
  pub row : List ℕ
  pub stored : now ≡ set rows v row
  pub wide : length row ≡ 512
  pub mended : Mended (mixed_entry rows labels mates p q v) (cell rows q) row n

module _ (m : ℕ) (labels : List VertexLabel) (mates joined : List ℕ) (p q v : ℕ) (readable : Readable m labels mates p q) (inside : v < m)
    (odd : get_or labels v kind.Free ≡ kind.Odd) where
  pub mending_start : (rows copied : List (List ℕ)) → Square m rows → Unmixed m rows labels mates joined p q v
      → copied ≡ set rows v (get_or rows q []) → Mending 0 m copied copied labels mates joined p q v
  mending_start rows copied square unmixed copy =
      record {
        square = rw copy (square_set m rows v (get_or rows q []) square inside wide);
        unmixed = agree;
        row = get_or copied q [];
        stored = cc (copy, same_q, set-set rows v (get_or rows q []) (get_or rows q []));
        wide = ap length same_q ∙ wide;
        mended = record { done = λ k h. absurd (omega arith); rest = λ k h. refl };
      }
    where
      kept : (w : ℕ) → w < 512 → get_or labels w kind.Free ≡ kind.Even → get_or copied w [] ≡ get_or rows w []
      kept = odd_kept rows copied labels v (get_or rows q []) odd copy

      wide : length (get_or rows q []) ≡ 512
      wide = square.wide q readable.y_inside

      same_q : get_or copied q [] ≡ get_or rows q []
      same_q = kept q (omega (arith, readable.few, readable.y_inside)) readable.y_even

      agree : Unmixed m copied labels mates joined p q v
      agree = same_unmixed m rows copied labels mates kept joined p q v readable unmixed

  module _ (n : ℕ) (rows now : List (List ℕ)) (H : Mending n m rows now labels mates joined p q v) where
    pub mending_square : Square m now
    mending_square = rw H.stored (square_set m rows v H.row H.square inside H.wide)

    -- vertices that do not join have their entries of row q
    pub mending_skip : (next : ℕ) → n ≤ next → next ≤ m → ((k : ℕ) → n ≤ k → k < next → has joined k ≡ false)
        → Mending next m rows now labels mates joined p q v
    mending_skip next h l none = record {
      square = H.square;
      unmixed = H.unmixed;
      row = H.row;
      stored = H.stored;
      wide = H.wide;
      mended = mended_skip _ _ joined m H.unmixed H.row n next H.mended h l none;
    }

    pub mending_turn : (value : ℕ) → n < m → value ≡ mixed_entry now labels mates p q v n
        → Mending (n + 1) m rows (set now v (set (get_or now v []) n value)) labels mates joined p q v
    mending_turn value less right =
        record {
          square = H.square;
          unmixed = H.unmixed;
          row = set H.row n value;
          stored = changed_row rows now v H.row (λ r. set r n value) (omega (arith, H.square.many)) H.stored;
          wide = simp length-set H.wide;
          mended =
              mended_turn _ _ H.row n value H.mended (omega (arith, H.wide, readable.few))
              (right ∙ same_mixed m rows now labels mates (odd_kept rows now labels v H.row odd H.stored) p q v n readable less);
        }

    pub mending_end : (entry : List (List ℕ)) (copy row : List ℕ) → m ≤ n → rows ≡ set entry v copy
        → row ≡ set (set (set (get_or now v []) q p) p q) v v → AbsorbedRow m entry (set now v row) labels mates p q v
    mending_end entry copy row all copied paired =
        let few = readable.few in
        let change : List ℕ → List ℕ = λ r. set (set (set r q p) p q) v v in
        record {
          row = change H.row;
          stored =
              cc (
                paired,
                copied,
                changed_row rows now v H.row change (omega (arith, H.square.many)) H.stored,
                set-set entry v copy (change H.row),
              );
          wide = simp length-set H.wide;
          entries =
              λ z less.
              row_end m rows labels mates p q v H.row (omega (arith, readable.x_inside)) (omega (arith, readable.y_inside))
              (omega arith) H.wide
              (λ k h. H.mended.done k (omega arith)) z less
              ∙ same_entry m entry rows labels mates (odd_kept entry rows labels v copy odd copied) p q v z readable less;
        }
