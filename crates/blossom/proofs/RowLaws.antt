-- The three ways in which a search makes a new row from old ones.
use Prim.Native.Nat.{ℕ}
use mathlib.Core.Path.{◌≡◌}
use mathlib.Core.Bool.{Bool, true, false, not, cond, ◌&&◌, ◌||◌}
use lib.Dec.{eqb}
use borrow.Author.Tests.{eqb-true}
use Rattle.ring.proofs.Cases.{yes, no, is, Apart, same, different, eqb_refl, test, tell_apart, keep_apart, two}
use Rattle.blossom.specs.Internal.Rows.{Symmetric, IsRow, fixed}

pub row_keep_apart : (adj : ℕ → ℕ → Bool) (R : ℕ → ℕ) (fix : ℕ → Bool) → IsRow adj R fix → (a b : ℕ) → Apart a b → Apart (R a) (R b)
row_keep_apart adj R fix w a b d = keep_apart R (λ z. cc (w z)) a b d

-- R with x and y paired
abbrev pub paired : (ℕ → ℕ) → ℕ → ℕ → ℕ → ℕ
paired R x y z = cond (eqb z x) y (cond (eqb z y) x (R z))

-- R with x and y paired and c, the mate of y, exposed
abbrev pub grown_row_lem : (ℕ → ℕ) → ℕ → ℕ → ℕ → ℕ → ℕ
grown_row_lem R x y c z = cond (eqb z c) c (paired R x y z)

-- P below v and Q elsewhere, with p and q paired and v exposed
abbrev pub combined_row : (ℕ → Bool) → (ℕ → ℕ) → (ℕ → ℕ) → ℕ → ℕ → ℕ → ℕ → ℕ
combined_row below P Q p q v z = cond (eqb z v) v (paired (λ w. cond (below w) (P w) (Q w)) p q z)

module _ (adj : ℕ → ℕ → Bool) (symmetric : Symmetric adj) where
  pub paired_is_row : (R : ℕ → ℕ) (fix : ℕ → Bool) (w : IsRow adj R fix) (x y : ℕ) → R x ≡ x → R y ≡ y → Apart x y → adj x y ≡ true
      → IsRow adj (paired R x y) (λ z. not (eqb z x) && (not (eqb z y) && fix z))
  paired_is_row R fix w x y rx ry xy a z = elim (test z x) [
    | same s e ↦ cc (eqb_refl y)
    | different e ↦ elim (test z y) [
      | same s f ↦ cc (eqb_refl x, symmetric x y)
      | different f ↦ cc (w z, (row_keep_apart adj R fix w z x e).left, (row_keep_apart adj R fix w z y f).left)
    ]
  ]

  pub grown_row_is_row : (M R : ℕ → ℕ) (r x y c : ℕ) (w : IsRow adj R (fixed M r x)) → R y ≡ c → Apart x y → Apart x c → Apart y c
      → adj x y ≡ true → (eqb (M x) x && not (eqb x r)) ≡ false → eqb (M y) y ≡ false → IsRow adj (grown_row_lem R x y c) (fixed M r c)
  grown_row_is_row M R r x y c w ry xy xc yc a ex ey z =
      let apart-z = row_keep_apart adj R (fixed M r x) w z in
      elim (test z c) [
        | same s e ↦ cc (eqb_refl c)
        | different e ↦ elim (test z x) [
          | same s f ↦ cc (eqb_refl y)
          | different f ↦ elim (test z y) [
            | same s g ↦ cc (eqb_refl x, symmetric x y)
            | different g ↦
                let rx = eqb-true (R x) x (cc (w x, eqb_refl x)) in
                cc (w z, w y, (apart-z x f).left, (apart-z y g).left, (apart-z c e).left)
          ]
        ]
      ]

  module _ (M P Q : ℕ → ℕ) (below : ℕ → Bool) (r p q v : ℕ)
      (wp : IsRow adj P (fixed M r p)) (wq : IsRow adj Q (fixed M r q))
      (bp : below p ≡ true) (bq : below q ≡ false) (bv : below v ≡ false) (qv : Apart q v)
      (keep : (z : ℕ) → below z ≡ true → below (P z) ≡ true)
      (same_below : (z : ℕ) → below z ≡ true → Q z ≡ M z) (same-v : Q v ≡ M v)
      (closed : (z : ℕ) → (below z || eqb z v) ≡ true → (below (M z) || eqb (M z) v) ≡ true)
      (apq : adj p q ≡ true)
      (xp : (eqb (M p) p && not (eqb p r)) ≡ false) (xq : (eqb (M q) q && not (eqb q r)) ≡ false)
    where
      -- outside of what is below v, and of v, Q stays outside
      out : (z : ℕ) → below z ≡ false → Apart z v → two (below (Q z)) (eqb (Q z) v) ≡ two false false
      out z b d = elim (is (below (Q z))) [
        | yes e ↦ cc (same_below (Q z) e, closed (Q z) (cc), wq z)
        | no e ↦ elim (test (Q z) v) [
          | same s t ↦ cc (closed v (cc (eqb_refl v)), wq z)
          | different t ↦ cc
        ]
      ]

      pub combined_row_is_row : IsRow adj (combined_row below P Q p q v) (fixed M r v)
      combined_row_is_row z =
          let pq = tell_apart below p q bp bq in let pv = tell_apart below p v bp bv in
          elim (test z v) [
            | same s g ↦ cc
            | different g ↦ elim (test z p) [
              | same s e ↦ cc (eqb_refl q)
              | different e ↦ elim (test z q) [
                | same s f ↦ cc (eqb_refl p, symmetric p q)
                | different f ↦ elim (is (below z)) [
                  | yes b ↦
                      let k = keep z b in let kq = tell_apart below (P z) q k bq in let kv = tell_apart below (P z) v k bv in
                      let pp = eqb-true (P p) p (cc (wp p, eqb_refl p)) in
                      cc (wp z, (row_keep_apart adj P (fixed M r p) wp z p e).left)
                  | no b ↦
                      let o = out z b g in let op = tell_apart below p (Q z) bp (cc) in
                      let qq = eqb-true (Q q) q (cc (wq q, eqb_refl q)) in
                      cc (wq z, (row_keep_apart adj Q (fixed M r q) wq z q f).left)
                ]
              ]
            ]
          ]
