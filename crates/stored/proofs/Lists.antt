-- Laws on lists: rows of zeros, bytes put in their place.
use Prim.Native.Nat.{ℕ, zero, suc, ◌+◌, ◌-◌, ◌≤◌}
use mathlib.Core.Path.{◌≡◌, refl, sym, ◌∙◌, ap}
use mathlib.Core.List.{List, [], ◌++◌, append_assoc}
use native.Mathlib.Omega.{arith}
use borrow.Rule.Slice.PartMut.{put_mid}
use lib.ListN.{length, drop, replicate, length-append, length-replicate, replicate-append-replicate}
use lib.Seq.{take_at, drop-append-add, drop-drop}
use Rattle.ring.specs.Buffers.{written}

pub drop_zeros : (m k : ℕ) → ◌≡◌ {A = List ℕ} (drop k (replicate m 0)) (replicate (m - k) 0)
drop_zeros m zero =
    let e : m ≡ m - 0 = omega arith in
    ap (λ (j : ℕ). replicate j 0) e
drop_zeros zero (suc k) =
    let e : 0 ≡ 0 - suc k = omega arith in
    ap (λ (j : ℕ). replicate {A = ℕ} j 0) e
drop_zeros (suc m) (suc k) =
    let e : m - k ≡ suc m - suc k = omega arith in
    drop_zeros m k ∙ ap (λ (j : ℕ). replicate j 0) e

-- bytes put in the place of as many
pub part_written : (l v : List ℕ) (at n : ℕ) → n ≡ length v → put_mid at n l v ≡ written l at v
unfolding written
part_written l v at n e = rw (e, drop-drop) (simp append_assoc)

-- 512 bytes that begin with some, and are zero behind them
unfoldable pub pad : List ℕ → List ℕ
pad l = l ++ replicate (512 - length l) 0

pub pad_none : pad [] ≡ replicate 512 0
unfolding pad
pad_none = refl

pub pad_written : (l v : List ℕ) (at : ℕ) → length l ≡ at → at + length v ≤ 512 → written (pad l) at v ≡ pad (l ++ v)
unfolding pad written
pad_written l v at e h =
    let m : 512 - length l - length v ≡ 512 - length (l ++ v) = omega (arith, length-append l v) in
    ap (λ (xs : List ℕ). (xs ++ v) ++ drop (at + length v) (l ++ replicate (512 - length l) 0))
    (take_at l (replicate (512 - length l) 0) at e)
    ∙ ap (λ (k : ℕ). (l ++ v) ++ drop (k + length v) (l ++ replicate (512 - length l) 0)) (sym e)
    ∙ ap (λ (xs : List ℕ). (l ++ v) ++ xs) (drop-append-add l (replicate (512 - length l) 0) (length v)
    ∙ drop_zeros (512 - length l) (length v) ∙ ap (λ (k : ℕ). replicate k 0) m)

pub pad_zeros : (l : List ℕ) (m : ℕ) → length l + m ≤ 512 → pad l ≡ pad (l ++ replicate m 0)
unfolding pad
pad_zeros l m h =
    let k : length (l ++ replicate m 0) ≡ length l + m = length-append l (replicate m 0)
    ∙ ap (λ (j : ℕ). length l + j) (length-replicate m 0) in
    let e : 512 - length l ≡ m + (512 - length (l ++ replicate m 0)) = omega (arith, k) in
    ap (λ (j : ℕ). l ++ replicate j 0) e
    ∙ ap (λ (xs : List ℕ). l ++ xs) (sym (replicate-append-replicate m (512 - length (l ++ replicate m 0)) 0))
    ∙ sym (append_assoc l (replicate m 0) (replicate (512 - length (l ++ replicate m 0)) 0))
