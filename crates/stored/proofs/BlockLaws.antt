-- What the steps of the block writer leave in a block.
use Prim.Native.Nat.{ℕ, ◌+◌, ◌-◌, ◌/◌, ◌%◌, ◌≤◌}
use mathlib.Core.Path.{◌≡◌, refl, sym, ◌∙◌, ap}
use mathlib.Core.List.{List, [], ◌∷◌, ◌++◌, append-nil}
use native.Mathlib.Omega.{arith}
use lib.ListN.{length, replicate, length-append, length-replicate}
use lib.Seq.{take-append-le}
use Rattle.ring.proofs.Cases.{compare, less, not_less}
use Rattle.book.specs.declared.circuits.Circuit.{Circuit}
use Rattle.ring.specs.declared.fates.Fate.TheVariants.{Served}
use Rattle.ring.specs.Fates.{fate_number}
use Rattle.stored.specs.declared.forms.Form.{Form}
use Rattle.stored.specs.declared.forms.Form.TheVariants.{New}
use Rattle.book.specs.declared.books.Book.{Book}
use Rattle.book.specs.Books.{records_of}
use Rattle.stored.specs.Forms.{form_mark, state_number, fields_bytes, marks_bytes, record_bytes, header_bytes}
use Rattle.ring.specs.Buffers.{written}
use Rattle.stored.specs.Blocks.{word, weighted, check_of, numbered, block_of}
use Rattle.stored.specs.Internal.Handing.{sealed}
use Rattle.ring.proofs.BufferLaws.{written_twice}
use Rattle.stored.proofs.Lists.{pad, pad_none, pad_written, pad_zeros}

-- a number of more than 16 bits is cut
quotients : (x : ℕ) → x / 65536 ≡ x / 256 / 256
quotients x =
    elim (compare (x / 65536) (x / 256 / 256)) [
      | less h e ↦ absurd (omega arith)
      | not_less h e ↦
          elim (compare (x / 256 / 256) (x / 65536)) [
            | less k e ↦ absurd (omega arith)
            | not_less k e ↦ omega arith
          ]
    ]

middle : (x : ℕ) → x % 65536 / 256 ≡ x / 256 % 256
middle x =
    let q = quotients x in
    elim (compare (x % 65536 / 256) (x / 256 % 256)) [
      | less h e ↦ absurd (omega arith)
      | not_less h e ↦
          elim (compare (x / 256 % 256) (x % 65536 / 256)) [
            | less k e ↦ absurd (omega arith)
            | not_less k e ↦ omega arith
          ]
    ]

pub word_cut : (x : ℕ) → word (x % 65536) ≡ word x
word_cut x =
    let e : x % 65536 % 256 ≡ x % 256 = omega arith in
    let f : x % 65536 / 256 % 256 ≡ x / 256 % 256 = omega (arith, middle x) in
    ap (λ (y : ℕ). y ∷ x % 65536 / 256 % 256 ∷ []) e ∙ ap (λ (y : ℕ). x % 256 ∷ y ∷ []) f

module _ (k : ℕ) (l : List ℕ) (h : length l ≤ 508) where
  pub filled_length : length (l ++ replicate (508 - length l) 0) ≡ 508
  filled_length = length-append l (replicate (508 - length l) 0) ∙ ap (λ (j : ℕ). length l + j) (length-replicate (508 - length l) 0)
      ∙ omega arith

  pub numbered_length : length (numbered k l) ≡ 510
  unfolding numbered
  numbered_length = length-append (l ++ replicate (508 - length l) 0) (word k) ∙ ap (λ (j : ℕ). j + 2) filled_length

  pub block_length : length (block_of k l) ≡ 512
  unfolding block_of
  block_length = length-append (numbered k l) (word (check_of (numbered k l))) ∙ ap (λ (j : ℕ). j + 2) numbered_length

  pub pad_numbered : written (pad l) 508 (word k) ≡ pad (numbered k l)
  unfolding numbered
  pad_numbered =
      ap (λ (xs : List ℕ). written xs 508 (word k)) (pad_zeros l (508 - length l) (omega arith))
      ∙ pad_written (l ++ replicate (508 - length l) 0) (word k) 508 filled_length (omega arith)

  -- the check of a block is that of its first 510 bytes
  pub check_first : (rest : List ℕ) → check_of (numbered k l ++ rest) ≡ check_of (numbered k l)
  unfolding check_of
  check_first rest = ap (λ (xs : List ℕ). weighted 0 xs % 65521) (take-append-le 510 (numbered k l) rest (omega (arith, numbered_length)))

  pub sealed_pad : sealed k (pad l) ≡ block_of k l
  unfolding sealed block_of pad
  sealed_pad =
      let full : 512 - length (block_of k l) ≡ 0 = omega (arith, block_length) in
      ap (λ (xs : List ℕ). written xs 510 (word (check_of xs))) pad_numbered
      ∙ ap (λ (y : ℕ). written (pad (numbered k l)) 510 (word y)) (check_first (replicate (512 - length (numbered k l)) 0))
      ∙ pad_written (numbered k l) (word (check_of (numbered k l))) 510 numbered_length (omega arith)
      ∙ ap (λ (j : ℕ). (numbered k l ++ word (check_of (numbered k l))) ++ replicate j 0) full
      ∙ append-nil (numbered k l ++ word (check_of (numbered k l)))

-- the steps of the code, one behind the other
pub sealed_steps : (k check : ℕ) (l₀ l₁ l₂ : List ℕ) → l₁ ≡ written l₀ 508 (word k) → check ≡ check_of l₁ → l₂ ≡ written l₁ 510 (word check)
    → l₂ ≡ sealed k l₀
unfolding sealed
sealed_steps k check l₀ l₁ l₂ e₁ c e₂ =
    e₂
    ∙ ap (λ (y : ℕ). written l₁ 510 (word y)) c
    ∙ ap (λ (l : List ℕ). written l 510 (word (check_of l))) e₁

pub field_steps : (circuit : Circuit) (at fate : ℕ) (l₀ l₁ l₂ l₃ l₄ : List ℕ) → at + 8 ≤ length l₀
    → fate ≡ fate_number (Served circuit.way circuit.colour) % 65536
    → l₁ ≡ written l₀ at (word circuit.serial) → l₂ ≡ written l₁ (at + 2) (word circuit.a)
    → l₃ ≡ written l₂ (at + 4) (word circuit.b) → l₄ ≡ written l₃ (at + 6) (word fate)
    → l₄ ≡ written l₀ at (fields_bytes circuit)
field_steps circuit at fate l₀ l₁ l₂ l₃ l₄ h f e₁ e₂ e₃ e₄ =
    let k₂ : l₂ ≡ written l₀ at (word circuit.serial ++ word circuit.a) = e₂
    ∙ ap (λ (l : List ℕ). written l (at + 2) (word circuit.a)) e₁
    ∙ written_twice l₀ at (word circuit.serial) (word circuit.a) (omega arith) in
    let k₃ : l₃ ≡ written l₀ at (word circuit.serial ++ word circuit.a ++ word circuit.b) = e₃
    ∙ ap (λ (l : List ℕ). written l (at + 4) (word circuit.b)) k₂
    ∙ written_twice l₀ at (word circuit.serial ++ word circuit.a) (word circuit.b) (omega arith) in
    e₄
    ∙ ap (λ (l : List ℕ). written l (at + 6) (word fate)) k₃
    ∙ ap (λ (y : ℕ). written (written l₀ at (word circuit.serial ++ word circuit.a ++ word circuit.b)) (at + 6) (word y)) f
    ∙ ap (λ (v : List ℕ). written (written l₀ at (word circuit.serial ++ word circuit.a ++ word circuit.b)) (at + 6) v)
    (word_cut (fate_number (Served circuit.way circuit.colour)))
    ∙ written_twice l₀ at (word circuit.serial ++ word circuit.a ++ word circuit.b)
    (word (fate_number (Served circuit.way circuit.colour))) (omega arith)

pub mark_steps : (circuit : Circuit) (at state : ℕ) (l₀ l₁ l₂ : List ℕ) → at + 4 ≤ length l₀ → state ≡ state_number circuit.state
    → l₁ ≡ written l₀ at (word circuit.crew) → l₂ ≡ written l₁ (at + 2) (word state)
    → l₂ ≡ written l₀ at (marks_bytes New circuit)
mark_steps circuit at state l₀ l₁ l₂ h f e₁ e₂ =
    e₂
    ∙ ap (λ (l : List ℕ). written l (at + 2) (word state)) e₁
    ∙ ap (λ (y : ℕ). written (written l₀ at (word circuit.crew)) (at + 2) (word y)) f
    ∙ written_twice l₀ at (word circuit.crew) (word (state_number circuit.state)) (omega arith)

pub record_steps : (form : Form) (circuit : Circuit) (at : ℕ) (l₀ l₁ l₂ : List ℕ)
    → at + 8 + length (marks_bytes form circuit) ≤ length l₀
    → l₁ ≡ written l₀ at (fields_bytes circuit) → l₂ ≡ written l₁ (at + 8) (marks_bytes form circuit)
    → l₂ ≡ written l₀ at (record_bytes form circuit)
record_steps form circuit at l₀ l₁ l₂ h e₁ e₂ =
    e₂
    ∙ ap (λ (l : List ℕ). written l (at + 8) (marks_bytes form circuit)) e₁
    ∙ written_twice l₀ at (fields_bytes circuit) (marks_bytes form circuit) h

pub header_steps : (form : Form) (b : Book) (count mark : ℕ) (l₀ l₁ l₂ l₃ l₄ l₅ l₆ l₇ : List ℕ) → length l₀ ≡ 512 → l₁ ≡ replicate (length l₀) 0
    → count ≡ length (records_of b) → mark ≡ form_mark form
    → l₂ ≡ written l₁ 0 (word b.n) → l₃ ≡ written l₂ 2 (word b.w) → l₄ ≡ written l₃ 4 (word b.grants) → l₅ ≡ written l₄ 6 (word count)
    → l₆ ≡ written l₅ 8 (word mark) → l₇ ≡ sealed 0 l₆ → l₇ ≡ block_of 0 (header_bytes form b)
header_steps form b count mark l₀ l₁ l₂ l₃ l₄ l₅ l₆ l₇ h e₁ c m e₂ e₃ e₄ e₅ e₆ e₇ =
    let k₁ : l₁ ≡ pad [] = e₁ ∙ ap (λ (j : ℕ). replicate j 0) h ∙ sym pad_none in
    let k₂ : l₂ ≡ pad (word b.n) = e₂ ∙ ap (λ (l : List ℕ). written l 0 (word b.n)) k₁ ∙ pad_written [] (word b.n) 0 refl (omega arith) in
    let k₃ : l₃ ≡ pad (word b.n ++ word b.w) = e₃ ∙ ap (λ (l : List ℕ). written l 2 (word b.w)) k₂
    ∙ pad_written (word b.n) (word b.w) 2 refl (omega arith) in
    let k₄ : l₄ ≡ pad (word b.n ++ word b.w ++ word b.grants) = e₄ ∙ ap (λ (l : List ℕ). written l 4 (word b.grants)) k₃
    ∙ pad_written (word b.n ++ word b.w) (word b.grants) 4 refl (omega arith) in
    let k₅ : l₅ ≡ pad (word b.n ++ word b.w ++ word b.grants ++ word count) = e₅ ∙ ap (λ (l : List ℕ). written l 6 (word count)) k₄
    ∙ pad_written (word b.n ++ word b.w ++ word b.grants) (word count) 6 refl (omega arith) in
    let k₆ : l₆ ≡ pad (word b.n ++ word b.w ++ word b.grants ++ word count ++ word mark) = e₆
    ∙ ap (λ (l : List ℕ). written l 8 (word mark)) k₅
    ∙ pad_written (word b.n ++ word b.w ++ word b.grants ++ word count) (word mark) 8 refl (omega arith) in
    e₇ ∙ ap (sealed 0) k₆ ∙ sealed_pad 0 (word b.n ++ word b.w ++ word b.grants ++ word count ++ word mark) (omega arith)
    ∙ ap (λ (x : ℕ). block_of 0 (word b.n ++ word b.w ++ word b.grants ++ word x ++ word mark)) c
    ∙ ap (λ (x : ℕ). block_of 0 (word b.n ++ word b.w ++ word b.grants ++ word (length (records_of b)) ++ word x)) m
