-- Every number of a stored form is a byte.
use Prim.Native.Nat.{ℕ, zero, suc, ◌+◌, ◌-◌, ◌<◌}
use mathlib.Core.Path.{◌≡◌, sym, ◌∙◌, ap, subst}
use mathlib.Core.List.{List, [], ◌∷◌, ◌++◌}
use native.Mathlib.Omega.{arith}
use lib.ListN.{length, get_or, replicate, get_or-append}
use lib.Seq.{get_or-append-add}
use Rattle.ring.proofs.Cases.{compare, less, not_less}
use Rattle.ring.specs.declared.fates.Fate.TheVariants.{Served}
use Rattle.ring.specs.Fates.{fate_number}
use Rattle.book.specs.declared.circuits.Circuit.{Circuit}
use Rattle.book.specs.declared.books.Book.{Book}
use Rattle.book.specs.Books.{records_of}
use Rattle.stored.specs.declared.forms.Form.{Form}
use Rattle.stored.specs.declared.forms.Form.TheVariants.{Old, New}
use Rattle.stored.specs.Blocks.{word, check_of, numbered, block_of}
use Rattle.stored.specs.Forms.{state_number, form_mark, fields_bytes, marks_bytes, record_bytes, records_bytes, circuits_of, contents}

abbrev pub Bytes : List ℕ → Type 0
Bytes l = (i : ℕ) → get_or l i 0 < 256

append_bytes : (l m : List ℕ) → Bytes l → Bytes m → Bytes (l ++ m)
append_bytes l m p q i =
    elim (compare i (length l)) [
      | less h e ↦ subst (λ (x : ℕ). x < 256) (sym (get_or-append l m 0 i h)) (p i)
      | not_less h e ↦
          let k : length l + (i - length l) ≡ i = omega arith in
          subst (λ (x : ℕ). x < 256) (sym (get_or-append-add l m (i - length l) 0) ∙ ap (λ (j : ℕ). get_or (l ++ m) j 0) k) (q (i - length l))
    ]

none_bytes : Bytes []
none_bytes zero = omega arith
none_bytes (suc i) = omega arith

word_bytes : (x : ℕ) → Bytes (word x)
word_bytes x zero = omega arith
word_bytes x (suc zero) = omega arith
word_bytes x (suc (suc zero)) = omega arith
word_bytes x (suc (suc (suc i))) = omega arith

zeros_bytes : (n : ℕ) → Bytes (replicate n 0)
zeros_bytes zero i = none_bytes i
zeros_bytes (suc n) zero = omega arith
zeros_bytes (suc n) (suc i) = zeros_bytes n i

fields_bytes_lem : (c : Circuit) → Bytes (fields_bytes c)
fields_bytes_lem c =
    let fate = word (fate_number (Served c.way c.colour)) in
    append_bytes (word c.serial) (word c.a ++ (word c.b ++ fate)) (word_bytes c.serial)
    (append_bytes (word c.a) (word c.b ++ fate) (word_bytes c.a)
    (append_bytes (word c.b) fate (word_bytes c.b) (word_bytes (fate_number (Served c.way c.colour)))))

marks_bytes_lem : (form : Form) (c : Circuit) → Bytes (marks_bytes form c)
marks_bytes_lem Old c = none_bytes
marks_bytes_lem New c =
    append_bytes (word c.crew) (word (state_number c.state)) (word_bytes c.crew) (word_bytes (state_number c.state))

records_bytes_lem : (form : Form) (cs : List Circuit) → Bytes (records_bytes form cs)
records_bytes_lem form [] = none_bytes
records_bytes_lem form (c ∷ cs) =
    append_bytes (record_bytes form c) (records_bytes form cs)
    (append_bytes (fields_bytes c) (marks_bytes form c) (fields_bytes_lem c) (marks_bytes_lem form c)) (records_bytes_lem form cs)

contents_bytes : (form : Form) (b : Book) (k : ℕ) → Bytes (contents form b k)
contents_bytes form b zero =
    let count = word (length (records_of b)) in
    let mark = word (form_mark form) in
    append_bytes (word b.n) (word b.w ++ (word b.grants ++ (count ++ mark))) (word_bytes b.n)
    (append_bytes (word b.w) (word b.grants ++ (count ++ mark)) (word_bytes b.w)
    (append_bytes (word b.grants) (count ++ mark) (word_bytes b.grants)
    (append_bytes count mark (word_bytes (length (records_of b))) (word_bytes (form_mark form)))))
contents_bytes form b (suc k) = records_bytes_lem form (circuits_of form b k)

pub block_bytes : (form : Form) (b : Book) (k : ℕ) → Bytes (block_of k (contents form b k))
unfolding block_of numbered
block_bytes form b k =
    append_bytes (numbered k (contents form b k)) (word (check_of (numbered k (contents form b k))))
    (append_bytes (contents form b k ++ replicate (508 - length (contents form b k)) 0) (word k)
    (append_bytes (contents form b k) (replicate (508 - length (contents form b k)) 0) (contents_bytes form b k)
    (zeros_bytes (508 - length (contents form b k))))
    (word_bytes k))
    (word_bytes (check_of (numbered k (contents form b k))))
