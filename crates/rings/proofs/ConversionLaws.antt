-- What a conversion writes stands within its buffer.
use Prim.Native.Nat.{ℕ, ◌≤◌}
use mathlib.Core.Path.{◌≡◌, sym, ◌∙◌}
use mathlib.Core.Bool.{Bool, true, false, cond}
use mathlib.Core.List.{List, ◌++◌}
use native.Mathlib.Omega.{arith}
use lib.Dec.{ltb}
use lib.ListN.{length, drop, length-append}
use Rattle.std.specs.Prelude.{Result, Ok, Err, IfOk, ⊤}
use Rattle.ring.proofs.Cases.{impossible}
use Rattle.ring.specs.declared.refusals.Refusal.{Refusal}
use Rattle.ring.specs.declared.refusals.Refusal.TheVariants.{BufferShort, MarkedConversion}
use Rattle.book.specs.declared.books.Book.{Book}
use Rattle.book.specs.Books.{has_marked}
use Rattle.stored.specs.declared.forms.Form.{Form}
use Rattle.stored.specs.declared.forms.Form.TheVariants.{Old, New}
use Rattle.stored.specs.Forms.{stored_form}
use Rattle.stored.specs.Storing.{length_of, form_answer, after_form}
use Rattle.stored.specs.Loading.{loaded, loaded_old}
use Rattle.stored.specs.Converting.{convert_after, buffer_after, convert_answer, after_convert}
use Rattle.stored.specs.Converting.{back_after, buffer_after_back, back_answer, after_back}
use Rattle.stored.proofs.StoreLaws.{form_length}
use Rattle.rings.specs.Conversions.{conversion_answer, after_conversion}

-- what was written stands within the buffer that is left
abbrev pub Within : Result ℕ Refusal → List ℕ → Type 0
Within r after = IfOk r (λ size. size ≤ length after)

-- a book in either form
form_within : (form : Form) (b : Book) (buffer : List ℕ) → Within (form_answer form b buffer) (after_form form b buffer)
unfolding form_answer after_form
form_within form b buffer = go (ltb (length buffer) (length_of form b))
  where
    go : (t : Bool) → Within (cond t (Err BufferShort) (Ok (length_of form b))) (cond t buffer (stored_form form b ++ drop (length_of form b) buffer))
    go true = tt
    go false = omega (arith, length-append (stored_form form b) (drop (length_of form b) buffer), form_length form b)

pub convert_within : (bytes buffer : List ℕ) → Within (convert_answer bytes buffer) (after_convert bytes buffer)
unfolding convert_answer after_convert
convert_within bytes buffer = go (loaded_old bytes).answer
  where
    go : (a : Result ⊤ Refusal) → Within (convert_after a (loaded_old bytes).book buffer) (buffer_after a (loaded_old bytes).book buffer)
    go (Ok done) = form_within New (loaded_old bytes).book buffer
    go (Err r) = tt

pub back_within : (bytes buffer : List ℕ) → Within (back_answer bytes buffer) (after_back bytes buffer)
unfolding back_answer after_back
back_within bytes buffer = go (loaded 0 bytes).answer
  where
    unmarked : (t : Bool) → Within (cond t (Err MarkedConversion) (form_answer Old (loaded 0 bytes).book buffer))
        (cond t buffer (after_form Old (loaded 0 bytes).book buffer))
    unmarked true = tt
    unmarked false = form_within Old (loaded 0 bytes).book buffer

    go : (a : Result ⊤ Refusal) → Within (back_after a (loaded 0 bytes).book buffer) (buffer_after_back a (loaded 0 bytes).book buffer)
    go (Ok done) = unmarked (has_marked (loaded 0 bytes).book)
    go (Err r) = tt

-- either one
conversion_within : (form : Form) (bytes buffer : List ℕ)
    → Within (conversion_answer form bytes buffer) (after_conversion form bytes buffer)
conversion_within Old bytes buffer = back_within bytes buffer
conversion_within New bytes buffer = convert_within bytes buffer

-- the length that it gave is within the buffer
pub conversion_fits : (form : Form) (bytes before : List ℕ) {r : Result ℕ Refusal} {after : List ℕ} {size : ℕ}
    → r ≡ conversion_answer form bytes before → after ≡ after_conversion form bytes before → r ≡ Ok size → size ≤ length after
conversion_fits form bytes before {r} {after} {size} e f q =
    go (conversion_answer form bytes before) (sym e ∙ q) (conversion_within form bytes before)
  where
    go : (a : Result ℕ Refusal) → a ≡ Ok size → Within a (after_conversion form bytes before) → size ≤ length after
    go (Ok n) p w = let same : n ≡ size = cc in rw f (omega (arith, same, w))
    go (Err g) p w = impossible (cc)
