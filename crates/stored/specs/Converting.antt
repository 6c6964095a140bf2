-- Converting a stored book from the old form to the new one, and back.
use Rattle.std.specs.Prelude.{ℕ, cond, List, Result, Ok, Err, ⊤}
use Rattle.ring.specs.declared.refusals.Refusal.{Refusal}
use Rattle.ring.specs.declared.refusals.Refusal.TheVariants.{MarkedConversion}
use Rattle.book.specs.declared.books.Book.{Book}
use Rattle.book.specs.Books.{has_marked}
use Rattle.stored.specs.declared.forms.Form.TheVariants.{Old, New}
use Rattle.stored.specs.Storing.{form_answer, after_form}
use Rattle.stored.specs.Loading.{loaded, loaded_old}

-- "A conversion is refused as the load of its input .., then by 17, and success is as in Store."
abbrev pub convert_after : Result ⊤ Refusal → Book → List ℕ → Result ℕ Refusal
convert_after (Ok tt) b buffer = form_answer New b buffer
convert_after (Err r) b buffer = Err r

-- the buffer afterwards
abbrev pub buffer_after : Result ⊤ Refusal → Book → List ℕ → List ℕ
buffer_after (Ok tt) b buffer = after_form New b buffer
buffer_after (Err r) b buffer = buffer

-- "Every old file that loads converts"
unfoldable pub convert_answer : List ℕ → List ℕ → Result ℕ Refusal
convert_answer bytes buffer = convert_after (loaded_old bytes).answer (loaded_old bytes).book buffer

-- the buffer afterwards
unfoldable pub after_convert : List ℕ → List ℕ → List ℕ
after_convert bytes buffer = buffer_after (loaded_old bytes).answer (loaded_old bytes).book buffer

-- "27, conversion back with a pending record or crew other than 0, before 17"
abbrev pub back_after : Result ⊤ Refusal → Book → List ℕ → Result ℕ Refusal
back_after (Ok tt) b buffer = cond (has_marked b) (Err MarkedConversion) (form_answer Old b buffer)
back_after (Err r) b buffer = Err r

-- the buffer afterwards
abbrev pub buffer_after_back : Result ⊤ Refusal → Book → List ℕ → List ℕ
buffer_after_back (Ok tt) b buffer = cond (has_marked b) buffer (after_form Old b buffer)
buffer_after_back (Err r) b buffer = buffer

-- a conversion back, "refused as the load of its input, with lowest revision 0"
unfoldable pub back_answer : List ℕ → List ℕ → Result ℕ Refusal
back_answer bytes buffer = back_after (loaded 0 bytes).answer (loaded 0 bytes).book buffer

-- the buffer afterwards
unfoldable pub after_back : List ℕ → List ℕ → List ℕ
after_back bytes buffer = buffer_after_back (loaded 0 bytes).answer (loaded 0 bytes).book buffer
