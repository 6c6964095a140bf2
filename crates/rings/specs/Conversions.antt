-- The conversion of a stored book to either form: `rings convert` comes to the new one, `rings convert back` to the old one.
use Rattle.std.specs.Prelude.{ℕ, List, Result}
use Rattle.ring.specs.declared.refusals.Refusal.{Refusal}
use Rattle.stored.specs.declared.forms.Form.{Form}
use Rattle.stored.specs.declared.forms.Form.TheVariants.{Old, New}
use Rattle.stored.specs.Converting.{convert_answer, after_convert, back_answer, after_back}

-- what the conversion answers
abbrev pub conversion_answer : Form → List ℕ → List ℕ → Result ℕ Refusal
conversion_answer Old bytes buffer = back_answer bytes buffer
conversion_answer New bytes buffer = convert_answer bytes buffer

-- the buffer afterwards
abbrev pub after_conversion : Form → List ℕ → List ℕ → List ℕ
after_conversion Old bytes buffer = after_back bytes buffer
after_conversion New bytes buffer = after_convert bytes buffer
