-- What the text function of `rings charges` promises.
use Rattle.std.specs.Prelude.{ℕ, List, Result, Ok, Err, ⊤}
use Rattle.ring.specs.declared.refusals.Refusal.{Refusal}
use Rattle.ring.specs.declared.refusals.Refusal.TheVariants.{TextForm}
use Rattle.ring.specs.Refusals.{Verdict}
use Rattle.texts.specs.Outputs.{Output}
use Rattle.book.specs.declared.books.Book.{Book}
use Rattle.stored.specs.Loading.{loaded_either}
use Rattle.charges.specs.Charges.{tariff_verdict}
use Rattle.book_replies.specs.Replies.{refused_text}
use Rattle.charges_text.specs.Reading.{Reading, unreadable, readable, reading_of}
use Rattle.charges_text.specs.Layout.{charges_text}

-- the charges, or "one line with the refusal" of a verdict
abbrev pub text_unless : Verdict → List ℕ → List ℕ
text_unless (Ok allowed) text = text
text_unless (Err r) text = refused_text r

-- of the book that was loaded, or the refusal of its load; then 29, 30
abbrev pub text_of : Result ⊤ Refusal → Book → List ℕ → List ℕ → List ℕ
text_of (Ok loaded) b lengths rates = text_unless (tariff_verdict b.n lengths rates) (charges_text b lengths rates)
text_of (Err r) b lengths rates = refused_text r

-- "21 first", "Then as Load, in either form"
abbrev pub text_for : List ℕ → Reading → List ℕ
text_for bytes unreadable = refused_text TextForm
text_for bytes (readable rates lengths) = text_of (loaded_either bytes).answer (loaded_either bytes).book lengths rates

-- what is printed for the bytes of a book's file and a text
unfoldable pub output_for : List ℕ → List ℕ → List ℕ
output_for bytes text = text_for bytes (reading_of text)

-- the promise: no output is longer than 16,384 bytes
abbrev pub ChargesTextPromise : List ℕ → List ℕ → List ℕ → List ℕ → ℕ → Type 0
ChargesTextPromise bytes text before after size = Output 16384 (output_for bytes text) before after size
