-- Case T7 as it is typed: the book's own answers, from the definitions.
use Prim.Native.Nat.{ℕ}
use mathlib.Core.Path.{◌≡◌, refl, ◌∙◌, ap}
use mathlib.Core.List.{List, [], ◌∷◌, ◌++◌}
use Rattle.std.specs.Prelude.{Some, None, Ok}
use Rattle.ring.specs.Ways.{uses, some_link}
use Rattle.ring.specs.Admission.{ring_verdict, ends_verdict}
use Rattle.book.specs.declared.books.Book.{Book}
use Rattle.book.specs.Circuits.{some_circuit, holds}
use Rattle.book.specs.Books.{Valid, opened}
use Rattle.book.specs.Crews.{crew_verdict}
use Rattle.book.specs.Grants.{held_in, held_on_way, colour_held, argument_verdict, room_verdict, grant_verdict, granted}
use Rattle.book.specs.Orders.{never_given, lookup_in, lookup, missing, shown, shown_to}
use Rattle.book.specs.Removals.{removed}
use Rattle.book.specs.Confirmations.{absent, confirmed}
use Rattle.book.specs.Revisions.{revision}
use Rattle.book.proofs.Validity.{keeps_valid}
use Rattle.stored.specs.declared.forms.Form.TheVariants.{New}
use Rattle.stored.specs.Forms.{stored_form}
use Rattle.texts.specs.Bytes.{bytes}
use Rattle.texts.specs.Decimal.{decimal, long_decimal}
use Rattle.texts.specs.Fields.{field, line}
use Rattle.texts.specs.Layout.{labelled}
use Rattle.book_lines.specs.declared.lines.Command.TheVariants as command
use Rattle.book_text.specs.declared.answers.Answered.{Answered}
use Rattle.book_lines.specs.Lines.{single_of, pair_of, crewed_of, last_of, asked_of, open_of, grant_of, remove_of, confirm_of, show_of}
use Rattle.book_lines.specs.Lines.{command_with_numbers, command_in, squeezed, finished, heard, command_of}
use Rattle.book_text.specs.Answers.{answered_book}
use Rattle.book_replies.specs.Replies.{one_number, two_numbers, revision_text, refused_text, reply_text}
use Rattle.book_text.specs.Promises.{File, line_answer, file_after}
use Rattle.book_text.specs.Histories.{line_answers, TypedT7}
use Rattle.book_text.proofs.AnswerLaws.{book_after, book_valid}
use Rattle.book_text.proofs.LineHistories.{file_opened, answers_book, file_next}

-- the answers of a book to lines, one behind the other
abbrev spoken : Book → List (List ℕ) → List ℕ
spoken b [] = []
spoken b (said ∷ lines) =
    reply_text (heard said) (answered_book b (command_of said)).reply ++ spoken (book_after b (command_of said)) lines

-- a file that holds the book answers as that book
answers_run : (b : Book) → Valid b → (lines : List (List ℕ)) → line_answers (Some (stored_form New b)) lines ≡ spoken b lines
answers_run b v [] = refl
answers_run b v (said ∷ lines) =
    let next = file_after (Some (stored_form New b)) said in
    ap (λ (x : Answered). reply_text (heard said) x.reply ++ line_answers next lines) (answers_book b [] v said)
    ∙ ap (λ (l : List ℕ). reply_text (heard said) (answered_book b (command_of said)).reply ++ l)
    (ap (λ (f : File). line_answers f lines) (file_next b [] v said)
    ∙ answers_run (book_after b (command_of said)) (book_valid b v (command_of said)) lines)

-- the first line, and those behind it
abbrev first : List ℕ
first = bytes "open 4 1\n"

abbrev behind : List (List ℕ)
behind =
    bytes "grant 0 2 0 0\n"
    ∷ bytes "grant 2 3 0 0\n"
    ∷ bytes "grant 1 3 0 0\n"
    ∷ bytes "remove 1\n"
    ∷ bytes "grant 0 1 0 0\n"
    ∷ bytes "confirm 1\n"
    ∷ bytes "grant 0 2 1 0\n"
    ∷ bytes "grant 0 1 0 0\n"
    ∷ bytes "show 1\n"
    ∷ bytes "show 4\n"
    ∷ bytes "revision\n"
    ∷ []

allowed : ring_verdict 4 1 ≡ Ok tt
unfolding ring_verdict
allowed = refl

opens : command_of first ≡ command.Open 4 1
unfolding field line pair_of open_of command_with_numbers command_in squeezed finished command_of
opens = refl

computed : line_answer None first ++ spoken (opened 4 1).book behind
    ≡ bytes "opened 4 1\ngranted 1\ngranted 2\nrefused 11 that colour is held on a link of the way\n"
    ++ (bytes "removed 1\nrefused 11 that colour is held on a link of the way\n"
    ++ (bytes "confirmed 1\nrefused 11 that colour is held on a link of the way\ngranted 3\n"
    ++ bytes "refused 15 removed\nrefused 14 serial 0 or never given\nrevision 4\n"))
unfolding opened ring_verdict ends_verdict granted grant_verdict argument_verdict room_verdict colour_held held_on_way held_in some_circuit holds uses
    some_link crew_verdict removed confirmed lookup lookup_in missing absent never_given shown shown_to revision field line single_of pair_of
    crewed_of last_of asked_of open_of grant_of remove_of confirm_of show_of command_with_numbers command_in squeezed finished heard command_of
    decimal long_decimal labelled one_number two_numbers revision_text refused_text
computed = refl

pub typed_t7 : TypedT7
typed_t7 =
    ap (λ (l : List ℕ). line_answer None first ++ l)
    (ap (λ (f : File). line_answers f behind) (file_opened 4 1 allowed first opens)
    ∙ answers_run (opened 4 1).book (keeps_valid.opening 4 1 allowed) behind)
    ∙ computed
