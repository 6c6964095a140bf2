-- Only a line that needs to write changes the file, and a file goes from line to line as its book goes from call to call.
use Prim.Native.Nat.{ℕ}
use mathlib.Core.Path.{◌≡◌, refl, sym, ◌∙◌, ap}
use mathlib.Core.Bool.{true}
use mathlib.Core.List.{List, [], ◌∷◌}
use Rattle.std.specs.Prelude.{Option, Some, None, Result, Ok, Err, ⊤, is_some, unwrap_or}
use Rattle.ring.specs.declared.refusals.Refusal.{Refusal}
use Rattle.ring.specs.Refusals.{Verdict}
use Rattle.ring.specs.Admission.{ring_verdict}
use Rattle.ring.proofs.Cases.{impossible}
use Rattle.book.specs.declared.circuits.Circuit.{Circuit}
use Rattle.book.specs.declared.books.Book.{Book}
use Rattle.book.specs.Books.{Valid, opened}
use Rattle.book.specs.Grants.{grant_verdict, grant_unless, granted}
use Rattle.book.specs.Removals.{removed}
use Rattle.book.specs.Confirmations.{confirmed}
use Rattle.book.specs.History.{Call, run}
use Rattle.book.proofs.Outcomes.{removal_cases, confirmation_cases}
use Rattle.book.proofs.EveryHistory.{every_history}
use Rattle.stored.specs.declared.forms.Form.TheVariants.{New}
use Rattle.stored.specs.Forms.{stored_form}
use Rattle.stored.specs.Loading.{Loaded, loaded_old}
use Rattle.stored.proofs.EitherForm.{either_back, either_old}
use Rattle.stored.proofs.StoredHistories.{stored_histories}
use Rattle.book_lines.specs.declared.lines.Command.{Command}
use Rattle.book_lines.specs.declared.lines.Command.TheVariants as command
use Rattle.book_lines.specs.Lines.{command_of}
use Rattle.book_text.specs.declared.answers.Answered.{Answered}
use Rattle.book_text.specs.declared.obeying.Need.TheVariants.{Writing}
use Rattle.book_text.specs.Needs.{need_of}
use Rattle.book_text.specs.Answers.{Contents, found_by, opening_by, granting_by, removing_by, confirming_by}
use Rattle.book_text.specs.Answers.{answered_none, answered_book, answered}
use Rattle.book_text.specs.Promises.{File, contents_of, obeyed, form_or, file_after, OnlyWritingChanges}
use Rattle.book_text.specs.Histories.{file_after_all, called, calls_of, FileHolds, OldFile, LineHistories}
use Rattle.book_text.proofs.AnswerLaws.{book_after}

-- what changes the book is a command that writes
changing : (contents : Contents) (c : Command) → is_some (answered contents c).changed ≡ true → need_of c ≡ Writing
changing contents (command.Open n w) e = refl
changing contents (command.Grant l) e = refl
changing contents (command.Remove serial) e = refl
changing contents (command.Confirm serial) e = refl
changing (Ok None) command.Preview e = impossible (sym e)
changing (Ok (Some b)) command.Preview e = impossible (sym e)
changing (Err r) command.Preview e = impossible (sym e)
changing (Ok None) (command.Show serial crew) e = impossible (sym e)
changing (Ok (Some b)) (command.Show serial crew) e = impossible (sym e)
changing (Err r) (command.Show serial crew) e = impossible (sym e)
changing (Ok None) (command.Holder link colour crew) e = impossible (sym e)
changing (Ok (Some b)) (command.Holder link colour crew) e = impossible (sym e)
changing (Err r) (command.Holder link colour crew) e = impossible (sym e)
changing (Ok None) command.Count e = impossible (sym e)
changing (Ok (Some b)) command.Count e = impossible (sym e)
changing (Err r) command.Count e = impossible (sym e)
changing (Ok None) command.Revision e = impossible (sym e)
changing (Ok (Some b)) command.Revision e = impossible (sym e)
changing (Err r) command.Revision e = impossible (sym e)
changing (Ok None) command.List e = impossible (sym e)
changing (Ok (Some b)) command.List e = impossible (sym e)
changing (Err r) command.List e = impossible (sym e)
changing (Ok None) command.Pending e = impossible (sym e)
changing (Ok (Some b)) command.Pending e = impossible (sym e)
changing (Err r) command.Pending e = impossible (sym e)
changing (Ok None) (command.Aside a) e = impossible (sym e)
changing (Ok (Some b)) (command.Aside a) e = impossible (sym e)
changing (Err r) (command.Aside a) e = impossible (sym e)

pub only_writing_changes : OnlyWritingChanges
only_writing_changes file line e = changing (contents_of file) (command_of line) e

-- a change that the book refuses leaves it
grant_left : (b : Book) (x y way colour crew : ℕ) (r : Refusal) → (granted b x y way colour crew).answer ≡ Err r
    → (granted b x y way colour crew).book ≡ b
unfolding granted
grant_left b x y way colour crew r = go (grant_verdict b x y way colour crew) _
  where
    go : (v : Verdict) (c : Circuit) → (grant_unless v b c).answer ≡ Err r → (grant_unless v b c).book ≡ b
    go (Ok allowed) c e = impossible (cc)
    go (Err q) c e = refl

remove_left : (b : Book) (serial : ℕ) (r : Refusal) → (removed b serial).answer ≡ Err r → (removed b serial).book ≡ b
remove_left b serial r =
    removal_cases b serial (λ d. d.answer ≡ Err r → d.book ≡ b) (λ i l named live e. impossible (cc)) (λ q e. refl)

confirm_left : (b : Book) (serial : ℕ) (r : Refusal) → (confirmed b serial).answer ≡ Err r → (confirmed b serial).book ≡ b
confirm_left b serial r =
    confirmation_cases b serial (λ d. d.answer ≡ Err r → d.book ≡ b) (λ i l named pending e. impossible (cc)) (λ q e. refl)

-- the book that an answer leaves of one that calls led to is the book after its call
leads : (o : Book) (calls : List Call) (c : Command) → book_after (run o calls) c ≡ run o (called c calls)
leads o calls (command.Open n w) = refl
leads o calls (command.Grant l) = go (granted b l.x l.y l.way l.colour l.crew).answer refl
  where
    b : Book
    b = run o calls

    go : (a : Result ℕ Refusal) → (granted b l.x l.y l.way l.colour l.crew).answer ≡ a
        → unwrap_or (granting_by a (granted b l.x l.y l.way l.colour l.crew).book).changed b ≡ (granted b l.x l.y l.way l.colour l.crew).book
    go (Ok serial) e = refl
    go (Err r) e = sym (grant_left b l.x l.y l.way l.colour l.crew r e)
leads o calls command.Preview = refl
leads o calls (command.Remove serial) = go (removed b serial).answer refl
  where
    b : Book
    b = run o calls

    go : (a : Result ⊤ Refusal) → (removed b serial).answer ≡ a
        → unwrap_or (removing_by serial a (removed b serial).book).changed b ≡ (removed b serial).book
    go (Ok removed) e = refl
    go (Err r) e = sym (remove_left b serial r e)
leads o calls (command.Confirm serial) = go (confirmed b serial).answer refl
  where
    b : Book
    b = run o calls

    go : (a : Result ⊤ Refusal) → (confirmed b serial).answer ≡ a
        → unwrap_or (confirming_by serial a (confirmed b serial).book).changed b ≡ (confirmed b serial).book
    go (Ok confirmed) e = refl
    go (Err r) e = sym (confirm_left b serial r e)
leads o calls (command.Show serial crew) = refl
leads o calls (command.Holder link colour crew) = refl
leads o calls command.Count = refl
leads o calls command.Revision = refl
leads o calls command.List = refl
leads o calls command.Pending = refl
leads o calls (command.Aside a) = refl

-- the file after a line, from what the line does
file_left : (file : File) (line : List ℕ) {x : Answered} → obeyed file line ≡ x → file_after file line ≡ form_or x.changed file
file_left file line e = ap (λ (y : Answered). form_or y.changed file) e

-- a line that opens a book where there is no file
opened_so : (n w : ℕ) → ring_verdict n w ≡ Ok tt → (opened n w).answer ≡ Ok tt
unfolding opened
opened_so n w e = rw e refl

pub file_opened : (n w : ℕ) → ring_verdict n w ≡ Ok tt → (line : List ℕ) → command_of line ≡ command.Open n w
    → file_after None line ≡ Some (stored_form New (opened n w).book)
file_opened n w allowed line e =
    file_left None line
    (ap answered_none e ∙ ap (λ (a : Result ⊤ Refusal). opening_by n w a (opened n w).book) (opened_so n w allowed))

-- a file that holds the book that calls led to answers as it does
module _ (o : Book) (calls : List Call) (v : Valid (run o calls)) (line : List ℕ) where
  abbrev file : File
  file = Some (stored_form New (run o calls))

  abbrev x : Answered
  x = answered_book (run o calls) (command_of line)

  pub answers_book : obeyed file line ≡ x
  answers_book = ap (λ (l : Loaded). answered (found_by l.answer l.book) (command_of line)) (either_back (run o calls) v)

  -- and then holds the book of the answer
  pub file_next : file_after file line ≡ Some (stored_form New (book_after (run o calls) (command_of line)))
  file_next = file_left file line answers_book ∙ go x.changed
    where
      go : (changed : Option Book) → form_or changed file ≡ Some (stored_form New (unwrap_or changed (run o calls)))
      go None = refl
      go (Some d) = refl

-- lines to a file that holds an opened book
module _ (n w : ℕ) (allowed : ring_verdict n w ≡ Ok tt) where
  abbrev o : Book
  o = (opened n w).book

  stands_after : (lines : List (List ℕ))
      → file_after_all (Some (stored_form New o)) lines ≡ Some (stored_form New (run o (calls_of lines)))
  stands_after [] = refl
  stands_after (line ∷ lines) =
      ap (λ (f : File). file_after f line) (stands_after lines)
      ∙ file_next o (calls_of lines) (every_history n w allowed (calls_of lines)).valid line
      ∙ ap (λ (d : Book). Some (stored_form New d)) (leads o (calls_of lines) (command_of line))

  file_holds : (calls : List Call) (now : File) → now ≡ Some (stored_form New (run o calls)) → FileHolds n w calls now
  file_holds calls now there = record {
    bytes = stored_form New (run o calls);
    there = there;
    stored = stored_histories n w allowed calls;
    answers = λ line. ap (λ (f : File). obeyed f line) there ∙ answers_book o calls (every_history n w allowed calls).valid line;
  }

-- a file in the old form
module _ (bytes : List ℕ) (e : (loaded_old bytes).answer ≡ Ok tt) where
  abbrev b : Book
  b = (loaded_old bytes).book

  old_found : contents_of (Some bytes) ≡ Ok (Some b)
  old_found = ap (λ (l : Loaded). found_by l.answer l.book) (either_old bytes e) ∙ ap (λ (a : Result ⊤ Refusal). found_by a b) e

  old_answers : (line : List ℕ) → obeyed (Some bytes) line ≡ answered_book b (command_of line)
  old_answers line = ap (λ (there : Contents). answered there (command_of line)) old_found

  old_left : (line : List ℕ) {changed : Option Book} → (answered_book b (command_of line)).changed ≡ changed
      → file_after (Some bytes) line ≡ form_or changed (Some bytes)
  old_left line q =
      file_left (Some bytes) line (old_answers line) ∙ ap (λ (changed : Option Book). form_or changed (Some bytes)) q

  old_file : OldFile bytes b
  old_file = record { answers = old_answers; changed = λ line d q. old_left line q; left = λ line q. old_left line q }

pub line_histories : LineHistories
line_histories = record {
  opening = file_opened;
  lines = λ n w allowed lines. file_holds n w allowed _ _ (stands_after n w allowed lines);
  old = old_file;
}
