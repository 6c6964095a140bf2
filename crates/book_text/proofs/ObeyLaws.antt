-- A line obeyed, from what its parts do.
use Prim.Native.Nat.{ℕ, ◌≤◌, ◌<◌}
use mathlib.Core.Path.{◌≡◌, refl, sym, ◌∙◌, ap}
use mathlib.Core.List.{List, ◌++◌}
use mathlib.Core.Logic.{◌⊎◌, ⊎_elim}
use native.Mathlib.Omega.{arith}
use lib.ListN.{length, drop}
use Rattle.std.specs.Prelude.{Option, None, Some, Result, Ok, Err, IfSome}
use Rattle.ring.specs.declared.refusals.Refusal.{Refusal}
use Rattle.texts.specs.declared.writing.Writer.{Writer}
use Rattle.texts.specs.Internal.Writing.{Begun, Wrote}
use Rattle.texts.proofs.WritingLaws.{wrote_front}
use Rattle.book.specs.declared.books.Book.{Book}
use Rattle.book.specs.Books.{Valid}
use Rattle.stored.specs.declared.forms.Form.TheVariants.{New}
use Rattle.stored.specs.Forms.{stored_form}
use Rattle.stored.specs.Storing.{length_of, form_answer, after_form}
use Rattle.stored.proofs.StoreLaws.{form_length, store_answer_lem, store_copied}
use Rattle.book_lines.specs.declared.lines.Command.{Command}
use Rattle.book_lines.specs.declared.lines.Command.TheVariants as command
use Rattle.book_lines.specs.declared.lines.Aside.{Aside}
use Rattle.book_lines.specs.Lines.{heard, command_of}
use Rattle.book_replies.specs.declared.replies.Reply.TheVariants as reply
use Rattle.book_replies.specs.Replies.{reply_text}
use Rattle.book_text.specs.declared.answers.Answered.{Answered}
use Rattle.book_text.specs.Answers.{Contents, ValidContents, only, answered}
use Rattle.book_text.specs.Promises.{File, contents_of, obeyed, Told, FormTold, ObeyPromise}
use Rattle.book_text.proofs.AnswerLaws.{valid_found, previewed_valid}

-- every new form has at most 7,168 bytes
module _ (b : Book) (form : List ℕ) (few : length_of New b ≤ 7168) (room : 7168 ≤ length form) where
  pub form_stored : {answer : Result ℕ Refusal} → answer ≡ form_answer New b form → answer ≡ Ok (length_of New b)
  form_stored e = e ∙ sym (store_answer_lem New b form (length_of New b) refl (omega arith))

  pub form_told : {size : ℕ} {after : List ℕ} → size ≡ length_of New b → after ≡ after_form New b form
      → Told (stored_form New b) form after size
  form_told e a =
      let size = form_length New b in
      record {
        whole = e ∙ sym size;
        buffer = a ∙ (store_copied New b form (omega arith) ∙ ap (λ (k : ℕ). stored_form New b ++ drop k form) (sym size));
      }

-- what the file holds, and what the command does
pub command_answered : (file : File) (c : Command) {contents : Contents} {r : Answered} → contents ≡ contents_of file
    → (ValidContents contents → r ≡ answered contents c) → r ≡ answered (contents_of file) c
command_answered file c {contents} {r} e a =
    let v : ValidContents contents = rw e (valid_found file) in a v ∙ ap (λ (x : Contents). answered x c) e

-- what the file holds, and what the line does
pub answer_is : (file : File) (line : List ℕ) {contents : Contents} {c : Command} {r : Answered} → contents ≡ contents_of file
    → c ≡ command_of line → (ValidContents contents → r ≡ answered contents c) → r ≡ obeyed file line
answer_is file line {contents} {c} {r} e q a = command_answered file c e a ∙ ap (answered (contents_of file)) q

-- an aside is answered alike, whatever the file holds
pub aside_answered : (contents : Contents) (a : Aside) → answered contents (command.Aside a) ≡ only (reply.Aside a)
aside_answered (Ok None) a = refl
aside_answered (Ok (Some b)) a = refl
aside_answered (Err r) a = refl

-- a preview is replied about a valid book
pub reply_valid : (file : File) (contents : Contents) (c : Command) {r : Answered} → contents ≡ contents_of file
    → (ValidContents contents → r ≡ answered contents c) → (b : Book) → r.reply ≡ reply.Previewed b → Valid b
reply_valid file contents c e a =
    let v : ValidContents contents = rw e (valid_found file) in previewed_valid contents c v (a v)

-- with too little room
pub obey_short : (file : File) (line reply form : List ℕ) → (length reply < 16384) ⊎ (length form < 7168)
    → ObeyPromise file line reply form reply form (record { reply = 0; form = None })
obey_short file line reply form s = record {
  short = λ l. (refl, (refl, refl));
  within = (omega arith, tt);
  obeyed = λ h k. ⊎_elim (λ l. absurd (omega arith)) (λ l. absurd (omega arith)) s;
}

-- with room for every answer
pub obey_done : (file : File) (line reply form : List ℕ) {text : List ℕ} {r : Answered} {before after : Writer} {formAfter : List ℕ} {size : ℕ}
    {stored : Option ℕ} → 16384 ≤ length reply → 7168 ≤ length form → r ≡ obeyed file line → text ≡ heard line → Begun reply before
    → Wrote before (reply_text text r.reply) after → size ≡ after.at → FormTold r.changed form formAfter stored
    → IfSome stored (λ n. n ≤ length formAfter)
    → ObeyPromise file line reply form after.out.now formAfter (record { reply = size; form = stored })
obey_done file line reply form {text} {r} {before} {after} {formAfter} {size} {stored} h k e q b w s f i = record {
  short = ⊎_elim (λ l. absurd (omega arith)) (λ l. absurd (omega arith));
  within = (omega (arith, w.room, w.kept), i);
  obeyed = λ l m. record { told = answer_told e q; stored = form_is e };
}
  where
    answer_told : {x : Answered} {t : List ℕ} → r ≡ x → text ≡ t → Told (reply_text t x.reply) reply after.out.now size
    answer_told p u = rw (← p, ← u) (record { whole = s ∙ (wrote_front b w).0; buffer = (wrote_front b w).1 })

    form_is : {x : Answered} → r ≡ x → FormTold x.changed form formAfter stored
    form_is p = rw (← p) f
