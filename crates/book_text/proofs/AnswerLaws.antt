-- What the answers say of books.
use Prim.Native.Nat.{ℕ}
use mathlib.Core.Path.{◌≡◌, refl, sym, ◌∙◌, ap, subst}
use mathlib.Core.Bool.{true, false}
use Rattle.std.specs.Prelude.{Some, None, Result, Ok, Err, ⊤, unwrap_or}
use Rattle.ring.specs.declared.refusals.Refusal.{Refusal}
use Rattle.ring.proofs.Cases.{impossible}
use Rattle.book.specs.declared.books.Book.{Book}
use Rattle.book.specs.declared.circuits.Circuit.{Circuit}
use Rattle.book.specs.declared.holders.Holder.{Holder}
use Rattle.book.specs.Books.{Valid, opened}
use Rattle.book.specs.Grants.{granted}
use Rattle.book.specs.Removals.{removed}
use Rattle.book.specs.Confirmations.{confirmed}
use Rattle.book.specs.Orders.{shown_to}
use Rattle.book.specs.Holders.{held_for}
use Rattle.book.proofs.Validity.{keeps_valid}
use Rattle.stored.specs.Loading.{loaded_either}
use Rattle.stored.proofs.EitherForm.{either_valid}
use Rattle.book_lines.specs.declared.lines.Command.{Command}
use Rattle.book_lines.specs.declared.lines.Command.TheVariants as command
use Rattle.book_replies.specs.declared.replies.Reply.{Reply}
use Rattle.book_replies.specs.declared.replies.Reply.TheVariants as reply
use Rattle.book_text.specs.declared.answers.Answered.{Answered}
use Rattle.book_text.specs.Answers.{Contents, found_by, ValidContents, opening_by, granting_by, removing_by, confirming_by, showing_by}
use Rattle.book_text.specs.Answers.{holding_by, turned_down, answered_none, answered_book, answered}
use Rattle.book_text.specs.Promises.{File, contents_of}

-- what a file holds is valid
pub valid_found : (file : File) → ValidContents (contents_of file)
valid_found None b e = let z : true ≡ false = cc in impossible z
valid_found (Some bytes) b e = go (loaded_either bytes).answer refl e
  where
    go : (a : Result ⊤ Refusal) → (loaded_either bytes).answer ≡ a → found_by a (loaded_either bytes).book ≡ Ok (Some b) → Valid b
    go (Ok loaded) q e = let z : (loaded_either bytes).book ≡ b = cc in subst Valid z (either_valid bytes q)
    go (Err r) q e = let z : true ≡ false = cc in impossible z

-- a preview is replied only about a valid book
abbrev Sound : Reply → Type 0
Sound (reply.Previewed b) = Valid b
Sound _ = Unit

turned_sound : (said : Reply) → Sound said → (c : Command) → Sound (turned_down said c).reply
turned_sound said s (command.Open n w) = s
turned_sound said s (command.Grant l) = s
turned_sound said s command.Preview = s
turned_sound said s (command.Remove serial) = s
turned_sound said s (command.Confirm serial) = s
turned_sound said s (command.Show serial crew) = s
turned_sound said s (command.Holder link colour crew) = s
turned_sound said s command.Count = s
turned_sound said s command.Revision = s
turned_sound said s command.List = s
turned_sound said s command.Pending = s
turned_sound said s (command.Aside a) = tt

none_sound : (c : Command) → Sound (answered_none c).reply
none_sound (command.Open n w) = go (opened n w).answer
  where
    go : (a : Result ⊤ Refusal) → Sound (opening_by n w a (opened n w).book).reply
    go (Ok opened) = tt
    go (Err r) = tt
none_sound (command.Grant l) = tt
none_sound command.Preview = tt
none_sound (command.Remove serial) = tt
none_sound (command.Confirm serial) = tt
none_sound (command.Show serial crew) = tt
none_sound (command.Holder link colour crew) = tt
none_sound command.Count = tt
none_sound command.Revision = tt
none_sound command.List = tt
none_sound command.Pending = tt
none_sound (command.Aside a) = tt

book_sound : (b : Book) → Valid b → (c : Command) → Sound (answered_book b c).reply
book_sound b v (command.Open n w) = tt
book_sound b v (command.Grant l) = go (granted b l.x l.y l.way l.colour l.crew).answer
  where
    go : (a : Result ℕ Refusal) → Sound (granting_by a (granted b l.x l.y l.way l.colour l.crew).book).reply
    go (Ok serial) = tt
    go (Err r) = tt
book_sound b v command.Preview = v
book_sound b v (command.Remove serial) = go (removed b serial).answer
  where
    go : (a : Result ⊤ Refusal) → Sound (removing_by serial a (removed b serial).book).reply
    go (Ok removed) = tt
    go (Err r) = tt
book_sound b v (command.Confirm serial) = go (confirmed b serial).answer
  where
    go : (a : Result ⊤ Refusal) → Sound (confirming_by serial a (confirmed b serial).book).reply
    go (Ok confirmed) = tt
    go (Err r) = tt
book_sound b v (command.Show serial crew) = go (shown_to crew b serial)
  where
    go : (a : Result Circuit Refusal) → Sound (showing_by a)
    go (Ok c) = tt
    go (Err r) = tt
book_sound b v (command.Holder link colour crew) = go (held_for crew b link colour)
  where
    go : (a : Result Holder Refusal) → Sound (holding_by a)
    go (Ok h) = tt
    go (Err r) = tt
book_sound b v command.Count = tt
book_sound b v command.Revision = tt
book_sound b v command.List = tt
book_sound b v command.Pending = tt
book_sound b v (command.Aside a) = tt

pub previewed_valid : (contents : Contents) (c : Command) → ValidContents contents → {r : Answered} → r ≡ answered contents c
    → (b : Book) → r.reply ≡ reply.Previewed b → Valid b
previewed_valid contents c v e b q = subst Sound (sym (ap (λ (x : Answered). x.reply) e) ∙ q) (go contents v)
  where
    go : (contents : Contents) → ValidContents contents → Sound (answered contents c).reply
    go (Ok None) v = none_sound c
    go (Ok (Some b)) v = book_sound b (v b refl) c
    go (Err r) v = turned_sound (reply.Refused r) tt c

-- the book after an answer: the changed one, or the one that was there
abbrev pub book_after : Book → Command → Book
book_after b c = unwrap_or (answered_book b c).changed b

pub book_valid : (b : Book) → Valid b → (c : Command) → Valid (book_after b c)
book_valid b v (command.Open n w) = v
book_valid b v (command.Grant l) = go (granted b l.x l.y l.way l.colour l.crew).answer
  where
    go : (a : Result ℕ Refusal) → Valid (unwrap_or (granting_by a (granted b l.x l.y l.way l.colour l.crew).book).changed b)
    go (Ok serial) = keeps_valid.granting b v l.x l.y l.way l.colour l.crew
    go (Err r) = v
book_valid b v command.Preview = v
book_valid b v (command.Remove serial) = go (removed b serial).answer
  where
    go : (a : Result ⊤ Refusal) → Valid (unwrap_or (removing_by serial a (removed b serial).book).changed b)
    go (Ok removed) = keeps_valid.removing b v serial
    go (Err r) = v
book_valid b v (command.Confirm serial) = go (confirmed b serial).answer
  where
    go : (a : Result ⊤ Refusal) → Valid (unwrap_or (confirming_by serial a (confirmed b serial).book).changed b)
    go (Ok confirmed) = keeps_valid.confirming b v serial
    go (Err r) = v
book_valid b v (command.Show serial crew) = v
book_valid b v (command.Holder link colour crew) = v
book_valid b v command.Count = v
book_valid b v command.Revision = v
book_valid b v command.List = v
book_valid b v command.Pending = v
book_valid b v (command.Aside a) = v
