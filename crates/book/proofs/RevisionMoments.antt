-- Two moments of one history: by its revision the later one is told, and what was removed at the earlier one is removed at the later.
use Prim.Native.Nat.{ℕ, zero, suc, ◌+◌, ◌-◌, ◌≤◌, ◌<◌}
use mathlib.Core.Path.{◌≡◌, refl, sym, ◌∙◌, ap, subst}
use mathlib.Core.Bool.{Bool, true, ◌||◌}
use mathlib.Core.List.{List, [], ◌∷◌}
use native.Mathlib.Omega.{arith}
use lib.ListN.{length, drop}
use lib.Seq.{drop-drop}
use Rattle.std.specs.Prelude.{Ok, Err}
use Rattle.ring.specs.declared.refusals.Refusal.TheVariants.{SerialRemoved}
use Rattle.ring.specs.Admission.{ring_verdict}
use Rattle.ring.proofs.Cases.{is, yes, no, compare, less, not_less, impossible}
use Rattle.book.specs.declared.books.Book.{Book}
use Rattle.book.specs.Books.{opened}
use Rattle.book.specs.Orders.{shown}
use Rattle.book.specs.History.{Call, Event, GrantAnswered, RemoveAnswered, ConfirmAnswered, ShowAnswered, HolderAnswered}
use Rattle.book.specs.History.{run, history, removes, was_removed, given, removals}
use Rattle.book.specs.Revisions.{NotShown, NotRevived}
use Rattle.book.proofs.Opening.{opened_book}
use Rattle.book.proofs.Standings.{Standing, Unknown, IsLive, IsPending, Gone, show_by, standing_of, shown_by}
use Rattle.book.proofs.Agreement.{is_removed}
use Rattle.book.proofs.Histories.{Kept, kept_run}
use Rattle.book.proofs.Readings.{shown_desk}
use Rattle.book.proofs.RevisionLaws.{revision_counts}

-- the accepted grants and removals of a history
abbrev counted : List Event → ℕ
counted h = length (given h) + removals h

-- no event lowers their number, and an accepted removal raises it
counted_next : (e : Event) (h : List Event) → counted h ≤ counted (e ∷ h)
counted_next (GrantAnswered x y way colour crew (Ok s)) h = omega arith
counted_next (GrantAnswered x y way colour crew (Err r)) h = omega arith
counted_next (RemoveAnswered s (Ok done)) h = omega arith
counted_next (RemoveAnswered s (Err r)) h = omega arith
counted_next (ConfirmAnswered s a) h = omega arith
counted_next (ShowAnswered s crew a) h = omega arith
counted_next (HolderAnswered l k crew a) h = omega arith

removal_counted : (e : Event) (h : List Event) (s : ℕ) → removes e s ≡ true → counted h < counted (e ∷ h)
removal_counted (GrantAnswered x y way colour crew a) h s t = impossible (sym t)
removal_counted (RemoveAnswered r (Ok done)) h s t = omega arith
removal_counted (RemoveAnswered r (Err q)) h s t = impossible (sym t)
removal_counted (ConfirmAnswered r a) h s t = impossible (sym t)
removal_counted (ShowAnswered r crew a) h s t = impossible (sym t)
removal_counted (HolderAnswered l k crew a) h s t = impossible (sym t)

-- ---- the history before its last k events

counted_before : (h : List Event) (k : ℕ) → counted (drop k h) ≤ counted h
counted_before h zero = omega arith
counted_before [] (suc k) = omega arith
counted_before (e ∷ h) (suc k) = omega (arith, counted_before h k, counted_next e h)

-- what it has removed stays removed
stays : (h : List Event) (k s : ℕ) → was_removed (drop k h) s ≡ true → was_removed h s ≡ true
stays h zero s r = r
stays [] (suc k) s r = r
stays (e ∷ h) (suc k) s r = elim (is (removes e s)) [
  | yes t ↦ ap (λ (u : Bool). u || was_removed h s) t
  | no t ↦ ap (λ (u : Bool). u || was_removed h s) t ∙ stays h k s r
]

-- and if no grant and no removal came since, nothing else is removed
already : (h : List Event) (k s : ℕ) → counted h ≤ counted (drop k h) → was_removed h s ≡ true → was_removed (drop k h) s ≡ true
already h zero s l r = r
already [] (suc k) s l r = r
already (e ∷ h) (suc k) s l r = elim (is (removes e s)) [
  | yes t ↦ absurd (omega (arith, l, counted_before h k, removal_counted e h s t))
  | no t ↦ already h k s (omega (arith, l, counted_next e h)) (ap (λ (u : Bool). u || was_removed h s) (sym t) ∙ r)
]

-- two moments
drop_on : (h : List Event) (i j : ℕ) → i ≤ j → drop (j - i) (drop i h) ≡ drop j h
drop_on h i j l = let k : i + (j - i) ≡ j = omega arith in drop-drop (j - i) i h ∙ ap (λ (m : ℕ). drop m h) k

removed_at : (h : List Event) (i j s : ℕ) → was_removed (drop i h) s ≡ true → counted (drop i h) ≤ counted (drop j h)
    → was_removed (drop j h) s ≡ true
removed_at h i j s r l = elim (compare i j) [
  | less m q ↦
      let on = drop_on h i j (omega arith) in
      subst (λ (x : List Event). counted (drop i h) ≤ counted x → was_removed x s ≡ true) on (λ k. already (drop i h) (j - i) s k r) l
  | not_less m q ↦ stays (drop j h) (i - j) s (ap (λ (x : List Event). was_removed x s) (drop_on h j i m) ∙ r)
]

-- ---- what is shown

history_drop : (b : Book) (calls : List Call) (k : ℕ) → history b (drop k calls) ≡ drop k (history b calls)
history_drop b calls zero = refl
history_drop b [] (suc k) = refl
history_drop b (call ∷ calls) (suc k) = history_drop b calls k

removed_shows : (t : Standing) → is_removed t ≡ true → show_by t ≡ Err SerialRemoved
removed_shows Unknown e = impossible (sym e)
removed_shows (IsLive c) e = impossible (sym e)
removed_shows (IsPending c) e = refl
removed_shows Gone e = refl

not_shown : (n w : ℕ) → ring_verdict n w ≡ Ok tt → (calls : List Call) (s : ℕ)
    → was_removed (history (opened n w).book calls) s ≡ true → NotShown (run (opened n w).book calls) s
not_shown n w e calls s r = record {
  desk = told;
  crews = λ crew c q. let shows = shown_desk crew b s c q in impossible (cc (shows, told));
}
  where
    b : Book
    b = run (opened n w).book calls

    kept : Kept n w (history (opened n w).book calls) b
    kept = subst (λ (d : Book). Kept n w (history d calls) (run d calls)) (sym (opened_book n w e)) (kept_run n w e calls)

    told : shown b s ≡ Err SerialRemoved
    told = shown_by b s ∙ removed_shows (standing_of b s) (sym (kept.orders s).removed ∙ r)

pub not_revived : NotRevived
not_revived n w e calls i j s r l =
    let b : Book = (opened n w).book in
    let at : (k : ℕ) → history b (drop k calls) ≡ drop k (history b calls) = history_drop b calls in
    let counts : counted (history b (drop i calls)) ≤ counted (history b (drop j calls)) =
    omega (arith, l, revision_counts n w e (drop i calls), revision_counts n w e (drop j calls)) in
    let before : was_removed (drop i (history b calls)) s ≡ true = ap (λ (h : List Event). was_removed h s) (sym (at i)) ∙ r in
    not_shown n w e (drop j calls) s
    (ap (λ (h : List Event). was_removed h s) (at j) ∙ removed_at (history b calls) i j s before (rw (sym (at i), sym (at j)) counts))
