-- Lines tried one after another: a copy of the book behind those that were granted, and the serials that they got.
use Prim.Native.Nat.{ℕ, zero, suc, ◌+◌, ◌-◌, ◌≤◌, ◌<◌}
use mathlib.Core.Path.{◌≡◌, refl, sym, ◌∙◌, ap, subst}
use mathlib.Core.List.{List, [], ◌∷◌, ◌++◌, append-nil}
use native.Mathlib.Omega.{arith}
use native.Mathlib.Numerals.{add-one, unary_clauses}
use lib.ListN.{length, take, drop, set, replicate, length-set, length-take, take-append-drop, drop_of_length-le}
use lib.Seq.{append_snoc, take-suc-set, drop-set-lt, drop-drop, get_or-take, length-take-le}
use Rattle.std.specs.Prelude.{Option, Some, None, Result, Ok, Err}
use Rattle.ring.specs.declared.refusals.Refusal.{Refusal}
use Rattle.ring.specs.Refusals.{Verdict}
use Rattle.ring.proofs.ListLaws.{drop_next}
use Rattle.book.specs.declared.books.Book.{Book}
use Rattle.book.specs.declared.grants.Line.{Line}
use Rattle.bundles.specs.declared.previews.Previewed.{Previewed}
use Rattle.book.specs.Books.{Valid}
use Rattle.book.specs.Grants.{Granted, argument_verdict, GrantPromise}
use Rattle.bundles.specs.Previews.{line, granted_line, serial_then, serials_for, stop_then, stop_from, entries, size_verdict}
use Rattle.bundles.specs.Previews.{preview_unless, previewed, PreviewPromise}
use Rattle.book.proofs.Validity.{grant_valid}
use Rattle.bundles.proofs.PreviewLaws.{size_within}

-- what a line comes to, by the answer of its grant
module _ (copy : Book) (l : Line) (rest : List Line) (g : Granted) (p : g ≡ granted_line copy l) (a : Result ℕ Refusal) (e : g.answer ≡ a) where
  serials_by : serials_for copy (l ∷ rest) ≡ serial_then a (serials_for g.book rest)
  serials_by =
      ap (λ (t : Granted). serial_then t.answer (serials_for t.book rest)) (sym p)
      ∙ ap (λ (x : Result ℕ Refusal). serial_then x (serials_for g.book rest)) e

  stop_by : (i : ℕ) → stop_from i copy (l ∷ rest) ≡ stop_then i a (stop_from (i + 1) g.book rest)
  stop_by i =
      ap (λ (t : Granted). stop_then i t.answer (stop_from (i + 1) t.book rest)) (sym p)
      ∙ ap (λ (x : Result ℕ Refusal). stop_then i x (stop_from (i + 1) g.book rest)) e

fewer_zeros : (k : ℕ) → ◌≡◌ {A = List ℕ} (drop 1 (replicate k 0)) (replicate (k - 1) 0)
fewer_zeros zero = refl
fewer_zeros (suc k) = simp unary_clauses refl

module _ (b : Book) (count : ℕ) (ls : List Line) where
  -- the lines that are tried
  abbrev all : List Line
  all = take count ls

  -- a ground that lies in the arguments of the first line
  abbrev first_verdict : Verdict
  first_verdict = argument_verdict b.n b.w (line ls 0).x (line ls 0).y (line ls 0).way (line ls 0).colour (line ls 0).crew

  -- the lines before i are granted
  pub record Trial (i : ℕ) (copy : Book) (serials : List ℕ) : Type 0 where
    pub allowed : size_verdict count ≡ Ok tt
    pub full : length ls ≡ 16
    pub size : length serials ≡ 16
    pub zeros : drop i serials ≡ replicate (16 - i) 0
    pub first : (r : Refusal) → first_verdict ≡ Err r → (i ≡ 0) × (copy ≡ b)
    pub kept : Valid b → Valid copy
    pub given : Valid b → take i serials ++ serials_for copy (drop i all) ≡ serials_for b all
    pub stop : Valid b → stop_from i copy (drop i all) ≡ stop_from 0 b all

  module _ (i : ℕ) (copy : Book) (serials : List ℕ) (t : Trial i copy serials) where
    -- there are 1 to 16 lines
    pub within : (1 ≤ count) × (count ≤ 16)
    within = size_within count t.allowed

    -- what was said is said of any number of lines that are allowed
    saying : (a : Option (ℕ × Refusal)) → (Valid b → a ≡ stop_from 0 b all) → (Valid b → take i serials ≡ serials_for b all)
        → i ≤ 16 → Valid b → Ok (record { stopped = a; count = i; serials = serials }) ≡ previewed b count ls
    unfolding previewed
    saying a e f h v =
        let given : List ℕ = serials_for b all in
        let n : length given ≡ i = ap length (sym (f v)) ∙ length-take-le i serials (omega (arith, t.size)) in
        let s : entries given ≡ serials = ap (λ (k : ℕ). given ++ replicate (16 - k) 0) n
        ∙ ap (λ (xs : List ℕ). xs ++ replicate (16 - i) 0) (sym (f v))
        ∙ ap (λ (xs : List ℕ). take i serials ++ xs) (sym t.zeros) ∙ take-append-drop i serials in
        ap (λ (xs : List ℕ). Ok (record { stopped = a; count = i; serials = xs })) (sym s)
        ∙ (ap (λ (k : ℕ). Ok (record { stopped = a; count = k; serials = entries given })) (sym n)
        ∙ (ap (λ (x : Option (ℕ × Refusal)). Ok (record { stopped = x; count = length given; serials = entries given })) (e v)
        ∙ ap (λ (x : Verdict). preview_unless x b all) (sym t.allowed)))

    not_refused : (r : Refusal) (p : Result Previewed Refusal) → size_verdict count ≡ Err r → p ≡ Err r
    not_refused r p e = let f = sym t.allowed ∙ e in let z : ◌≡◌ {A = ℕ} 0 1 = cc in absurd (omega arith)

    -- every line was granted
    pub all_granted : i ≡ count → PreviewPromise b count ls (Ok (record { stopped = None; count = i; serials = serials }))
    all_granted h =
        let none : drop i all ≡ [] = drop_of_length-le all {i = i} (omega (arith, length-take count ls, within)) in
        record {
          size = λ r. not_refused r _;
          arguments = λ r s f. let z = t.first r f in absurd (omega (arith, within));
          valid = saying None
              (λ v. ap (stop_from i copy) (sym none) ∙ t.stop v)
              (λ v. sym (append-nil (take i serials))
              ∙ ap (λ (xs : List Line). take i serials ++ serials_for copy xs) (sym none) ∙ t.given v)
              (omega (arith, within));
        }

    module _ (h : i < count) (g : Granted)
        (promise : GrantPromise copy (line ls i).x (line ls i).y (line ls i).way (line ls i).colour (line ls i).crew g) where
      -- line i stands before the lines that are left
      abbrev rest : List Line
      rest = drop (i + 1) all

      next : drop i all ≡ line ls i ∷ rest
      next =
          drop_next all i (record { x = 0; y = 0; way = 0; colour = 0; crew = 0 }) (omega (arith, length-take count ls, within, t.full))
          ∙ ap (λ (l : Line). l ∷ rest)
          (get_or-take count ls i (record { x = 0; y = 0; way = 0; colour = 0; crew = 0 }) h)

      same : Valid b → g ≡ granted_line copy (line ls i)
      same v = promise.valid (t.kept v)

      -- what is said in all, by the answer to line i
      given_by : Valid b → (a : Result ℕ Refusal) → g.answer ≡ a
          → take i serials ++ serial_then a (serials_for g.book rest) ≡ serials_for b all
      given_by v a e =
          ap (λ (xs : List ℕ). take i serials ++ xs) (sym (serials_by copy (line ls i) rest g (same v) a e))
          ∙ ap (λ (xs : List Line). take i serials ++ serials_for copy xs) (sym next) ∙ t.given v

      stops_by : Valid b → (a : Result ℕ Refusal) → g.answer ≡ a → stop_then i a (stop_from (i + 1) g.book rest) ≡ stop_from 0 b all
      stops_by v a e = sym (stop_by copy (line ls i) rest g (same v) a e i) ∙ ap (stop_from i copy) (sym next) ∙ t.stop v

      -- a ground that lies in the arguments of the first line turns that line down
      refused_first : (q : Refusal) → first_verdict ≡ Err q → g.answer ≡ Err q
      refused_first q f =
          let p = t.first q f in ap (λ (x : Granted). x.answer) (promise.arguments q (rw (p.1, p.0) f))

      -- it is granted
      pub trial_goes_on : (s : ℕ) → g.answer ≡ Ok s → Trial (i + 1) g.book (set serials i s)
      trial_goes_on s e =
          let left : 16 - i - 1 ≡ 16 - (i + 1) = omega arith in
          let front : take (i + 1) (set serials i s) ≡ take i serials ++ (s ∷ []) =
          rw add-one (take-suc-set serials i s (omega (arith, t.size, within))) in
          record {
            allowed = t.allowed;
            full = t.full;
            size = length-set serials i s ∙ t.size;
            zeros = drop-set-lt (i + 1) serials i s (omega arith) ∙ sym (drop-drop 1 i serials) ∙ ap (drop 1) t.zeros
                ∙ fewer_zeros (16 - i) ∙ ap (λ (k : ℕ). replicate k 0) left;
            first = λ r f. let z = sym e ∙ refused_first r f in let y : ◌≡◌ {A = ℕ} 0 1 = cc in absurd (omega arith);
            kept = λ v. subst (λ (x : Granted). Valid x.book) (sym (same v))
                (grant_valid copy (t.kept v) (line ls i).x (line ls i).y (line ls i).way (line ls i).colour (line ls i).crew);
            given = λ v. ap (λ (xs : List ℕ). xs ++ serials_for g.book rest) front
                ∙ append_snoc (take i serials) s (serials_for g.book rest)
                ∙ given_by v (Ok s) e;
            stop = λ v. stops_by v (Ok s) e;
          }

      -- it is turned down
      pub stopped : (r : Refusal) → g.answer ≡ Err r
          → PreviewPromise b count ls (Ok (record { stopped = Some (i, r); count = i; serials = serials }))
      stopped r e = record {
        size = λ q. not_refused q _;
        arguments = λ q a f.
            let p = t.first q f in
            let z : r ≡ q = let y = sym e ∙ refused_first q f in cc in
            let w : serials ≡ replicate 16 0 = rw p.0 at t.zeros in
            rw (p.0, z, w) refl;
        valid = saying (Some (i, r))
            (λ v. stops_by v (Err r) e)
            (λ v. sym (append-nil (take i serials)) ∙ given_by v (Err r) e)
            (omega (arith, within));
      }
