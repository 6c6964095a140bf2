-- What is printed reads back as itself: numbers, lines and whole texts.
use Prim.Native.Nat.{ℕ, zero, suc, ◌+◌, ◌*◌, ◌/◌, ◌<◌}
use mathlib.Core.Path.{◌≡◌, refl, sym, ◌∙◌, ap}
use mathlib.Core.List.{List, [], ◌∷◌, ◌++◌, append_assoc, append-nil}
use native.Mathlib.Omega.{arith}
use lib.Dec.{ltb}
use lib.ListN.{length, length-append}
use Rattle.ring.proofs.Cases.{yes, no, is}
use Rattle.texts.specs.Decimal.{decimal}
use Rattle.texts.specs.Fields.{Field, missing, found, on_field, field, space, line_feed, Line, broken, two, on_line, line}
use Rattle.plan_text.specs.Reading.{Lines, unfit, all, lines_from, Heading, none, numbers, heading, with_ring, behind_heading, form_of}
use Rattle.plan_text.specs.Reading.{readable, reading_of}
use Rattle.plan_text.specs.Promise.{RepeatsCount}
use Rattle.texts.proofs.DecimalRead.{decimal_read, line_read, field_small, line_small}

-- the ends of requests that a text can hold: two by two, each of 16 bits
pub data Ends : List ℕ → Type 0 where
  empty : Ends []
  more : {x y : ℕ} {ends : List ℕ} → x < 65536 → y < 65536 → Ends ends → Ends (x ∷ y ∷ ends)

-- a first line and lines of two ends, with no leading zeros, in front of a text
abbrev pub heading_text : ℕ → ℕ → ℕ → List ℕ → List ℕ
heading_text n w m text = decimal n ++ (space ∷ (decimal w ++ (space ∷ (decimal m ++ (line_feed ∷ text)))))

abbrev pub lines_text : List ℕ → List ℕ → List ℕ
lines_text [] text = text
lines_text (x ∷ []) text = text
lines_text (x ∷ y ∷ ends) text = decimal x ++ (space ∷ (decimal y ++ (line_feed ∷ lines_text ends text)))

-- the text that says n, w and the ends
abbrev pub text_of : ℕ → ℕ → ℕ → List ℕ → List ℕ
text_of n w m ends = heading_text n w m (lines_text ends [])

-- the lines read back as the ends
pub lines_read : (ends sofar : List ℕ) (m : ℕ) (text : List ℕ) → Ends ends → length ends ≡ 2 * m
    → lines_from sofar m (lines_text ends text) ≡ all (sofar ++ ends) text
lines_read [] sofar zero text empty s = ap (λ (l : List ℕ). all l text) (sym (append-nil sofar))
lines_read [] sofar (suc m) text empty s = absurd (omega arith)
lines_read (x ∷ []) sofar m text e s = elim e [ ]
lines_read (x ∷ y ∷ ends) sofar zero text (more hx hy e) s = absurd (omega arith)
lines_read (x ∷ y ∷ ends) sofar (suc m) text (more hx hy e) s =
    rw (line_read x y (lines_text ends text) hx hy)
    (lines_read ends (sofar ++ (x ∷ y ∷ [])) m text e (omega arith)
    ∙ ap (λ (l : List ℕ). all l text) (append_assoc sofar (x ∷ y ∷ []) ends))

-- the first line reads back as its numbers
pub heading_read : (n w m : ℕ) (text : List ℕ) → n < 65536 → w < 65536 → m < 65536 → heading (heading_text n w m text) ≡ numbers n w m text
unfolding heading
heading_read n w m text hn hw hm =
    let first = decimal_read space n (decimal w ++ (space ∷ (decimal m ++ (line_feed ∷ text)))) (omega arith) hn in
    let second = decimal_read space w (decimal m ++ (line_feed ∷ text)) (omega arith) hw in
    let third = decimal_read line_feed m text (omega arith) hm in
    rw (first, second, third) refl

-- and the whole text as n, w and the ends
pub text_read : (n w m : ℕ) (ends : List ℕ) → n < 65536 → w < 65536 → m < 65536 → Ends ends → length ends ≡ 2 * m
    → form_of (text_of n w m ends) ≡ readable n w ends
unfolding form_of
text_read n w m ends hn hw hm e s = rw (heading_read n w m (lines_text ends []) hn hw hm, lines_read ends [] m [] e s) refl

-- the first line's numbers have 16 bits
heading_small : (text : List ℕ) {n w m : ℕ} {lines : List ℕ} → heading text ≡ numbers n w m lines → (n < 65536) × (w < 65536) × (m < 65536)
unfolding heading
heading_small text {n} {w} {m} {lines} e = first (field space text) refl e
  where
    third : (a b : ℕ) (rest : List ℕ) → a < 65536 → b < 65536 → (f : Field) → field line_feed rest ≡ f
        → on_field f none (λ c lines. numbers a b c lines) ≡ numbers n w m lines → (n < 65536) × (w < 65536) × (m < 65536)
    third a b rest h l missing q e = let z : ◌≡◌ {A = ℕ} 0 1 = cc in absurd (omega arith)
    third a b rest h l (found c last) q e =
        let small = field_small line_feed rest q in
        let one : a ≡ n = cc in
        let other : b ≡ w = cc in
        let count : c ≡ m = cc in
        (omega arith, omega arith, omega arith)

    second : (a : ℕ) (behind : List ℕ) → a < 65536 → (f : Field) → field space behind ≡ f
        → on_field f none (λ b rest. on_field (field line_feed rest) none (λ c lines. numbers a b c lines)) ≡ numbers n w m lines
        → (n < 65536) × (w < 65536) × (m < 65536)
    second a behind h missing q e = let z : ◌≡◌ {A = ℕ} 0 1 = cc in absurd (omega arith)
    second a behind h (found b rest) q e = third a b rest h (field_small space behind q) (field line_feed rest) refl e

    first : (f : Field) → field space text ≡ f
        → on_field f none (λ a behind.
        on_field (field space behind) none (λ b rest. on_field (field line_feed rest) none (λ c lines. numbers a b c lines)))
        ≡ numbers n w m lines
        → (n < 65536) × (w < 65536) × (m < 65536)
    first missing q e = let z : ◌≡◌ {A = ℕ} 0 1 = cc in absurd (omega arith)
    first (found a behind) q e = second a behind (field_small space text q) (field space behind) refl e

-- the ends that are read are two for each line, and have 16 bits
ends_snoc : {ends : List ℕ} {x y : ℕ} → Ends ends → x < 65536 → y < 65536 → Ends (ends ++ (x ∷ y ∷ []))
ends_snoc empty h l = more h l empty
ends_snoc (more a b e) h l = more a b (ends_snoc e h l)

abbrev Fit : List ℕ → ℕ → ℕ → Type 0
Fit ends before m = Ends ends × (length ends ≡ before + 2 * m)

next_line : (m : ℕ) (sofar text : List ℕ) {ends behind : List ℕ} → Ends sofar
    → ((x y : ℕ) (rest : List ℕ) → Ends (sofar ++ (x ∷ y ∷ [])) → lines_from (sofar ++ (x ∷ y ∷ [])) m rest ≡ all ends behind
    → Fit ends (length (sofar ++ (x ∷ y ∷ []))) m)
    → (l : Line) → line text ≡ l → on_line l unfit (λ x y rest. lines_from (sofar ++ (x ∷ y ∷ [])) m rest) ≡ all ends behind
    → Fit ends (length sofar) (suc m)
next_line m sofar text s more-lines broken q e = let z : ◌≡◌ {A = ℕ} 0 1 = cc in absurd (omega arith)
next_line m sofar text s more-lines (two x y rest) q e =
    let small = line_small text q in
    let fit = more-lines x y rest (ends_snoc s small.0 small.1) e in
    let size : length (sofar ++ (x ∷ y ∷ [])) ≡ length sofar + 2 = length-append sofar (x ∷ y ∷ []) in
    let count = fit.1 in
    (fit.0, omega arith)

lines_small : (sofar : List ℕ) (m : ℕ) (text : List ℕ) {ends behind : List ℕ} → Ends sofar → lines_from sofar m text ≡ all ends behind
    → Fit ends (length sofar) m
lines_small sofar zero text {ends} s e =
    let same : sofar ≡ ends = cc in
    (rw (← same) s, rw (← same) (omega arith))
lines_small sofar (suc m) text s e =
    next_line m sofar text s (λ x y rest fit q. lines_small (sofar ++ (x ∷ y ∷ [])) m rest fit q) (line text) refl e

-- a text has one reading, and so has the text that says it without leading zeros: the same
pub reading_again : (text : List ℕ) (n w : ℕ) (ends : List ℕ) → form_of text ≡ readable n w ends
    → form_of (text_of n w (length ends / 2) ends) ≡ readable n w ends
unfolding form_of
reading_again text n w ends e = by (heading text) refl e
  where
    behind : (a b m : ℕ) (rest : List ℕ) → (a < 65536) × (b < 65536) × (m < 65536) → (l : Lines) → lines_from [] m rest ≡ l
        → with_ring a b l ≡ readable n w ends
        → form_of (text_of n w (length ends / 2) ends) ≡ readable n w ends
    behind a b m rest small unfit q e = let z : ◌≡◌ {A = ℕ} 0 1 = cc in absurd (omega arith)
    behind a b m rest small (all read (x ∷ text)) q e = let z : ◌≡◌ {A = ℕ} 0 1 = cc in absurd (omega arith)
    behind a b m rest small (all read []) q e =
        let nodes : a ≡ n = cc in
        let colours : b ≡ w = cc in
        let same : read ≡ ends = cc in
        let fit : Fit ends 0 m = rw same at (lines_small [] m rest empty q) in
        let count = fit.1 in
        text_read n w (length ends / 2) ends (omega arith) (omega arith) (omega arith) fit.0 (omega arith)

    by : (h : Heading) → heading text ≡ h → behind_heading h ≡ readable n w ends
        → form_of (text_of n w (length ends / 2) ends) ≡ readable n w ends
    by none q e = let z : ◌≡◌ {A = ℕ} 0 1 = cc in absurd (omega arith)
    by (numbers a b m rest) q e = behind a b m rest (heading_small text q) (lines_from [] m rest) refl e

-- the first line's m is half the number of ends
ends_count : (text : List ℕ) (n w m : ℕ) (rest ends : List ℕ) → heading text ≡ numbers n w m rest → form_of text ≡ readable n w ends
    → length ends / 2 ≡ m
unfolding form_of
ends_count text n w m rest ends h e = by (lines_from [] m rest) refl (rw h at e)
  where
    by : (l : Lines) → lines_from [] m rest ≡ l → with_ring n w l ≡ readable n w ends → length ends / 2 ≡ m
    by unfit q e = let z : ◌≡◌ {A = ℕ} 0 1 = cc in absurd (omega arith)
    by (all read (x ∷ text)) q e = let z : ◌≡◌ {A = ℕ} 0 1 = cc in absurd (omega arith)
    by (all read []) q e =
        let same : read ≡ ends = cc in
        let fit : Fit ends 0 m = rw same at (lines_small [] m rest empty q) in
        let count = fit.1 in
        omega arith

pub repeats_count : RepeatsCount
unfolding reading_of
repeats_count text n w m rest ends h e = elim (is (ltb 8192 (length text))) [
  | yes t ↦ let z : ◌≡◌ {A = ℕ} 0 1 = cc in absurd (omega arith)
  | no t ↦ ends_count text n w m rest ends h (cc)
]
