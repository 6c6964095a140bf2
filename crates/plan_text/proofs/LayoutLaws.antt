-- The lengths of printed lines, and the room that they leave.
use Prim.Native.Nat.{ℕ, suc, ◌+◌, ◌≤◌, ◌<◌}
use mathlib.Core.Path.{◌≡◌, refl, ◌∙◌, ap}
use mathlib.Core.List.{List, [], ◌∷◌, ◌++◌, append_assoc, append-nil}
use native.Mathlib.Omega.{arith}
use native.Mathlib.Numerals.{add-one, unary_clauses}
use lib.ListN.{length, take, get_or, length-append}
use lib.Seq.{take-suc, length-take-le}
use Rattle.ring.specs.declared.fates.Fate.{Fate}
use Rattle.ring.specs.declared.fates.Fate.TheVariants.{Blocked, Served}
use Rattle.ring.specs.Fates.{fate_of}
use Rattle.ring.specs.Plans.{fates_of}
use Rattle.planner.specs.declared.answers.Part.{Part}
use Rattle.planner.specs.declared.answers.Part.TheVariants as part
use Rattle.planner.specs.declared.answers.Summary.{Summary}
use Rattle.ring.proofs.FateLaws.{fates_length}
use Rattle.texts.specs.Bytes.{bytes}
use Rattle.texts.specs.Layout.{labelled}
use Rattle.texts.specs.declared.writing.Writer.{Writer}
use Rattle.texts.specs.Internal.Writing.{Room, Wrote}
use Rattle.texts.proofs.DecimalLaws.{decimal_short}
use Rattle.texts.proofs.WritingLaws.{wrote_then, room_left}
use Rattle.texts.proofs.WordLaws.{labelled_short, way_short}
use Rattle.plan_text.specs.Layout.{plan_line, part_word, counts_line, fate_ending, fate_line, fate_lines}

-- so much room is left behind what was written
abbrev pub Leaves : {before after : Writer} {bytes : List ℕ} → ℕ → Wrote before bytes after → Type 0
Leaves {after = after} rest s = Room rest after

-- behind a number that follows a word of at most 9 bytes
pub labelled_room : {before after : Writer} (word : List ℕ) (n rest : ℕ) (s : Wrote before (labelled word n) after)
    → length word ≤ 9 → Room (14 + rest) before → Leaves rest s
labelled_room word n rest s short room = room_left 14 rest s (omega (arith, labelled_short word n)) room

-- the line of a request, of a plan and of its counts
pub fate_short : (fate : Fate) → length (fate_ending fate) ≤ 9
fate_short Blocked = omega arith
fate_short (Served way colour) = let short = way_short way colour in rw length-append (omega arith)

pub fate_line_short : (i : ℕ) (fate : Fate) → length (fate_line i fate) ≤ 14
unfolding fate_line
fate_line_short i fate =
    let number = decimal_short i in
    let ending = fate_short fate in
    rw length-append (omega arith)

pub plan_line_short : (n w m : ℕ) → length (plan_line n w m) ≤ 23
unfolding plan_line
plan_line_short n w m =
    let first = labelled_short (bytes "plan ") n in
    let second = labelled_short (bytes " ") w in
    let third = labelled_short (bytes " ") m in
    simp length-append (omega arith)

pub part_short : (used : Part) → length (part_word used) ≤ 5
part_short part.Chain = omega arith
part_short part.Pair = omega arith

pub counts_line_short : (counts : Summary) → length (counts_line counts) ≤ 60
unfolding counts_line
counts_line_short counts =
    let first = labelled_short (bytes "chain ") counts.chain in
    let second = labelled_short (bytes " match ") counts.matched in
    let third = labelled_short (bytes " pair ") counts.paired in
    let word = part_short counts.used in
    let fourth = labelled_short (bytes " ceiling ") counts.ceiling in
    simp length-append (omega arith)

-- one request more has one line more
fates_snoc : (ks : List ℕ) (k : ℕ) → fates_of (ks ++ (k ∷ [])) ≡ fates_of ks ++ (fate_of k ∷ [])
fates_snoc [] k = refl
fates_snoc (j ∷ ks) k = ap (◌∷◌ (fate_of j)) (fates_snoc ks k)

lines_snoc : (i : ℕ) (fates : List Fate) (fate : Fate)
    → fate_lines i (fates ++ (fate ∷ [])) ≡ fate_lines i fates ++ fate_line (i + length fates) fate
lines_snoc i [] fate = simp unary_clauses (append-nil (fate_line i fate))
lines_snoc i (f ∷ fates) fate =
    let next : i + 1 + length fates ≡ i + suc (length fates) = omega arith in
    rw (append_assoc, ← next) (ap (◌++◌ (fate_line i f)) (lines_snoc (i + 1) fates fate))

pub lines_next : (table : List ℕ) (i : ℕ) → i < length table
    → fate_lines 0 (fates_of (take (i + 1) table)) ≡ fate_lines 0 (fates_of (take i table)) ++ fate_line i (fate_of (get_or table i 0))
lines_next table i h =
    let taken = fates_length (take i table) ∙ length-take-le i table (omega arith) in
    let size : 0 + length (fates_of (take i table)) ≡ i = omega arith in
    rw (add-one, take-suc table i 0 h, fates_snoc (take i table) (get_or table i 0))
    (lines_snoc 0 (fates_of (take i table)) (fate_of (get_or table i 0))
    ∙ ap (λ (j : ℕ). fate_lines 0 (fates_of (take i table)) ++ fate_line j (fate_of (get_or table i 0))) size)

-- a turn of the loop over the requests
pub wrote_line : (table : List ℕ) (i : ℕ) {before mid after : Writer} {fate : Fate} → i < length table
    → fate ≡ fate_of (get_or table i 0)
    → Wrote before (fate_lines 0 (fates_of (take i table))) mid → Wrote mid (fate_line i fate) after
    → Wrote before (fate_lines 0 (fates_of (take (i + 1) table))) after
wrote_line table i {before} {mid} {after} {fate} h e s t = rw (lines_next table i h, ← e) (wrote_then s t)
