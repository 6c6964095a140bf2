-- What a stored block gives back when it is read.
use Prim.Native.Nat.{ℕ, zero, suc, ◌+◌, ◌-◌, ◌*◌, ◌/◌, ◌%◌, ◌≤◌, ◌<◌}
use mathlib.Core.Path.{◌≡◌, refl, sym, ◌∙◌, ap}
use mathlib.Core.Bool.{Bool, true, ◌&&◌}
use mathlib.Core.List.{List, [], ◌∷◌, ◌++◌, append_assoc}
use native.Mathlib.Omega.{arith}
use native.Mathlib.Nat.{add-zero}
use native.Mathlib.Numerals.{add-one}
use lib.Dec.{eqb}
use borrow.Author.Tests.{eq-eqb}
use lib.ListN.{length, get_or, take, drop, replicate, length-append, take-append-drop}
use lib.Seq.{get_or_at, append_snoc, take-suc, drop-cons}
use Rattle.ring.specs.declared.fates.Fate.{Fate}
use Rattle.ring.specs.declared.fates.Fate.TheVariants.{Served}
use Rattle.ring.specs.Fates.{fate_number, fate_of}
use Rattle.ring.proofs.FateLaws.{fate_of_number}
use Rattle.book.specs.declared.circuits.RecordState.{RecordState}
use Rattle.book.specs.declared.circuits.RecordState.TheVariants.{Live, Pending}
use Rattle.book.specs.declared.circuits.Circuit.{Circuit}
use Rattle.book.specs.Circuits.{vacant, desk, circuit}
use Rattle.stored.specs.declared.forms.Form.{Form}
use Rattle.stored.specs.declared.forms.Form.TheVariants.{Old, New}
use Rattle.stored.specs.Blocks.{word, word_at, check_of, numbered, block_of}
use Rattle.stored.specs.Forms.{state_number, fields_bytes, marks_bytes, record_bytes, records_bytes}
use Rattle.stored.specs.Reading.{block_right, crew_at, state_of, state_at, circuit_from, circuit_at, record_place, records_in}
use Rattle.stored.proofs.BlockLaws.{filled_length, numbered_length, check_first}
use Rattle.stored.proofs.RecordLaws.{records_append, taken_length}

-- the two bytes of a number, and the number
pub word_back : (x : ℕ) → x < 65536 → x % 256 + 256 * (x / 256 % 256) ≡ x
word_back x h =
    let q : x / 256 < 256 = omega arith in
    let e : x / 256 % 256 ≡ x / 256 = small (x / 256) q in
    omega arith
  where
    small : (y : ℕ) → y < 256 → y % 256 ≡ y
    small y h = omega arith

-- a number behind others
module _ (p u q : List ℕ) (n : ℕ) (e : length p ≡ n) where
  pub word_cells : (x y : ℕ) → word_at (p ++ (u ++ (x ∷ y ∷ q))) (n + length u) ≡ x + 256 * y
  word_cells x y =
      let l : length (p ++ u) ≡ n + length u = length-append p u ∙ ap (λ (k : ℕ). k + length u) e in
      let m : length ((p ++ u) ++ (x ∷ [])) ≡ n + length u + 1 = length-append (p ++ u) (x ∷ []) ∙ ap (λ (k : ℕ). k + 1) l in
      let a : p ++ (u ++ (x ∷ y ∷ q)) ≡ (p ++ u) ++ (x ∷ y ∷ q) = sym (append_assoc p u (x ∷ y ∷ q)) in
      let f : get_or (p ++ (u ++ (x ∷ y ∷ q))) (n + length u) 0 ≡ x = ap (λ (k : List ℕ). get_or k (n + length u) 0) a
      ∙ get_or_at (p ++ u) x (y ∷ q) 0 (n + length u) l in
      let g : get_or (p ++ (u ++ (x ∷ y ∷ q))) (n + length u + 1) 0 ≡ y =
      ap (λ (k : List ℕ). get_or k (n + length u + 1) 0) (a ∙ sym (append_snoc (p ++ u) x (y ∷ q)))
      ∙ get_or_at ((p ++ u) ++ (x ∷ [])) y q 0 (n + length u + 1) m in
      ap (λ (k : ℕ). k + 256 * get_or (p ++ (u ++ (x ∷ y ∷ q))) (n + length u + 1) 0) f ∙ ap (λ (k : ℕ). x + 256 * k) g

  pub word_read : (x : ℕ) → x < 65536 → word_at (p ++ (u ++ (word x ++ q))) (n + length u) ≡ x
  word_read x h = word_cells (x % 256) (x / 256 % 256) ∙ word_back x h

-- what a form keeps of crew and state: the old one nothing, so that a record is live and the desk's
abbrev pub Kept : Form → Circuit → Type 0
Kept Old c = (c.state ≡ Live) × (c.crew ≡ desk)
Kept New c = c.crew < 65536

-- a record that a form keeps
pub record Fields (form : Form) (c : Circuit) : Type 0 where
  pub serial : c.serial < 65536
  pub first : c.a < 65536
  pub second : c.b < 65536
  pub fate : fate_number (Served c.way c.colour) < 65536
  pub kept : Kept form c

state_back : (s : RecordState) → state_of (state_number s) ≡ s
state_back Live = refl
state_back Pending = refl

state_small : (s : RecordState) → state_number s < 65536
state_small Live = omega arith
state_small Pending = omega arith

-- it is read back, wherever it stands
module _ (p q : List ℕ) (n : ℕ) (c : Circuit) (e : length p ≡ n) where
  crew_read : (form : Form) → Kept form c → crew_at form (p ++ (record_bytes form c ++ q)) n ≡ c.crew
  crew_read Old k = sym k.1
  crew_read New k = word_read p (fields_bytes c) (word (state_number c.state) ++ q) n e c.crew k

  state_read : (form : Form) → Kept form c → state_at form (p ++ (record_bytes form c ++ q)) n ≡ c.state
  state_read Old k = sym k.0
  state_read New k =
      ap state_of (word_read p (fields_bytes c ++ word c.crew) q n e (state_number c.state) (state_small c.state))
      ∙ state_back c.state

  pub circuit_read : (form : Form) → Fields form c → circuit_at form (p ++ (record_bytes form c ++ q)) n ≡ c
  unfolding circuit_at
  circuit_read form f =
      let bytes = p ++ (record_bytes form c ++ q) in
      let fate = fate_number (Served c.way c.colour) in
      let rest = marks_bytes form c ++ q in
      let z : word_at bytes n ≡ word_at bytes (n + 0) = ap (word_at bytes) (sym (add-zero n)) in
      let s : word_at bytes n ≡ c.serial = z
      ∙ word_read p [] (word c.a ++ (word c.b ++ (word fate ++ rest))) n e c.serial f.serial in
      let a : word_at bytes (n + 2) ≡ c.a =
      word_read p (word c.serial) (word c.b ++ (word fate ++ rest)) n e c.a f.first in
      let b : word_at bytes (n + 4) ≡ c.b =
      word_read p (word c.serial ++ word c.a) (word fate ++ rest) n e c.b f.second in
      let k : word_at bytes (n + 6) ≡ fate =
      word_read p (word c.serial ++ (word c.a ++ word c.b)) rest n e fate f.fate in
      ap (λ (x : ℕ). circuit_from x (word_at bytes (n + 2)) (word_at bytes (n + 4)) (fate_of (word_at bytes (n + 6)))
      (crew_at form bytes n) (state_at form bytes n)) s
      ∙ ap (λ (x : ℕ). circuit_from c.serial x (word_at bytes (n + 4)) (fate_of (word_at bytes (n + 6)))
      (crew_at form bytes n) (state_at form bytes n)) a
      ∙ ap (λ (x : ℕ). circuit_from c.serial c.a x (fate_of (word_at bytes (n + 6))) (crew_at form bytes n) (state_at form bytes n)) b
      ∙ ap (λ (x : Fate). circuit_from c.serial c.a c.b x (crew_at form bytes n) (state_at form bytes n))
      (ap fate_of k ∙ fate_of_number (Served c.way c.colour))
      ∙ ap (λ (x : ℕ). circuit_from c.serial c.a c.b (Served c.way c.colour) x (state_at form bytes n))
      (crew_read form f.kept)
      ∙ ap (circuit_from c.serial c.a c.b (Served c.way c.colour) c.crew) (state_read form f.kept)

module _ (k : ℕ) (l : List ℕ) where
  abbrev pub behind : List ℕ
  behind = replicate (508 - length l) 0 ++ (word k ++ word (check_of (numbered k l)))

  -- a block begins with its contents
  pub block_front : block_of k l ≡ l ++ behind
  unfolding block_of numbered
  block_front =
      append_assoc (l ++ replicate (508 - length l) 0) (word k) (word (check_of (numbered k l)))
      ∙ append_assoc l (replicate (508 - length l) 0) (word k ++ word (check_of (numbered k l)))

  pub block_number : length l ≤ 508 → k < 65536 → word_at (block_of k l) 508 ≡ k
  unfolding block_of numbered
  block_number h s =
      ap (λ (xs : List ℕ). word_at xs 508) (append_assoc (l ++ replicate (508 - length l) 0) (word k) (word (check_of (numbered k l))))
      ∙ word_read (l ++ replicate (508 - length l) 0) [] (word (check_of (numbered k l))) 508 (filled_length k l h) k s

  pub check_small : check_of (numbered k l) < 65536
  unfolding check_of
  check_small = omega arith

  pub block_check : length l ≤ 508 → word_at (block_of k l) 510 ≡ check_of (numbered k l)
  unfolding block_of
  block_check h = word_read (numbered k l) [] [] 510 (numbered_length k l h) (check_of (numbered k l)) check_small

  pub check_whole : length l ≤ 508 → check_of (block_of k l) ≡ check_of (numbered k l)
  unfolding block_of
  check_whole h = check_first k l h (word (check_of (numbered k l)))

  pub block_is_right : length l ≤ 508 → k < 65536 → block_right k (block_of k l) ≡ true
  unfolding block_right
  block_is_right h s =
      ap (λ (t : Bool). t && eqb (word_at (block_of k l) 510) (check_of (block_of k l)))
      (eq-eqb (word_at (block_of k l) 508) k (block_number h s))
      ∙ eq-eqb (word_at (block_of k l) 510) (check_of (block_of k l)) (block_check h ∙ sym (check_whole h))

-- the records of a block
module _ (form : Form) (k : ℕ) (rs : List Circuit) where
  at_record : (i : ℕ) → i < length rs
      → records_bytes form rs ≡ records_bytes form (take i rs) ++ (record_bytes form (circuit rs i) ++ records_bytes form (drop (i + 1) rs))
  at_record i h =
      ap (records_bytes form) (sym (take-append-drop i rs)
      ∙ ap (λ (xs : List Circuit). take i rs ++ xs) (drop-cons rs i vacant h
      ∙ ap (λ (j : ℕ). get_or rs i vacant ∷ drop j rs) (sym (add-one i))))
      ∙ records_append form (take i rs) (circuit rs i ∷ drop (i + 1) rs)

  pub record_back : (i : ℕ) → i < length rs → Fields form (circuit rs i)
      → circuit_at form (block_of k (records_bytes form rs)) (record_place form i) ≡ circuit rs i
  record_back i h f =
      let first = records_bytes form (take i rs) in
      let this = record_bytes form (circuit rs i) in
      let later = records_bytes form (drop (i + 1) rs) in
      let rest = behind k (records_bytes form rs) in
      ap (λ (xs : List ℕ). circuit_at form xs (record_place form i))
      (block_front k (records_bytes form rs)
      ∙ ap (λ (xs : List ℕ). xs ++ rest) (at_record i h)
      ∙ append_assoc first (this ++ later) rest
      ∙ ap (λ (xs : List ℕ). first ++ xs) (append_assoc this later rest))
      ∙ circuit_read first (later ++ rest) (record_place form i) (circuit rs i) (taken_length form rs i (omega arith)) form f

  pub records_back : ((i : ℕ) → i < length rs → Fields form (circuit rs i)) → (m : ℕ) → m ≤ length rs
      → records_in form (block_of k (records_bytes form rs)) m ≡ take m rs
  records_back f zero h = refl
  records_back f (suc m) h =
      ap (λ (xs : List Circuit). xs ++ (circuit_at form (block_of k (records_bytes form rs)) (record_place form m) ∷ []))
      (records_back f m (omega arith))
      ∙ ap (λ (c : Circuit). take m rs ++ (c ∷ [])) (record_back m (omega arith) (f m (omega arith)))
      ∙ sym (take-suc rs m vacant (omega arith))
