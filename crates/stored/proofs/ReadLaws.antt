-- Reading circuits, block by block, into a book.
use Prim.Native.Nat.{ℕ, zero, suc, ◌+◌, ◌-◌, ◌*◌, ◌/◌, ◌≤◌, ◌<◌, min}
use mathlib.Core.Path.{◌≡◌, refl, sym, ◌∙◌, ap}
use mathlib.Core.Bool.{Bool, true, false, ◌&&◌, ◌||◌}
use mathlib.Core.List.{List, [], ◌∷◌, ◌++◌, append-nil, append_assoc}
use native.Mathlib.Omega.{arith}
use native.Mathlib.Numerals.{add-one}
use Rattle.ring.proofs.Cases.{compare, less, not_less}
use lib.ListN.{length, take, drop, set, replicate, length-append}
use lib.Seq.{set-append_seam, append_snoc}
use Rattle.ring.specs.declared.fates.Fate.{Fate}
use Rattle.ring.specs.declared.fates.Fate.TheVariants.{Blocked, Served}
use Rattle.ring.specs.Fates.{fate_of}
use Rattle.book.specs.declared.circuits.RecordState.TheVariants.{Live}
use Rattle.book.specs.declared.circuits.Circuit.{Circuit}
use Rattle.book.specs.declared.books.Book.{Book}
use Rattle.book.specs.Circuits.{vacant, desk, is_marked, some_circuit}
use Rattle.book.specs.Books.{records_of, has_marked, book_of}
use Rattle.book.proofs.Forms.{records_form}
use Rattle.book.proofs.Marks.{none_append}
use Rattle.stored.specs.declared.forms.Form.{Form}
use Rattle.stored.specs.declared.forms.Form.TheVariants.{Old}
use Rattle.stored.specs.Blocks.{word_at}
use Rattle.stored.specs.Forms.{block_records}
use Rattle.stored.specs.Reading.{part_of, block_right, blocks_right, circuit_from, circuit_at, record_place}
use Rattle.stored.specs.Reading.{records_in}
use Rattle.stored.specs.Reading.{circuits_in, book_in}
use Rattle.stored.specs.Internal.Handing.{extended}

-- the part that the code hands on
pub part_is : (bytes : List ℕ) (k : ℕ) → take (k * 512 + 512 - k * 512) (drop (k * 512) bytes) ≡ part_of bytes k
part_is bytes k =
    let e : k * 512 + 512 - k * 512 ≡ 512 = omega arith in
    ap (λ (n : ℕ). take n (drop (k * 512) bytes)) e

-- one block more is right, or all that follow are for nothing
pub right_next : (bytes part : List ℕ) (k : ℕ) → part ≡ part_of bytes k → blocks_right bytes k ≡ true → block_right k part ≡ true
    → blocks_right bytes (k + 1) ≡ true
right_next bytes part k p e r = rw (add-one, e, sym p) r

pub wrong_stays : (bytes part : List ℕ) (k n : ℕ) → k < n → part ≡ part_of bytes k → block_right k part ≡ false → blocks_right bytes n ≡ false
wrong_stays bytes part k zero h p r = absurd (omega arith)
wrong_stays bytes part k (suc n) h p r = elim (compare k n) [
  | less m t ↦ ap (λ (x : Bool). x && block_right n (part_of bytes n)) (wrong_stays bytes part k n m p r)
  | not_less m t ↦
      let last : n ≡ k = omega arith in
      rw (last, sym p, r) (no_more (blocks_right bytes k))
]
  where
    no_more : (t : Bool) → (t && false) ≡ false
    no_more true = refl
    no_more false = refl

pub records_in_length : (form : Form) (block : List ℕ) (i : ℕ) → length (records_in form block i) ≡ i
records_in_length form block zero = refl
records_in_length form block (suc i) =
    let h : length (records_in form block i) ≡ i = records_in_length form block i in
    length-append (records_in form block i) (circuit_at form block (record_place form i) ∷ []) ∙ omega arith

-- a circuit put behind the records
pub book_append : (n w g : ℕ) (cs : List Circuit) (c : Circuit) (k : ℕ) → k ≡ length cs → length cs < 512
    → ◌≡◌ {A = Book} (record { n = n; w = w; grants = g; records = k + 1; places = set (cs ++ replicate (512 - length cs) vacant) k c })
    (book_of n w g (cs ++ (c ∷ [])))
book_append n w g cs c k e h =
    let l : length (cs ++ (c ∷ [])) ≡ length cs + 1 = length-append cs (c ∷ []) in
    let m : 512 - length cs ≡ suc (512 - length (cs ++ (c ∷ []))) = omega (arith, l) in
    let p : set (cs ++ replicate (512 - length cs) vacant) k c ≡ (cs ++ (c ∷ [])) ++ replicate (512 - length (cs ++ (c ∷ []))) vacant =
    ap (λ (j : ℕ). set (cs ++ replicate (512 - length cs) vacant) j c) e
    ∙ ap (λ (j : ℕ). set (cs ++ replicate j vacant) (length cs) c) m
    ∙ set-append_seam cs vacant (replicate (512 - length (cs ++ (c ∷ []))) vacant) c
    ∙ sym (append_snoc cs c (replicate (512 - length (cs ++ (c ∷ []))) vacant))
    in
    let q : k + 1 ≡ length (cs ++ (c ∷ [])) = omega arith in
    ap (λ (ps : List Circuit). record { n = n; w = w; grants = g; records = k + 1; places = ps }) p
    ∙ ap (λ (j : ℕ). record {
      n = n;
      w = w;
      grants = g;
      records = j;
      places =
          (cs ++ (c ∷ [])) ++ replicate (512 - length (cs ++ (c ∷ []))) vacant;
    }) q

module _ (form : Form) (b : Book) (block : List ℕ) where
  extended_length : (i : ℕ) → length (records_of b ++ records_in form block i) ≡ length (records_of b) + i
  extended_length i = length-append (records_of b) (records_in form block i) ∙ ap (λ (j : ℕ). length (records_of b) + j)
      (records_in_length form block i)

  pub extended_next : (filled : Book) (first i live : ℕ) (c : Circuit) → filled ≡ extended b (records_in form block i)
      → first ≡ length (records_of b)
      → first + i < 512 → live ≡ first + i + 1 → c ≡ circuit_at form block (record_place form i)
      → ◌≡◌ {A = Book} (record {
        n = filled.n;
        w = filled.w;
        grants = filled.grants;
        records = live;
        places =
            set filled.places (first + i) c;
      }) (extended b (records_in form block (i + 1)))
  extended_next filled first i live c e f h l q =
      ap (λ (x : Book). record { n = x.n; w = x.w; grants = x.grants; records = live; places = set x.places (first + i) c }) e
      ∙ ap (λ (j : ℕ). record {
        n = b.n;
        w = b.w;
        grants = b.grants;
        records = j;
        places =
            set (extended b (records_in form block i)).places (first + i) c;
      }) l
      ∙ ap (λ (x : Circuit).
      record {
        n = b.n;
        w = b.w;
        grants = b.grants;
        records = first + i + 1;
        places =
            set (extended b (records_in form block i)).places (first + i) x;
      }) q
      ∙ book_append b.n b.w b.grants (records_of b ++ records_in form block i) (circuit_at form block (record_place form i))
      (first + i)
      (omega (arith, extended_length i)) (omega (arith, extended_length i))
      ∙ ap (book_of b.n b.w b.grants) (append_assoc (records_of b) (records_in form block i) (circuit_at form block
      (record_place form i) ∷ [])
      ∙ ap (λ (j : ℕ). records_of b ++ records_in form block j) (sym (add-one i)))

-- a book that was read so far, and one block more
pub circuits_few : (form : Form) (bytes : List ℕ) (live k : ℕ) → length (circuits_in form bytes live k) ≤ live
circuits_few form bytes live zero = omega arith
circuits_few form bytes live (suc k) =
    let h : length (circuits_in form bytes live k) ≤ live = circuits_few form bytes live k in
    omega (
      arith,
      length-append (circuits_in form bytes live k)
          (records_in form (part_of bytes (suc k)) (min (block_records form) (live - length (circuits_in form bytes live k)))),
      records_in_length form (part_of bytes (suc k)) (min (block_records form) (live - length (circuits_in form bytes live k))),
    )

pub form_of : (b : Book) (n w g : ℕ) (cs : List Circuit) → b ≡ book_of n w g cs → b ≡ extended b []
form_of b n w g cs e =
    e
    ∙ ap (book_of n w g) (sym (ap (λ (l : List Circuit). l ++ []) (records_form n w g cs) ∙ append-nil cs))
    ∙ ap (λ (x : Book). extended x []) (sym e)

pub records_of_lem : (b : Book) (n w g : ℕ) (cs : List Circuit) → b ≡ book_of n w g cs → records_of b ≡ cs
records_of_lem b n w g cs e = ap records_of e ∙ records_form n w g cs

pub read_next : (form : Form) (bytes part : List ℕ) (live n w g k : ℕ) (b r : Book) → 1 ≤ k → b ≡ book_of n w g
    (circuits_in form bytes live (k - 1))
    → part ≡ part_of bytes k
    → r ≡ extended b (records_in form part (min (block_records form) (live - length (records_of b)))) → r ≡ book_of n w g
    (circuits_in form bytes live k)
read_next form bytes part live n w g zero b r h e p q = absurd (omega arith)
read_next form bytes part live n w g (suc k) b r h e p q =
    let s : suc k - 1 ≡ k = omega arith in
    let f : b ≡ book_of n w g (circuits_in form bytes live k) = e ∙ ap (λ (j : ℕ). book_of n w g (circuits_in form bytes live j)) s in
    q
    ∙ ap (λ (l : List ℕ). extended b (records_in form l (min (block_records form) (live - length (records_of b))))) p
    ∙ ap (λ (x : Book). extended x (records_in form (part_of bytes (suc k)) (min (block_records form) (live - length (records_of x))))) f
    ∙ ap (λ (cs : List Circuit). book_of n w g (cs ++ records_in form (part_of bytes (suc k)) (min (block_records form) (live - length cs))))
    (records_form n w g (circuits_in form bytes live k))

-- every record that is read from the old form is live and the desk's
circuit_unmarked : (serial a b : ℕ) (f : Fate) → is_marked (circuit_from serial a b f desk Live) ≡ false
circuit_unmarked serial a b Blocked = refl
circuit_unmarked serial a b (Served way colour) = refl

records_unmarked : (block : List ℕ) (i : ℕ) → some_circuit (records_in Old block i) is_marked ≡ false
unfolding some_circuit circuit_at
records_unmarked block zero = refl
records_unmarked block (suc i) =
    none_append (records_in Old block i) (circuit_at Old block (record_place Old i) ∷ []) is_marked (records_unmarked block i)
    (ap (λ (t : Bool). t || false) (circuit_unmarked _ _ _ (fate_of (word_at block (record_place Old i + 6)))))

circuits_unmarked : (bytes : List ℕ) (count k : ℕ) → some_circuit (circuits_in Old bytes count k) is_marked ≡ false
unfolding some_circuit
circuits_unmarked bytes count zero = refl
circuits_unmarked bytes count (suc k) = none_append (circuits_in Old bytes count k) _ is_marked (circuits_unmarked bytes count k)
    (records_unmarked (part_of bytes (suc k)) (min 63 (count - length (circuits_in Old bytes count k))))

pub read_unmarked : (bytes : List ℕ) → has_marked (book_in Old bytes) ≡ false
unfolding has_marked book_in
read_unmarked bytes =
    ap (λ (cs : List Circuit). some_circuit cs is_marked)
    (records_form 0 0 0 (circuits_in Old bytes (min 512 (word_at (part_of bytes 0) 6)) (length bytes / 512 - 1)))
    ∙ circuits_unmarked bytes (min 512 (word_at (part_of bytes 0) 6)) (length bytes / 512 - 1)
