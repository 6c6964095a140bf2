-- A record takes the first place behind the others, which is vacant; a removal leaves as many vacant places, a confirmation one more.
use Prim.Native.Nat.{ℕ, zero, suc, ◌+◌, ◌-◌, ◌≤◌, ◌<◌}
use mathlib.Core.Path.{◌≡◌, refl, ◌∙◌, ap, subst}
use mathlib.Core.Bool.{◌||◌}
use mathlib.Core.List.{List, [], ◌∷◌, ◌++◌}
use mathlib.Core.Logic.{⊎_elim}
use native.Mathlib.Omega.{arith}
use lib.Dec.{eqb, leb, ltb}
use lib.ListN.{length, set, replicate, length-append, length-set, length-replicate, get_or-replicate}
use lib.Seq.{get_or-append-add, get_or-set_same, get_or-set_other}
use borrow.Author.Tests.{ne_eqb, leb-true}
use Rattle.std.specs.Prelude.{Ok, Err}
use Rattle.ring.specs.declared.refusals.Refusal.TheVariants.{CircuitEnd, CircuitEndsEqual, WayNumber, ColourNumber, ColourHeld, BookFull}
use Rattle.ring.specs.declared.refusals.Refusal.TheVariants.{SerialsUsedUp, CrewNumber}
use Rattle.ring.specs.Requests.{request_of}
use Rattle.ring.specs.Refusals.{Verdict, refuse_if, or_else}
use Rattle.ring.specs.Admission.{ends_verdict}
use Rattle.ring.proofs.Cases.{impossible}
use Rattle.ring.proofs.AdmissionLaws.{refuse_refused, either_refused}
use Rattle.book.specs.declared.circuits.Circuit.{Circuit}
use Rattle.book.specs.declared.books.Book.{Book}
use Rattle.book.specs.Circuits.{vacant, as_pending, circuit}
use Rattle.book.specs.Crews.{crew_verdict}
use Rattle.book.specs.Books.{records_of, Valid}
use Rattle.book.specs.Grants.{way_of, circuit_of, colour_held, argument_verdict, room_verdict, grant_verdict, with_circuit, grant_unless}
use Rattle.book.specs.Grants.{granted}
use Rattle.book.specs.Removals.{with_record, removed}
use Rattle.book.specs.Confirmations.{without, without_circuit, confirmed}
use Rattle.book.specs.Places.{TakesVacantPlace, vacant_places, PlacesUsedAgain}
use Rattle.book.proofs.Forms.{records_form, valid_records, without_form, record_form, length_without}
use Rattle.book.proofs.Outcomes.{grant_cases, removal_cases, confirmation_cases}
use Rattle.book.proofs.Validity.{removal_valid, confirmation_valid}

-- ---- counting

none_vacant : (k : ℕ) → vacant_places (replicate k vacant) ≡ k
none_vacant zero = refl
none_vacant (suc k) = omega (arith, none_vacant k)

-- circuits with serials, and vacant records behind them
counted : (cs : List Circuit) (k : ℕ) → ((i : ℕ) → i < length cs → 1 ≤ (circuit cs i).serial) → vacant_places (cs ++ replicate k vacant) ≡ k
counted [] k h = none_vacant k
counted (c ∷ cs) k h =
    let first = h 0 (omega arith) in
    rw (ne_eqb c.serial 0 (omega arith)) (omega (arith, counted cs k (λ i l. h (suc i) (omega arith))))

module _ (b : Book) (v : Valid b) where
  abbrev cs : List Circuit
  cs = records_of b

  -- the places of a valid book
  laid : b.places ≡ cs ++ replicate (512 - length cs) vacant
  laid = ap (λ (d : Book). d.places) v.form

  vacant_count : vacant_places b.places ≡ 512 - length cs
  vacant_count = ap vacant_places laid ∙ (counted cs (512 - length cs) (λ i h. (v.circuits.given i h).0))

  all_places : length b.places ≡ 512
  all_places = ap length laid ∙ simp (length-append, length-replicate) (omega (arith, v.circuits.room))

  -- behind the records every place is vacant
  behind : b.records < 512 → circuit b.places b.records ≡ vacant
  behind h =
      let here : b.records ≡ length cs + 0 = omega (arith, valid_records b v) in
      let more : 0 < 512 - length cs = omega (arith, valid_records b v) in
      ap (circuit b.places) here
      ∙ ap (λ (ps : List Circuit). circuit ps (length cs + 0)) laid
      ∙ get_or-append-add cs (replicate (512 - length cs) vacant) 0 vacant
      ∙ get_or-replicate (512 - length cs) 0 vacant vacant more

  with_place : (c : Circuit) → b.records < 512 → TakesVacantPlace b (with_circuit b c) c
  with_place c h = record {
    place = b.records;
    within = h;
    was_vacant = behind h;
    taken = get_or-set_same b.places b.records c vacant (omega (arith, all_places));
    others = λ i d. get_or-set_other b.places b.records i c vacant (λ e. d e);
  }

module _ (b : Book) (v : Valid b) where
  takes : (x y way colour crew serial : ℕ) → (granted b x y way colour crew).answer ≡ Ok serial
      → TakesVacantPlace b (granted b x y way colour crew).book (circuit_of serial x y way colour crew)
  takes x y way colour crew serial =
      grant_cases b x y way colour crew
      (λ d. d.answer ≡ Ok serial → TakesVacantPlace b d.book (circuit_of serial x y way colour crew))
      (λ good e. let s : b.grants + 1 ≡ serial = cc in
      subst
      (λ (k : ℕ). TakesVacantPlace b (with_circuit b (circuit_of (b.grants + 1) x y way colour crew)) (circuit_of k x y way colour crew)) s
      (with_place b v (circuit_of (b.grants + 1) x y way colour crew) good.places))
      (λ r e. impossible (cc))

  -- a removal leaves as many records
  as_many : (i : ℕ) → i < length (records_of b)
      → vacant_places (with_record i (as_pending (circuit (records_of b) i)) b).places ≡ vacant_places b.places
  as_many i h =
      let c : Circuit = as_pending (circuit (records_of b) i) in
      let left : length (records_of (with_record i c b)) ≡ length (records_of b) =
      ap (λ (d : Book). length (records_of d)) (record_form b v i c h)
      ∙ ap length (records_form b.n b.w b.grants (set (records_of b) i c)) ∙ length-set (records_of b) i c in
      omega (arith, vacant_count b v, vacant_count (with_record i c b) (removal_valid b v i h))

  stays : (serial : ℕ) → vacant_places (removed b serial).book.places ≡ vacant_places b.places
  stays serial =
      removal_cases b serial (λ d. vacant_places d.book.places ≡ vacant_places b.places) (λ i h named live. as_many i h) (λ r. refl)

  -- a confirmation leaves one record less
  one_less : (i : ℕ) → i < length (records_of b) → vacant_places (without_circuit i b).places ≡ suc (vacant_places b.places)
  one_less i h =
      let left : length (records_of (without_circuit i b)) ≡ length (without i (records_of b)) =
      ap (λ (d : Book). length (records_of d)) (without_form b v i h)
      ∙ ap length (records_form b.n b.w b.grants (without i (records_of b))) in
      omega (
        arith,
        vacant_count b v,
        vacant_count (without_circuit i b) (confirmation_valid b v i h),
        length_without i (records_of b) h,
        v.circuits.room,
      )

  frees : (serial : ℕ) → (confirmed b serial).answer ≡ Ok tt
      → vacant_places (confirmed b serial).book.places ≡ suc (vacant_places b.places)
  frees serial =
      confirmation_cases b serial
      (λ d. d.answer ≡ Ok tt → vacant_places d.book.places ≡ suc (vacant_places b.places))
      (λ i h named pending e. one_less i h) (λ r e. impossible (cc))

-- 12 is said only by the test for places
full_argument : (n w x y way colour crew : ℕ) → argument_verdict n w x y way colour crew ≡ Err BookFull → ⊥
unfolding argument_verdict ends_verdict crew_verdict
full_argument n w x y way colour crew e =
    let outside = refuse_if (leb n x || leb n y) CircuitEnd in
    let equal = refuse_if (eqb x y) CircuitEndsEqual in
    let ways = refuse_if (ltb 1 way) WayNumber in
    let colours = refuse_if (leb w colour) ColourNumber in
    let crews = refuse_if (ltb 999 crew) CrewNumber in
    ⊎_elim
    (λ p. ⊎_elim
    (λ q. let g = refuse_refused (leb n x || leb n y) CircuitEnd BookFull q in impossible (cc))
    (λ q. let g = refuse_refused (eqb x y) CircuitEndsEqual BookFull q in impossible (cc))
    (either_refused outside equal BookFull p))
    (λ p. ⊎_elim
    (λ q. let g = refuse_refused (ltb 1 way) WayNumber BookFull q in impossible (cc))
    (λ q. ⊎_elim
    (λ r. let g = refuse_refused (leb w colour) ColourNumber BookFull r in impossible (cc))
    (λ r. let g = refuse_refused (ltb 999 crew) CrewNumber BookFull r in impossible (cc))
    (either_refused colours crews BookFull q))
    (either_refused ways (or_else colours crews) BookFull p))
    (either_refused (or_else outside equal) (or_else ways (or_else colours crews)) BookFull e)

full_room : (records grants : ℕ) → room_verdict records grants ≡ Err BookFull → 512 ≤ records
unfolding room_verdict
full_room records grants e =
    ⊎_elim
    (λ p. leb-true 512 records (refuse_refused (leb 512 records) BookFull BookFull p).0)
    (λ p. let g = refuse_refused (leb 65535 grants) SerialsUsedUp BookFull p in impossible (cc))
    (either_refused (refuse_if (leb 512 records) BookFull) (refuse_if (leb 65535 grants) SerialsUsedUp) BookFull e)

full_verdict : (b : Book) (x y way colour crew : ℕ) → grant_verdict b x y way colour crew ≡ Err BookFull → 512 ≤ b.records
unfolding grant_verdict
full_verdict b x y way colour crew e =
    let held = colour_held b (way_of way) (request_of x y) colour in
    let room = room_verdict b.records b.grants in
    ⊎_elim
    (λ p. absurd (full_argument b.n b.w x y way colour crew p))
    (λ p. ⊎_elim
    (λ q. let g = refuse_refused held ColourHeld BookFull q in impossible (cc))
    (full_room b.records b.grants)
    (either_refused (refuse_if held ColourHeld) room BookFull p))
    (either_refused (argument_verdict b.n b.w x y way colour crew) (or_else (refuse_if held ColourHeld) room) BookFull e)

full : (b : Book) → Valid b → (x y way colour crew : ℕ) → (granted b x y way colour crew).answer ≡ Err BookFull
    → vacant_places b.places ≡ 0
unfolding granted
full b v x y way colour crew e =
    omega (arith, vacant_count b v, valid_records b v, full_verdict b x y way colour crew (go (grant_verdict b x y way colour crew) e))
  where
    go : (t : Verdict) → (grant_unless t b (circuit_of (b.grants + 1) x y way colour crew)).answer ≡ Err BookFull
        → t ≡ Err BookFull
    go (Ok allowed) q = impossible (cc)
    go (Err r) q = cc

pub places_used_again : PlacesUsedAgain
places_used_again b v = record { takes = takes b v; stays = stays b v; frees = frees b v; full = full b v }
