-- The answer to a check of fate numbers.
use Rattle.std.specs.Prelude.{Result, Ok, Err}
use Rattle.std.specs.Prelude.{ℕ, zero, suc, ◌+◌, ◌*◌, ◌-◌, Bool, false, ◌&&◌, List, [], ◌∷◌, eqb, ltb, length, get_or, take}
use Rattle.ring.specs.declared.ways.Way.{Way}
use Rattle.ring.specs.declared.requests.Request.{Request}
use Rattle.ring.specs.declared.fates.Fate.{Fate}
use Rattle.ring.specs.declared.fates.Fate.TheVariants.{Blocked, Served}
use Rattle.ring.specs.declared.refusals.Refusal.{Refusal}
use Rattle.ring.specs.declared.refusals.Refusal.TheVariants.{FateNumber, Conflict}
use Rattle.ring.specs.Requests.{requests_of, request}
use Rattle.ring.specs.Ways.{share_link}
use Rattle.ring.specs.Plans.{fate, fates_of, served}
use Rattle.ring.specs.Admission.{call_verdict}
use Rattle.ring.specs.Refusals.{Verdict, refuse_if, or_else}
use Rattle.ring.specs.Answers.{InNumbers, gives, refuses}

-- a test whether the ways of two requests share a link
abbrev pub SharingTest : Type 0
SharingTest = Way → Request → Way → Request → Bool

-- the first of a ground's refusals, among `count` requests from number i on
unfoldable pub first_ground : (ℕ → Verdict) → ℕ → ℕ → Verdict
first_ground verdict_of i zero = Ok tt
first_ground verdict_of i (suc count) = or_else (verdict_of i) (first_ground verdict_of (i + 1) count)

-- "7 a number above 2w", of request i
unfoldable pub number_verdict : ℕ → List ℕ → ℕ → Verdict
number_verdict w numbers i = refuse_if (ltb (2 * w) (get_or numbers i 0)) (FateNumber i)

-- "first such request"
unfoldable pub number_verdicts : ℕ → List ℕ → Verdict
number_verdicts w numbers = first_ground (number_verdict w numbers) 0 (length numbers)

-- "two requests of one colour share a link", of two fates and requests
unfoldable pub conflicting : SharingTest → Fate → Request → Fate → Request → Bool
conflicting share Blocked r g s = false
conflicting share (Served u c) r Blocked s = false
conflicting share (Served u c) r (Served v d) s = eqb c d && share u r v s

-- "8 two requests of one colour share a link", of requests i and j
unfoldable pub pair_verdict : SharingTest → List Request → List Fate → ℕ → ℕ → Verdict
pair_verdict share R F i j = refuse_if (conflicting share (fate F i) (request R i) (fate F j) (request R j)) (Conflict i j)

-- "then lowest second request", of those behind request i
unfoldable pub later_verdict : SharingTest → List Request → List Fate → ℕ → Verdict
later_verdict share R F i = first_ground (pair_verdict share R F i) (i + 1) (length R - (i + 1))

-- "the pair with the lowest first" request
unfoldable pub pair_verdicts : SharingTest → List Request → List Fate → Verdict
pair_verdicts share R F = first_ground (later_verdict share R F) 0 (length R)

-- the refusal of a verdict, or what comes later
abbrev pub unless_refused : Verdict → Result ℕ Refusal → Result ℕ Refusal
unless_refused (Err r) later = Err r
unless_refused (Ok tt) later = later

-- 7, then 8; success gives the number served
unfoldable pub table_answer : SharingTest → ℕ → List Request → List ℕ → Result ℕ Refusal
table_answer share w R numbers =
    unless_refused (or_else (number_verdicts w numbers) (pair_verdicts share R (fates_of numbers)))
    (Ok (served (fates_of numbers)))

-- "table entries past m are not read": the first m entries
abbrev pub numbers_in : List ℕ → List ℕ → List ℕ
numbers_in ends table = take (length (requests_of ends)) table

-- "1 to 6 as Plan", then 7 and 8
unfoldable pub check_answer : ℕ → ℕ → List ℕ → List ℕ → Result ℕ Refusal
check_answer n w ends table =
    unless_refused (call_verdict n w ends (length table)) (table_answer (share_link n) w (requests_of ends) (numbers_in ends table))

-- the answer in numbers: "Success gives the number served"
abbrev pub check_in_numbers : Result ℕ Refusal → InNumbers
check_in_numbers (Ok k) = gives (k ∷ [])
check_in_numbers (Err r) = refuses r
