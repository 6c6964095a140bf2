-- The cases of the rules that are marked with T, in their order: one record for each, each field a figure of the case.
use Rattle.std.specs.Prelude.{ℕ, ◌*◌, ◌≤◌, ◌≡◌, List, [], ◌∷◌, ◌++◌, map, ◌⊎◌, length, drop, replicate, Result, Ok, Err}
use Rattle.ring.specs.declared.fates.Fate.{Fate}
use Rattle.ring.specs.declared.fates.Fate.TheVariants.{Blocked, Served}
use Rattle.ring.specs.declared.ways.Way.TheVariants.{Plain, Seam}
use Rattle.ring.specs.declared.refusals.Refusal.{Refusal}
use Rattle.ring.specs.declared.refusals.Refusal.TheVariants.{ColourHeld, SerialNeverGiven, SerialRemoved, Conflict}
use Rattle.ring.specs.declared.refusals.Carried.TheVariants.{Two}
use Rattle.ring.specs.Requests.{requests_of}
use Rattle.ring.specs.Fates.{fate_number}
use Rattle.ring.specs.Plans.{served, Feasible}
use Rattle.ring.specs.Refusals.{number_of, carried_by}
use Rattle.planner.specs.declared.answers.Part.TheVariants as part
use Rattle.planner.specs.declared.answers.Part.{Part}
use Rattle.planner.specs.declared.answers.Summary.{Summary}
use Rattle.planner.specs.Promise.{PlanPromise}
use Rattle.checker.specs.Check.{check_answer}
use Rattle.book.specs.Circuits.{desk}
use Rattle.book.specs.Books.{opened}
use Rattle.book.specs.History.{Call, Grant, Remove, Confirm, Show, GrantAnswered, RemoveAnswered, ConfirmAnswered, ShowAnswered, event}
use Rattle.book.specs.History.{run, history}
use Rattle.stored.specs.Blocks.{check_of}
use Rattle.stored.specs.declared.forms.Form.TheVariants.{Old}
use Rattle.stored.specs.Forms.{stored_length}
use Rattle.texts.specs.Bytes.{bytes}
use Rattle.plan_text.specs.Promise.{AnswerPromise}
use Rattle.check_text.specs.Promise.{line_for}

-- line 2 of the planning program: "chain .. match .. pair .. used .. ceiling .."
abbrev pub line2 : ℕ → ℕ → ℕ → Part → ℕ → Summary
line2 chain match pair used ceiling = record { chain = chain; matched = match; paired = pair; used = used; ceiling = ceiling }

-- whatever meets the promise of plan on a list, with a table long enough, gives these counts, and Right holds of the table before and after
abbrev pub PlansTo : ℕ → ℕ → List ℕ → Summary → (List ℕ → List ℕ → Type 0) → Type 0
PlansTo n w ends counts Right =
    (before after : List ℕ) (result : Result Summary Refusal) → length (requests_of ends) ≤ length before → PlanPromise n w ends before after result
    → (result ≡ Ok counts) × Right before after

-- and writes these fates, and nothing behind them
abbrev pub Plans : ℕ → ℕ → List ℕ → Summary → List Fate → Type 0
Plans n w ends counts fates = PlansTo n w ends counts (λ before after. after ≡ map fate_number fates ++ drop (length fates) before)

-- whatever meets the promise of the planning program's text function on an input, with a buffer long enough, writes this output
abbrev pub Prints : List ℕ → List ℕ → Type 0
Prints input output =
    (before after : List ℕ) (size : ℕ) → 8192 ≤ length before → AnswerPromise input before after size
    → (size ≡ length output) × (after ≡ output ++ drop (length output) before)

-- the list of T1
abbrev pub ends_t1 : List ℕ
ends_t1 = 0 ∷ 3 ∷ 3 ∷ 6 ∷ 6 ∷ 0 ∷ 1 ∷ 4 ∷ []

-- our plan for it
abbrev pub plan_t1 : List Fate
plan_t1 = Served Plain 0 ∷ Served Plain 0 ∷ Blocked ∷ Blocked ∷ []

-- requests 0, 1 and 2 served, the last of them by the seam
abbrev pub three_served : List Fate
three_served = Served Plain 0 ∷ Served Plain 0 ∷ Served Seam 0 ∷ Blocked ∷ []

-- T1 n 8, w 1: "a feasible plan serves 3 (requests 0, 1, 2), so the bound is met exactly, and so is the ceiling"; with input and output
pub record T1 : Type 0 where
  pub plans : Plans 8 1 ends_t1 (line2 2 2 2 part.Chain 3) plan_t1
  pub feasible : Feasible 8 1 (requests_of ends_t1) three_served
  pub serves : served three_served ≡ 3
  pub exactly : 3 * served plan_t1 ≡ 2 * served three_served
  pub prints : Prints (bytes "8 1 4\n0 3\n3 6\n6 0\n1 4\n")
      (bytes "plan 8 1 4\nchain 2 match 2 pair 2 used chain ceiling 3\n0 P 0\n1 P 0\n2 B\n3 B\n")

-- T2 n 7, w 2: "chain serves 4, colours 0, 1, 1, 0; ceiling 4"
pub record T2 : Type 0 where
  pub plans : Plans 7 2 (0 ∷ 2 ∷ 1 ∷ 3 ∷ 3 ∷ 5 ∷ 2 ∷ 6 ∷ []) (line2 4 2 4 part.Chain 4)
      (Served Plain 0 ∷ Served Plain 1 ∷ Served Plain 1 ∷ Served Plain 0 ∷ [])

-- T3 n 4, w 1: "pair part, numbers 1 and 2; ceiling 2"
pub record T3 : Type 0 where
  pub plans : Plans 4 1 (0 ∷ 2 ∷ 2 ∷ 0 ∷ []) (line2 1 1 2 part.Pair 2) (Served Plain 0 ∷ Served Seam 0 ∷ [])
  pub numbers : map fate_number (Served Plain 0 ∷ Served Seam 0 ∷ []) ≡ 1 ∷ 2 ∷ []

-- the list of T4 and T10
abbrev pub ends_t4 : List ℕ
ends_t4 = 0 ∷ 2 ∷ 1 ∷ 3 ∷ []

-- T4 n 4, w 1: "chain 1, match 0, pair 1, chain used, ceiling 1"
pub record T4 : Type 0 where
  pub plans : Plans 4 1 ends_t4 (line2 1 0 1 part.Chain 1) (Served Plain 0 ∷ Blocked ∷ [])

-- the list of T5
abbrev pub ends_t5 : List ℕ
ends_t5 = 0 ∷ 1 ∷ 0 ∷ 1 ∷ 0 ∷ 1 ∷ []

-- "By the matching that is found, the numbers are 1, 2, 3 or 1, 3, 2 or 3, 1, 2", and nothing is written behind them
abbrev pub TableT5 : List ℕ → List ℕ → Type 0
TableT5 before after =
    (after ≡ 1 ∷ 2 ∷ 3 ∷ drop 3 before) ⊎ ((after ≡ 1 ∷ 3 ∷ 2 ∷ drop 3 before) ⊎ (after ≡ 3 ∷ 1 ∷ 2 ∷ drop 3 before))

-- T5 n 3, w 2: "{0,1} three times: chain 2, match 1, pair 3, pair used, ceiling 3"
pub record T5 : Type 0 where
  pub plans : PlansTo 3 2 ends_t5 (line2 2 1 3 part.Pair 3) TableT5

-- T6 "no requests: all counts 0, chain used, ceiling 0", on any ring and with any number of colours within the limits
pub record T6 : Type 0 where
  pub plans : (n w : ℕ) → 3 ≤ n → n ≤ 256 → 1 ≤ w → w ≤ 128 → Plans n w [] (line2 0 0 0 part.Chain 0) []

-- T7 up to its removal, the latest call first; all its calls are the desk's
abbrev pub removed_t7 : List Call
removed_t7 = Remove 1 ∷ Grant 1 3 0 0 desk ∷ Grant 2 3 0 0 desk ∷ Grant 0 2 0 0 desk ∷ []

-- T7 n 4, w 1: the grants, the removal with "a confirmation after" it, and the shows; without the confirmation {0,1} plain is 11
pub record T7 : Type 0 where
  pub answers : history (opened 4 1).book
      (Show 4 desk ∷ Show 1 desk ∷ Grant 0 1 0 0 desk ∷ Grant 0 2 1 0 desk ∷ Confirm 1 ∷ removed_t7)
      ≡ ShowAnswered 4 desk (Err SerialNeverGiven)
      ∷ ShowAnswered 1 desk (Err SerialRemoved)
      ∷ GrantAnswered 0 1 0 0 desk (Ok 3)
      ∷ GrantAnswered 0 2 1 0 desk (Err ColourHeld)
      ∷ ConfirmAnswered 1 (Ok tt)
      ∷ RemoveAnswered 1 (Ok tt)
      ∷ GrantAnswered 1 3 0 0 desk (Err ColourHeld)
      ∷ GrantAnswered 2 3 0 0 desk (Ok 2)
      ∷ GrantAnswered 0 2 0 0 desk (Ok 1)
      ∷ []
  pub unconfirmed : event (run (opened 4 1).book removed_t7) (Grant 0 1 0 0 desk)
      ≡ GrantAnswered 0 1 0 0 desk (Err ColourHeld)
  pub colour_is_held : number_of ColourHeld ≡ 11
  pub was_never_given : number_of SerialNeverGiven ≡ 14
  pub gone : number_of SerialRemoved ≡ 15

-- T8 "a block zero but for byte 509, value 129: check 269"
pub record T8 : Type 0 where
  pub check : check_of (replicate 509 0 ++ (129 ∷ 0 ∷ 0 ∷ [])) ≡ 269

-- T9 "lengths: live 0 is 512; 1 and 63 are 1,024; 64 is 1,536; 512 is 5,120"
pub record T9 : Type 0 where
  pub none : stored_length Old 0 ≡ 512
  pub one : stored_length Old 1 ≡ 1024
  pub block : stored_length Old 63 ≡ 1024
  pub more : stored_length Old 64 ≡ 1536
  pub all : stored_length Old 512 ≡ 5120

-- T10 "T4's list with numbers 1, 1: refused 8, requests 0 and 1; with 1, 0: passes, 1 served", and what the check prints
pub record T10 : Type 0 where
  pub refused : check_answer 4 1 ends_t4 (1 ∷ 1 ∷ []) ≡ Err (Conflict 0 1)
  pub refusal_number : number_of (Conflict 0 1) ≡ 8
  pub refusal_requests : carried_by (Conflict 0 1) ≡ Two 0 1
  pub passes : check_answer 4 1 ends_t4 (1 ∷ 0 ∷ []) ≡ Ok 1
  pub line_of_refusal : line_for (bytes "4 1 2\n0 2\n1 3\n1\n1\n") ≡ bytes "refused 8 0 1\n"
  pub passing_line : line_for (bytes "4 1 2\n0 2\n1 3\n1\n0\n") ≡ bytes "served 1\n"

-- the whole table
pub record Table : Type 0 where
  pub t1 : T1
  pub t2 : T2
  pub t3 : T3
  pub t4 : T4
  pub t5 : T5
  pub t6 : T6
  pub t7 : T7
  pub t8 : T8
  pub t9 : T9
  pub t10 : T10
