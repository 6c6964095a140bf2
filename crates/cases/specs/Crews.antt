-- A case of crews, beside the rules' own: what a crew, another crew and the desk read of one order.
use Rattle.std.specs.Prelude.{◌≡◌, List, [], ◌∷◌, Ok, Err}
use Rattle.ring.specs.declared.ways.Way.TheVariants.{Plain}
use Rattle.ring.specs.declared.refusals.Refusal.TheVariants.{SerialNeverGiven, CrewNumber}
use Rattle.ring.specs.Refusals.{number_of}
use Rattle.book.specs.declared.circuits.RecordState.TheVariants.{Live}
use Rattle.book.specs.declared.circuits.Circuit.{Circuit}
use Rattle.book.specs.declared.holders.Holder.TheVariants as holder
use Rattle.book.specs.Circuits.{desk}
use Rattle.book.specs.Books.{opened}
use Rattle.book.specs.History.{Call, Grant, Show, Holder, GrantAnswered, ShowAnswered, HolderAnswered, event, run, history}

-- the one grant of the case: {0,1} plain in colour 0, for crew 7
abbrev pub crew_grant : List Call
crew_grant = Grant 0 1 0 0 7 ∷ []

-- its circuit
abbrev pub crew_order : Circuit
crew_order = record { serial = 1; a = 0; b = 1; way = Plain; colour = 0; crew = 7; state = Live }

-- n 4, w 1: crew 7 and the desk are shown order 1 and learn that it holds link 0; crew 8 is answered 14, and learns that link 0 is held
pub record CrewCase : Type 0 where
  pub answers : history (opened 4 1).book
      (Holder 0 0 desk ∷ Holder 0 0 8 ∷ Holder 0 0 7 ∷ Show 1 desk ∷ Show 1 8 ∷ Show 1 7 ∷ crew_grant)
      ≡ HolderAnswered 0 0 desk (Ok (holder.HeldBy 1))
      ∷ HolderAnswered 0 0 8 (Ok holder.Held)
      ∷ HolderAnswered 0 0 7 (Ok (holder.HeldBy 1))
      ∷ ShowAnswered 1 desk (Ok crew_order)
      ∷ ShowAnswered 1 8 (Err SerialNeverGiven)
      ∷ ShowAnswered 1 7 (Ok crew_order)
      ∷ GrantAnswered 0 1 0 0 7 (Ok 1)
      ∷ []
  pub no_crew : event (run (opened 4 1).book crew_grant) (Show 1 1000) ≡ ShowAnswered 1 1000 (Err CrewNumber)
  pub was_never_given : number_of SerialNeverGiven ≡ 14
  pub crew_number : number_of CrewNumber ≡ 26
