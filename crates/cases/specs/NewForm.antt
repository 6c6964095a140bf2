-- Cases of the new stored form, beside the rules' own: its lengths, one record, and revisions.
use Rattle.std.specs.Prelude.{ℕ, ◌≡◌, List, [], ◌∷◌}
use Rattle.ring.specs.declared.ways.Way.TheVariants.{Seam}
use Rattle.ring.specs.declared.refusals.Refusal.TheVariants.{MarkedConversion, RevisionLow}
use Rattle.ring.specs.Refusals.{number_of}
use Rattle.book.specs.declared.circuits.RecordState.TheVariants.{Pending}
use Rattle.book.specs.declared.circuits.Circuit.{Circuit}
use Rattle.book.specs.Circuits.{desk}
use Rattle.book.specs.Books.{opened}
use Rattle.book.specs.Revisions.{revision}
use Rattle.book.specs.History.{Call, Grant, Remove, Confirm, run}
use Rattle.stored.specs.declared.forms.Form.TheVariants.{Old, New}
use Rattle.stored.specs.Forms.{stored_length, record_bytes}

-- no record 512; 1 and 42 are 1,024; 43 is 1,536; 512 is 7,168
pub record NewLengths : Type 0 where
  pub none : stored_length New 0 ≡ 512
  pub one : stored_length New 1 ≡ 1024
  pub block : stored_length New 42 ≡ 1024
  pub more : stored_length New 43 ≡ 1536
  pub all : stored_length New 512 ≡ 7168

-- order 258, {1,3} on the seam way in colour 2, of crew 300, pending
abbrev pub seam_order : Circuit
seam_order = record { serial = 258; a = 1; b = 3; way = Seam; colour = 2; crew = 300; state = Pending }

-- its 12 bytes: serial, a, b, fate number 6, crew, state, zero; the old form has the first 8
pub record RecordCase : Type 0 where
  pub new : record_bytes New seam_order ≡ 2 ∷ 1 ∷ 1 ∷ 0 ∷ 3 ∷ 0 ∷ 6 ∷ 0 ∷ 44 ∷ 1 ∷ 1 ∷ 0 ∷ []
  pub old : record_bytes Old seam_order ≡ 2 ∷ 1 ∷ 1 ∷ 0 ∷ 3 ∷ 0 ∷ 6 ∷ 0 ∷ []

-- the revision of the book on 4 nodes with one colour after these calls, the latest first
abbrev pub revision_after : List Call → ℕ
revision_after calls = revision (run (opened 4 1).book calls)

-- 0 at the opening, 1 after a grant, 2 after its removal, and still 2 once that is confirmed
pub record RevisionCase : Type 0 where
  pub opening : revision_after [] ≡ 0
  pub granted : revision_after (Grant 0 2 0 0 desk ∷ []) ≡ 1
  pub removed : revision_after (Remove 1 ∷ Grant 0 2 0 0 desk ∷ []) ≡ 2
  pub confirmed : revision_after (Confirm 1 ∷ Remove 1 ∷ Grant 0 2 0 0 desk ∷ []) ≡ 2
  pub marked_conversion : number_of MarkedConversion ≡ 27
  pub revision_low : number_of RevisionLow ≡ 28
