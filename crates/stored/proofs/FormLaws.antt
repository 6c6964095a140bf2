-- What is so of both forms in numbers: records in a block, blocks in a form.
use Prim.Native.Nat.{ℕ, suc, ◌+◌, ◌*◌, ◌≤◌, ◌<◌}
use mathlib.Core.Path.{◌≡◌, refl}
use native.Mathlib.Omega.{arith}
use lib.ListN.{length}
use Rattle.std.specs.Int.{div_ceil}
use Rattle.book.specs.declared.circuits.Circuit.{Circuit}
use Rattle.stored.specs.declared.forms.Form.{Form}
use Rattle.stored.specs.declared.forms.Form.TheVariants.{Old, New}
use Rattle.stored.specs.Forms.{record_size, block_records, longest, marks_bytes, record_bytes, first_record, later_blocks, stored_length}
use Rattle.stored.specs.Reading.{record_place}

pub record_length : (form : Form) (c : Circuit) → length (record_bytes form c) ≡ record_size form
record_length Old c = refl
record_length New c = refl

pub marks_length : (form : Form) (c : Circuit) → record_size form ≡ 8 + length (marks_bytes form c)
marks_length Old c = refl
marks_length New c = refl

-- records stand one behind the other, and a block has room for all of its share
pub place_none : (form : Form) → record_place form 0 ≡ 0
unfolding record_place
place_none Old = refl
place_none New = refl

pub place_next : (form : Form) (i : ℕ) → record_size form + record_place form i ≡ record_place form (suc i)
unfolding record_place
place_next Old i = omega arith
place_next New i = omega arith

pub places_fit : (form : Form) (i : ℕ) → i ≤ block_records form → record_place form i ≤ 504
unfolding record_place
places_fit Old i h = omega arith
places_fit New i h = omega arith

pub place_fits : (form : Form) (i : ℕ) → i < block_records form → record_place form i + record_size form ≤ 504
unfolding record_place
place_fits Old i h = omega arith
place_fits New i h = omega arith

pub share_some : (form : Form) → 1 ≤ block_records form
share_some Old = omega arith
share_some New = omega arith

-- each later block takes up where the one before it was full
pub first_none : (form : Form) → first_record form 0 ≡ 0
unfolding first_record
first_none Old = refl
first_none New = refl

pub first_next : (form : Form) (k : ℕ) → first_record form k + block_records form ≡ first_record form (suc k)
unfolding first_record
first_next Old k = omega arith
first_next New k = omega arith

pub first_small : (form : Form) (k : ℕ) → k < 512 → block_records form * k ≤ 32768
first_small Old k h = omega arith
first_small New k h = omega arith

-- there are as many later blocks as have records
pub later_begun : (form : Form) (count k : ℕ) → k < later_blocks form count → first_record form k < count
unfolding first_record later_blocks
later_begun Old count k h = omega arith
later_begun New count k h = omega arith

pub later_all : (form : Form) (count : ℕ) → count ≤ first_record form (later_blocks form count)
unfolding first_record later_blocks
later_all Old count = omega arith
later_all New count = omega arith

pub later_few : (form : Form) (count : ℕ) → count ≤ 512 → stored_length form count ≤ longest form
unfolding later_blocks
later_few Old count h = omega arith
later_few New count h = omega arith

-- every begun group has a block
pub later_groups : (form : Form) (count : ℕ) → div_ceil count (block_records form) ≡ later_blocks form count
unfolding later_blocks
later_groups Old count = omega arith
later_groups New count = omega arith

pub longest_small : (form : Form) → longest form ≤ 7168
longest_small Old = omega arith
longest_small New = omega arith

pub length_small : (form : Form) (count : ℕ) → count ≤ 512 → stored_length form count ≤ 7168
length_small form count h = omega (arith, later_few form count h, longest_small form)
