-- Conversions: an old file there and back.
use Rattle.ring.specs.declared.refusals.Refusal.{Refusal}
use Rattle.std.specs.Prelude.{Result, Ok, ⊤}
use mathlib.Core.Path.{◌≡◌, refl, sym, ◌∙◌, ap}
use mathlib.Core.List.{List, ◌++◌}
use Prim.Native.Nat.{ℕ, ◌≤◌}
use native.Mathlib.Omega.{arith}
use lib.ListN.{length, drop}
use Rattle.ring.specs.declared.refusals.Refusal.TheVariants.{MarkedConversion}
use Rattle.stored.specs.declared.forms.Form.TheVariants.{Old, New}
use Rattle.stored.specs.Forms.{stored_form}
use Rattle.stored.specs.Storing.{length_of}
use Rattle.stored.specs.Loading.{Loaded, loaded, loaded_old}
use Rattle.stored.specs.Converting.{convert_after, buffer_after, convert_answer, after_convert, back_after, buffer_after_back, back_answer}
use Rattle.stored.specs.Converting.{after_back}
use Rattle.stored.specs.Promises.{EveryOldConverts}
use Rattle.stored.proofs.StoreLaws.{form_length, store_answer_lem, store_copied, unmarked_written}
use Rattle.stored.proofs.Promised.{reads_back, loads_only_old_forms}

-- what a load that is told comes to
pub convert_told : (bytes buffer : List ℕ) (loads : Loaded) → loaded_old bytes ≡ loads
    → (convert_answer bytes buffer ≡ convert_after loads.answer loads.book buffer)
    × (after_convert bytes buffer ≡ buffer_after loads.answer loads.book buffer)
unfolding convert_answer after_convert
convert_told bytes buffer loads e = (
  ap (λ (x : Loaded). convert_after x.answer x.book buffer) e,
  ap (λ (x : Loaded). buffer_after x.answer x.book buffer) e,
)

pub back_told : (bytes buffer : List ℕ) (loads : Loaded) → loaded 0 bytes ≡ loads
    → (back_answer bytes buffer ≡ back_after loads.answer loads.book buffer)
    × (after_back bytes buffer ≡ buffer_after_back loads.answer loads.book buffer)
unfolding back_answer after_back
back_told bytes buffer loads e = (
  ap (λ (x : Loaded). back_after x.answer x.book buffer) e,
  ap (λ (x : Loaded). buffer_after_back x.answer x.book buffer) e,
)

pub every_old_converts : EveryOldConverts
every_old_converts bytes e =
    let b = (loaded_old bytes).book in
    let is = loads_only_old_forms bytes e in
    let loads : loaded_old bytes ≡ record { answer = Ok tt; book = b } =
    ap (λ (a : Result ⊤ Refusal). record { answer = a; book = b }) e in
    let size : length bytes ≡ length_of Old b = ap length is.form ∙ form_length Old b in
    record {
      book = loads;
      unmarked = is.unmarked;
      there = λ buffer h.
          let told = convert_told bytes buffer _ loads in
          (told.0 ∙ sym (store_answer_lem New b buffer _ refl h), told.1 ∙ store_copied New b buffer h);
      back = λ buffer h.
          let again = reads_back b is.valid 0 (omega arith) in
          let told = back_told (stored_form New b) buffer _ again in
          let plain = unmarked_written MarkedConversion b buffer is.unmarked in
          let room : length_of Old b ≤ length buffer = omega arith in (
            told.0 ∙ sym plain.0 ∙ sym (store_answer_lem Old b buffer _ size room),
            told.1 ∙ sym plain.1 ∙ store_copied Old b buffer room
                ∙ ap (λ (l : List ℕ). l ++ drop (length_of Old b) buffer) (sym is.form)
                ∙ ap (λ (k : ℕ). bytes ++ drop k buffer) (sym size),
          );
    }
