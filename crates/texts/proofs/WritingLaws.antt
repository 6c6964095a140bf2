-- Writes one after the other.
use Prim.Native.Nat.{ℕ, ◌+◌, ◌-◌, ◌/◌, ◌%◌, ◌≤◌, ◌<◌}
use mathlib.Core.Path.{◌≡◌, refl, sym, ◌∙◌, ap}
use mathlib.Core.List.{List, [], ◌∷◌, ◌++◌, append_assoc}
use native.Mathlib.Omega.{arith}
use lib.ListN.{length, take, drop, length-append}
use lib.Seq.{drop-drop}
use borrow.Rule.Slice.PartMut.{put_mid}
use Rattle.texts.specs.Decimal.{long_decimal}
use Rattle.texts.specs.declared.writing.Writer.{Writer}
use Rattle.texts.proofs.DecimalLaws.{long_one, long_more}
use Rattle.ring.specs.Buffers.{written}
use Rattle.ring.proofs.BufferLaws.{written_length, written_twice, written_none}
use Rattle.texts.specs.Internal.Writing.{Begun, Room, Wrote}

-- nothing written is a write
pub wrote_none : (writer : Writer) → Room 0 writer → Wrote writer [] writer
wrote_none writer h = record {
  buffer = refl;
  follows = omega arith;
  room = omega arith;
  exact = written_none writer.out.now writer.at;
  kept = refl;
}

-- one write after the other
pub wrote_then : {before mid after : Writer} {a b : List ℕ} → Wrote before a mid → Wrote mid b after → Wrote before (a ++ b) after
wrote_then {before} {mid} {after} {a} {b} s t =
    let size : length (a ++ b) ≡ length a + length b = length-append a b in
    record {
      buffer = t.buffer ∙ s.buffer;
      follows = omega arith;
      room = omega arith;
      exact = t.exact ∙ rw (s.exact, s.follows) (written_twice before.out.now before.at a b (omega arith));
      kept = t.kept ∙ s.kept;
    }

-- the room that a write leaves
pub room_left : {before after : Writer} {bytes : List ℕ} (most rest : ℕ) → Wrote before bytes after → length bytes ≤ most
    → Room (most + rest) before
    → Room rest after
room_left {before} {after} {bytes} most rest s short room = omega arith

-- what is written from the start on
pub wrote_front : {out bytes : List ℕ} {before after : Writer} → Begun out before → Wrote before bytes after
    → (after.at ≡ length bytes) × (after.out.now ≡ bytes ++ drop (length bytes) out)
unfolding written
wrote_front {out} {bytes} {before} {after} b s =
    let size : 0 + length bytes ≡ length bytes = omega arith in
    (omega arith, s.exact ∙ rw (b.bytes, b.start) (ap (λ (k : ℕ). bytes ++ drop k out) size))

-- a write as it stands in the code keeps the buffer's length
pub wrote_kept : (out : List ℕ) (at : ℕ) (bytes : List ℕ) {after : List ℕ} → at + length bytes ≤ length out
    → after ≡ written out at bytes
    → length after ≡ length out
wrote_kept out at bytes h e = rw e (written_length out at bytes h)

-- a part of the buffer that is copied into is a write
pub written_part : (out : List ℕ) (at : ℕ) (bytes : List ℕ) {part : List ℕ} → at + length bytes ≤ length out → part ≡ bytes
    → put_mid at (at + length bytes - at) out part ≡ written out at bytes
unfolding written
written_part out at bytes {part} h e =
    let size : at + length bytes - at ≡ length bytes = omega arith in
    rw (e, size, ← drop-drop (length bytes) at out) (sym (append_assoc (take at out) bytes _))

-- a number written: its last digit, behind its tenth if there is one
pub wrote_digit : {before after : Writer} {n : ℕ} → n < 10 → Wrote before ((48 + n % 10) ∷ []) after → Wrote before (long_decimal n) after
wrote_digit {before} {after} {n} h s =
    let same : n % 10 ≡ n = omega arith in
    rw (long_one n h, ← same) s

pub wrote_digits : {before mid after : Writer} {n : ℕ} → 10 ≤ n → n < 18446744073709551616 → Wrote before (long_decimal (n / 10)) mid
    → Wrote mid ((48 + n % 10) ∷ []) after
    → Wrote before (long_decimal n) after
wrote_digits {before} {mid} {after} {n} h l s t = rw (long_more n h l) (wrote_then s t)

-- a writer that has written nothing has the room of its buffer
pub begun_room : {out : List ℕ} {writer : Writer} (most : ℕ) → Begun out writer → most ≤ length out → Room most writer
begun_room {out} {writer} most b h = rw (b.bytes, b.start) (omega arith)
