-- What a writer leaves in its buffer.
use Rattle.std.specs.Prelude.{ℕ, ◌+◌, ◌≤◌, ◌≡◌, List, length}
use Rattle.ring.specs.Buffers.{written}
use Rattle.texts.specs.declared.writing.Writer.{Writer}

-- nothing is written yet in the buffer that holds these bytes
pub record Begun (out : List ℕ) (writer : Writer) : Type 0 where
  pub bytes : writer.out.now ≡ out
  pub start : writer.at ≡ 0

-- the buffer has room for so many bytes more
abbrev pub Room : ℕ → Writer → Type 0
Room bytes writer = writer.at + bytes ≤ length writer.out.now

-- the bytes were written behind those before, within the same buffer, and the next ones follow them
pub record Wrote (before : Writer) (bytes : List ℕ) (after : Writer) : Type 0 where
  pub buffer : after.out.ghost_name ≡ before.out.ghost_name
  pub follows : after.at ≡ before.at + length bytes
  pub room : after.at ≤ length before.out.now
  pub exact : after.out.now ≡ written before.out.now before.at bytes
  pub kept : length after.out.now ≡ length before.out.now
