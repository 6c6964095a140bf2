-- Blocks: bytes in their places, block numbers and checks.
use Rattle.std.specs.Prelude.{ℕ, ◌+◌, ◌-◌, ◌*◌, ◌/◌, ◌%◌, List, [], ◌∷◌, ◌++◌, length, get_or, take, replicate}

-- "numbers are 16 bits, low byte first"
abbrev pub word : ℕ → List ℕ
word x = x % 256 ∷ x / 256 % 256 ∷ []

-- the number whose low byte stands at a position
abbrev pub word_at : List ℕ → ℕ → ℕ
word_at bytes at = get_or bytes at 0 + 256 * get_or bytes (at + 1) 0

-- each byte "times its position plus one, summed", where the first stands at position i
abbrev pub weighted : ℕ → List ℕ → ℕ
weighted i [] = 0
weighted i (x ∷ xs) = x * (i + 1) + weighted (i + 1) xs

-- "the check: each of bytes 0 to 509 times its position plus one, summed, modulo 65,521"
unfoldable pub check_of : List ℕ → ℕ
check_of bytes = weighted 0 (take 510 bytes) % 65521

-- "Bytes 508 and 509 of each block are the block number from 0", with the block's contents and zeros before it
unfoldable pub numbered : ℕ → List ℕ → List ℕ
numbered k contents = (contents ++ replicate (508 - length contents) 0) ++ word k

-- "Bytes 510 and 511 are the check"
unfoldable pub block_of : ℕ → List ℕ → List ℕ
block_of k contents = numbered k contents ++ word (check_of (numbered k contents))
