-- Numbers as decimal digits.
use Rattle.std.specs.Prelude.{ℕ, zero, suc, ◌+◌, ◌/◌, ◌%◌, cond, List, [], ◌∷◌, ◌++◌, ltb}

-- the digits of a number that has at most so many, without leading zeros
abbrev pub digits : ℕ → ℕ → List ℕ
digits zero n = []
digits (suc k) n = cond (ltb n 10) ((48 + n) ∷ []) (digits k (n / 10) ++ ((48 + n % 10) ∷ []))

-- "Numbers are printed without leading zeros": a number of the text has at most 5 digits
unfoldable pub decimal : ℕ → List ℕ
decimal n = digits 5 n

-- the same of a number of 64 bits, which has at most 20 digits
unfoldable pub long_decimal : ℕ → List ℕ
long_decimal n = digits 20 n
