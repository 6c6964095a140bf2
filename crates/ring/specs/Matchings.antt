-- Matchings on a list of requests.
use Rattle.std.specs.Prelude.{ℕ, ◌≤◌, ◌<◌, ◌≡◌, true, List, [], ◌∷◌, length, get_or}
use Rattle.ring.specs.declared.requests.Request.{Request}
use Rattle.ring.specs.Requests.{request}
use Rattle.ring.specs.Chords.{compatible}

-- two request numbers
pub record Pair : Type 0 where
  pub first : ℕ
  pub second : ℕ

-- the pair at a place; a place past the list has no meaning, and gets 0 and 0
abbrev pub pair : List Pair → ℕ → Pair
pair P k = get_or P k (record { first = 0; second = 0 })

-- all request numbers of a list of pairs
abbrev pub request_numbers : List Pair → List ℕ
request_numbers [] = []
request_numbers (p ∷ P) = p.first ∷ p.second ∷ request_numbers P

-- no number stands twice in the list
abbrev pub NoTwice : List ℕ → Type 0
NoTwice l = (i j : ℕ) → i < j → j < length l → get_or l i 0 ≡ get_or l j 0 → ⊥

-- "A matching is a set of pairs", of compatible requests, "and no request is in two pairs"
pub record IsMatching (R : List Request) (P : List Pair) : Type 0 where
  pub numbers : (k : ℕ) → k < length P → ((pair P k).first < length R) × ((pair P k).second < length R)
  pub compatibles : (k : ℕ) → k < length P → compatible (request R (pair P k).first) (request R (pair P k).second) ≡ true
  pub once : NoTwice (request_numbers P)

-- "a maximum one if no matching on the same list is larger"
pub record IsMaximum (R : List Request) (P : List Pair) : Type 0 where
  pub matching : IsMatching R P
  pub largest : (Q : List Pair) → IsMatching R Q → length Q ≤ length P
