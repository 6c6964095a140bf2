-- The promise of the maximum matching.
use Rattle.std.specs.Prelude.{ℕ, ◌+◌, ◌<◌, ◌≡◌, Bool, true, false, List, [], ◌∷◌, ◌++◌, ◌≢◌, ◌⊎◌, ltb, length, get_or, take}
use Rattle.ring.specs.declared.requests.Request.{Request}
use Rattle.ring.specs.Requests.{request}
use Rattle.ring.specs.Chords.{compatible}
use Rattle.ring.specs.Matchings.{Pair, IsMaximum}
use Rattle.matching.specs.declared.labels.VertexLabel.{VertexLabel}
use Rattle.matching.specs.declared.labels.VertexLabel.TheVariants as kind
use Rattle.matching.specs.declared.matchings.Matching.{Matching}

-- the pair of a request and its mate, where the request is the lower-numbered one
abbrev pub lower_pair : Bool → ℕ → ℕ → List Pair
lower_pair true i j = record { first = i; second = j } ∷ []
lower_pair false i j = []

-- the pairs of a list of mates, from request i on; an exposed request is its own mate
abbrev pub pairs_from : ℕ → List ℕ → List Pair
pairs_from i [] = []
pairs_from i (j ∷ mates) = lower_pair (ltb i j) i j ++ pairs_from (i + 1) mates

-- "Order the pairs by their lower request number": the pairs of the first m mates
unfoldable pub pairs_of : ℕ → List ℕ → List Pair
pairs_of m mates = pairs_from 0 (take m mates)

-- the mate of a request; an exposed one is its own
abbrev pub mate : Matching → ℕ → ℕ
mate s x = get_or s.mates x 0

-- its label
abbrev pub label : Matching → ℕ → VertexLabel
label s x = get_or s.labels x kind.Free

-- its base
abbrev pub base : Matching → ℕ → ℕ
base s x = get_or s.bases x 0

-- a label for good: a search that ended without enlarging the matching gave it
abbrev pub is_frozen : VertexLabel → Bool
is_frozen kind.Free = false
is_frozen kind.Even = false
is_frozen kind.Odd = false
is_frozen kind.FrozenEven = true
is_frozen kind.FrozenOdd = true

-- free: no search that ended without enlarging the matching has reached the request
abbrev pub IsFree : Matching → ℕ → Type 0
IsFree s x = is_frozen (label s x) ≡ false

-- even: such a search has reached it in an even number of steps
abbrev pub IsEven : Matching → ℕ → Type 0
IsEven s x = label s x ≡ kind.FrozenEven

-- odd: in an odd number of steps alone
abbrev pub IsOdd : Matching → ℕ → Type 0
IsOdd s x = label s x ≡ kind.FrozenOdd

-- What labels and bases say: why no matching is larger. The even requests with one base, which is one of them and its own base, are a
-- class: they are matched to each other but for the base, so they are odd in number. No even request is compatible with a free one, or with
-- an even one of another base. So every matching has in each class a request that is exposed or has an odd mate, and leaves at least as
-- many exposed as there are more classes than odd requests. Here only the bases are such, each odd request is the mate of one, and all
-- exposed requests are even: just so many are exposed.
pub record Certified (R : List Request) (s : Matching) : Type 0 where
  pub inside : (x : ℕ) → x < length R → (mate s x < length R) × (base s x < length R)
  pub exposed : (x : ℕ) → x < length R → mate s x ≡ x → IsEven s x
  pub even_free : (x y : ℕ) → x < length R → y < length R → IsEven s x → IsFree s y → compatible (request R x) (request R y) ≡ false
  pub even_even : (x y : ℕ) → x < length R → y < length R → IsEven s x → IsEven s y → compatible (request R x) (request R y) ≡ true
      → base s x ≡ base s y
  pub even_inner : (x : ℕ) → x < length R → IsEven s x → base s x ≢ x
      → IsEven s (mate s x) × (base s (mate s x) ≡ base s x) × (mate s x ≢ x)
  pub even_base : (x : ℕ) → x < length R → IsEven s x → base s x ≡ x → (mate s x ≡ x) ⊎ IsOdd s (mate s x)
  pub odd : (x : ℕ) → x < length R → IsOdd s x → IsEven s (mate s x)
  pub free : (x : ℕ) → x < length R → IsFree s x → IsFree s (mate s x)

-- "Find a maximum matching among compatible requests; its size is the match count." Which one of the maximum matchings it is, is left open,
-- and with it which requests the searches have reached. No search is due any more. Entries of the arrays from the number of requests on
-- have no meaning.
pub record MaximumMatching (R : List Request) (result : Matching) : Type 0 where
  pub maximum : IsMaximum R (pairs_of (length R) result.mates)
  pub size : result.size ≡ length (pairs_of (length R) result.mates)
  pub searched : result.root ≡ length R
  pub certified : Certified R result
