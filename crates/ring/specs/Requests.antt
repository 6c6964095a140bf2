-- Requests and their numbers.
use Rattle.std.specs.Prelude.{ℕ, ◌≤◌, ◌<◌, min, max, List, [], ◌∷◌, length, get_or}
use Rattle.ring.specs.declared.requests.Request.{Request}

-- "order of ends has no meaning; a is the smaller and b the larger"
abbrev pub request_of : ℕ → ℕ → Request
request_of x y = record { a = min x y; b = max x y }

-- "A list has 0 to 512 requests, numbered from 0": a list of ends is read two by two
abbrev pub requests_of : List ℕ → List Request
requests_of [] = []
requests_of (x ∷ []) = []
requests_of (x ∷ y ∷ ends) = request_of x y ∷ requests_of ends

-- the request of a number; a number past the list has no meaning, and gets the ends 0 and 0
abbrev pub request : List Request → ℕ → Request
request R i = get_or R i (request_of 0 0)

-- "A request is two different nodes", of nodes 0 to n - 1; a list has at most 512 requests
pub record ValidRequests (n : ℕ) (R : List Request) : Type 0 where
  pub few : length R ≤ 512
  pub ordered : (i : ℕ) → i < length R → (request R i).a < (request R i).b
  pub nodes : (i : ℕ) → i < length R → (request R i).b < n
