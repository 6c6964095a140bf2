-- A list of requests, by the list of their ends.
use Prim.Native.Nat.{ℕ, zero, suc, ◌+◌, ◌*◌, ◌/◌, ◌<◌, ◌≤◌}
use mathlib.Core.Path.{◌≡◌, refl}
use mathlib.Core.List.{List, [], ◌∷◌}
use native.Mathlib.Numerals.{add-one}
use native.Mathlib.Omega.{arith}
use lib.ListN.{length, get_or, drop}
use lib.Seq.{drop-cons}
use Rattle.ring.specs.declared.requests.Request.{Request}
use Rattle.ring.specs.Requests.{request_of, requests_of, request, ValidRequests}

-- the place of an end of the next request
next_first : (i : ℕ) → 2 * suc i ≡ suc (suc (2 * i))
next_first i = omega arith

next_second : (i : ℕ) → 2 * suc i + 1 ≡ suc (suc (2 * i + 1))
next_second i = omega arith

-- half as many requests as ends
pub requests_length : (ends : List ℕ) → length (requests_of ends) ≡ length ends / 2
requests_length [] = refl
requests_length (x ∷ []) = refl
requests_length (x ∷ y ∷ ends) = omega (arith, requests_length ends)

-- request i has the ends at 2 i and 2 i + 1
pub request_at_lem : (ends : List ℕ) (i : ℕ) → 2 * i + 1 < length ends
    → request (requests_of ends) i ≡ request_of (get_or ends (2 * i) 0) (get_or ends (2 * i + 1) 0)
request_at_lem [] i h = absurd (omega arith)
request_at_lem (x ∷ []) i h = absurd (omega arith)
request_at_lem (x ∷ y ∷ ends) zero h = refl
request_at_lem (x ∷ y ∷ ends) (suc i) h = rw (next_second, next_first) (request_at_lem ends i (omega arith))

-- the requests from number i on have the ends from 2 i on
pub requests_drop : (ends : List ℕ) (i : ℕ) → drop i (requests_of ends) ≡ requests_of (drop (2 * i) ends)
requests_drop ends zero = refl
requests_drop [] (suc i) = rw next_first
requests_drop (x ∷ []) (suc i) = rw next_first
requests_drop (x ∷ y ∷ ends) (suc i) = rw next_first (requests_drop ends i)

-- the two ends of request i, and those behind them
pub drop_two : (l : List ℕ) (i : ℕ) → 2 * i + 1 < length l → drop (2 * i) l ≡ get_or l (2 * i) 0 ∷ get_or l (2 * i + 1) 0 ∷ drop (2 * (i + 1)) l
drop_two l i h =
    let first : 2 * i < length l = omega arith in
    let second : suc (2 * i) < length l = omega arith in
    rw (add-one (2 * i), add-one i, next_first, drop-cons l (2 * i) 0, drop-cons l (suc (2 * i)) 0)

-- requests on fewer nodes are requests on 256
pub valid_on_256 : (n : ℕ) (R : List Request) → n ≤ 256 → ValidRequests n R → ValidRequests 256 R
valid_on_256 n R h v = record { few = v.few; ordered = v.ordered; nodes = λ i l. omega (arith, v.nodes i l) }
