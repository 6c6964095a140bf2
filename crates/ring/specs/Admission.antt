-- The refusals that plan and check share: 1 to 6, "tested in the order written".
use Rattle.std.specs.Prelude.{Result, Ok, Err, ℕ, ◌+◌, ◌/◌, ◌%◌, ◌||◌, List, [], ◌∷◌, eqb, leb, ltb, length}
use Rattle.ring.specs.declared.rings.Ring.{Ring}
use Rattle.ring.specs.declared.refusals.Refusal.{Refusal}
use Rattle.ring.specs.declared.refusals.Refusal.TheVariants.{NodeCount, ColourCount, RequestCount, RequestEnd, RequestEndsEqual}
use Rattle.ring.specs.declared.refusals.Refusal.TheVariants.{TableShort}
use Rattle.ring.specs.Refusals.{Verdict, refuse_if, or_else}

-- "1 n not 3 to 256. 2 w not 1 to 128."
unfoldable pub ring_verdict : ℕ → ℕ → Verdict
ring_verdict n w =
    or_else (refuse_if (ltb n 3 || ltb 256 n) NodeCount)
    (refuse_if (ltb w 1 || ltb 128 w) ColourCount)

-- "4 an end is n or more, 5 equal ends", of the ends x and y; a request of a list and a grant each have a name of their own for the two
unfoldable pub ends_verdict : ℕ → ℕ → ℕ → Refusal → Refusal → Verdict
ends_verdict n x y outside equal = or_else (refuse_if (leb n x || leb n y) outside) (refuse_if (eqb x y) equal)

-- the same of request i
abbrev pub request_verdict : ℕ → ℕ → ℕ → ℕ → Verdict
request_verdict n i x y = ends_verdict n x y (RequestEnd i) (RequestEndsEqual i)

-- "Then by request number", from request i on
unfoldable pub request_verdicts : ℕ → ℕ → List ℕ → Verdict
request_verdicts n i [] = Ok tt
request_verdicts n i (x ∷ []) = Ok tt
request_verdicts n i (x ∷ y ∷ ends) = or_else (request_verdict n i x y) (request_verdicts n (i + 1) ends)

-- "3 more than 512 requests, or an odd number of ends", of so many ends
unfoldable pub count_verdict : ℕ → Verdict
count_verdict ends = refuse_if (ltb 1024 ends || eqb (ends % 2) 1) RequestCount

-- 3, "Then by request number: 4 .., 5 .."
unfoldable pub list_verdict : ℕ → List ℕ → Verdict
list_verdict n ends = or_else (count_verdict (length ends)) (request_verdicts n 0 ends)

-- 1 to 5, and then "6 the plan table has fewer than m entries"
unfoldable pub call_verdict : ℕ → ℕ → List ℕ → ℕ → Verdict
call_verdict n w ends entries =
    or_else (ring_verdict n w)
    (or_else (list_verdict n ends)
    (refuse_if (ltb entries (length ends / 2)) TableShort))

-- the ring, or the refusal of a verdict
abbrev pub ring_unless : Verdict → ℕ → ℕ → Result Ring Refusal
ring_unless (Ok tt) n w = Ok (record { nodes = n; colours = w })
ring_unless (Err r) n w = Err r

-- open: "1, 2"
unfoldable pub ring_answer : ℕ → ℕ → Result Ring Refusal
ring_answer n w = ring_unless (ring_verdict n w) n w

-- "1 to 6 as Plan"
unfoldable pub call_answer : ℕ → ℕ → List ℕ → ℕ → Result Ring Refusal
call_answer n w ends entries = ring_unless (call_verdict n w ends entries) n w
