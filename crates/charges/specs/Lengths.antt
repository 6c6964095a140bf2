-- The lengths of the links in metres, and the metres along a way.
use Rattle.std.specs.Prelude.{ℕ, ◌+◌, Bool, not, cond, ◌||◌, List, [], ◌∷◌, eqb, ltb, length}
use Rattle.std.specs.List.{list_any}
use Rattle.ring.specs.declared.requests.Request.{Request}
use Rattle.ring.specs.declared.ways.Way.{Way}
use Rattle.ring.specs.declared.refusals.Refusal.TheVariants.{LinkLengths}
use Rattle.ring.specs.Refusals.{refuse_if, Verdict}
use Rattle.ring.specs.Ways.{uses}

-- the lengths of those links that a way uses, added; the first of these links has the number i
abbrev pub metres_from : ℕ → Way → Request → List ℕ → ℕ
metres_from i way r [] = 0
metres_from i way r (l ∷ lengths) = cond (uses way r i) l 0 + metres_from (i + 1) way r lengths

-- "Given each link's length in metres": the metres "along its way", where links 0, 1 and on have these lengths
unfoldable pub metres : Way → Request → List ℕ → ℕ
metres way r lengths = metres_from 0 way r lengths

-- some number of a list is below the least or above the most
abbrev pub some_outside : ℕ → ℕ → List ℕ → Bool
some_outside least most xs = list_any (λ x. ltb x least || ltb most x) xs

-- "29, not n lengths or a length not 1 to 1,000,000", on the way or not
unfoldable pub lengths_verdict : ℕ → List ℕ → Verdict
lengths_verdict n lengths = refuse_if (not (eqb (length lengths) n) || some_outside 1 1000000 lengths) LinkLengths
