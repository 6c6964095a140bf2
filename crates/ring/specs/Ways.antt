-- The links of a way.
use Rattle.std.specs.Prelude.{ℕ, zero, suc, ◌+◌, Bool, false, not, cond, ◌&&◌, ◌||◌, leb, ltb}
use Rattle.ring.specs.declared.requests.Request.{Request}
use Rattle.ring.specs.declared.ways.Way.{Way}
use Rattle.ring.specs.declared.ways.Way.TheVariants.{Plain, Seam}

-- links a to b - 1
abbrev pub within : ℕ → ℕ → ℕ → Bool
within a b link = leb a link && ltb link b

-- "The plain way uses links a to b−1", "the seam way uses all the other links"
unfoldable pub uses : Way → Request → ℕ → Bool
uses Plain r link = within r.a r.b link
uses Seam r link = not (within r.a r.b link)

-- some link below n has the property
unfoldable pub some_link : ℕ → (ℕ → Bool) → Bool
some_link zero p = false
some_link (suc n) p = p n || some_link n p

-- "share a link": some link of the n is used by both ways
unfoldable pub share_link : ℕ → Way → Request → Way → Request → Bool
share_link n u r v s = some_link n (λ link. uses u r link && uses v s link)

-- the number of links of a way, among those below n
unfoldable pub link_count : ℕ → Way → Request → ℕ
link_count zero way r = 0
link_count (suc n) way r = cond (uses way r n) 1 0 + link_count n way r
