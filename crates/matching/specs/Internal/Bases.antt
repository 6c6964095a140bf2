-- The new bases of a blossom, as a loop gives them vertex by vertex and collects the set of those that joined.
use Rattle.std.specs.Prelude.{ℕ, ◌<◌, ◌≤◌, ◌≡◌, Bool, true, cond, ◌&&◌, ◌||◌, List, ltb, length, get_or}
use Rattle.sets.specs.Sets.{has}
use Rattle.matching.specs.declared.climbs.Marks.{Marks}
use Rattle.matching.specs.declared.matchings.Search.{Search}
use Rattle.matching.specs.Internal.Steps.{joins_blossom, new_base, with_bases}

-- z is below n and in the set
unfoldable pub has_below : ℕ → List ℕ → ℕ → Bool
has_below n words z = ltb z n && has words z

-- the given vertices have got the base b and have come into the set
pub record Rebased (b : ℕ) (given : ℕ → Bool) (bases joined after joined-after : List ℕ) : Type 0 where
  pub bases_length : length after ≡ 512
  pub joined_length : length joined-after ≡ 8
  pub base : (z : ℕ) → get_or after z 0 ≡ cond (given z) b (get_or bases z 0)
  pub member : (z : ℕ) → has joined-after z ≡ (given z || has joined z)

-- what the new bases of a blossom ask: bases and queued vertices are below m
pub record Rebasable (m b : ℕ) (s : Search) : Type 0 where
  pub few : m ≤ 512
  pub base_inside : b < m
  pub clock_fits : s.clock ≤ 512
  pub bases_inside : (z : ℕ) → z < m → get_or s.bases z 0 < m
  pub queue_inside : (i : ℕ) → i < s.clock → get_or s.queue i 0 < m

-- those that come to the class of the blossom have got the base b, and the set has them; nothing but bases has changed
pub record BlossomBased (m b : ℕ) (s : Search) (marks : Marks) (t : Search) (joined : List ℕ) : Type 0 where
  pub bases_length : length t.bases ≡ 512
  pub base : (z : ℕ) → z < m → get_or t.bases z 0 ≡ new_base s marks b z
  pub member : (z : ℕ) → z < m → joins_blossom s marks z ≡ true → has joined z ≡ true
  pub kept : t ≡ with_bases s t.bases
