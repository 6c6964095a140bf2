-- Lines on their way into a bundle.
use Rattle.std.specs.Prelude.{◌≤◌, ◌<◌, ◌≡◌, List, length, take}
use Rattle.book.specs.declared.grants.Line.{Line}
use Rattle.bundles.specs.declared.bundles.Bundle.{Bundle}

-- the bundle has these lines; where they are too many, it says no more than that
pub record Bundled (bundle : Bundle) (ls : List Line) : Type 0 where
  pub few : length ls ≤ 16 → (bundle.count ≡ length ls) × (take (length ls) bundle.lines ≡ ls)
  pub many : 16 < length ls → 16 < bundle.count
