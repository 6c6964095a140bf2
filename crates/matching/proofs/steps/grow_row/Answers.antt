use Prim.Native.Nat.{ℕ, ◌<◌}
use mathlib.Core.Path.{◌≡◌, ap, ◌∙◌}
use mathlib.Core.List.{List, []}
use lib.ListN.{length, get_or, set}
use Rattle.matching.specs.Internal.Steps.{grown_row}
use Rattle.matching.proofs.RowLaws.{changed_row}
use Rattle.matching.proofs.steps.grow_row.Goals as goal

grown : (rows copied : List (List ℕ)) (x y c : ℕ) (row : List ℕ) → c < length rows → copied ≡ set rows c (get_or rows x [])
    → row ≡ set (set (set (get_or copied c []) x y) y x) c c
    → set copied c row ≡ set rows c (grown_row rows x y c)
grown rows copied x y c row l e f =
    ap (set copied c) f ∙ changed_row rows copied c (get_or rows x []) (λ r. set (set (set r x y) y x) c c) l e

pub returns : goal.returns
returns c =
    grown c.args.rows.now _ _ _ _ _ c.requires.4
    c.copy_row.ensures c.pair_in_row.ensures
