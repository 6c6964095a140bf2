use Prim.Native.Nat.{ℕ}
use native.Mathlib.Omega.{arith}
use lib.ListN.{length-replicate}
use Rattle.matching.proofs.MaximumLaws.{square_blank}
use Rattle.matching.proofs.roots.with_rows.Goals as goal

pub whole_as_slice-search_all : goal.whole_as_slice-search_all
whole_as_slice-search_all g c = omega (arith, c.requires.2)

pub search_all-requires : goal.search_all-requires
search_all-requires g c =
    let blank : ℕ = 0 in
    (c.requires.0, square_blank _ g.row.ROWS _ c.requires.1 (length-replicate 512 blank))
