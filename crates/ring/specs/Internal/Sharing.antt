-- Whether two ways share a link, by comparing ends: what the code computes.
use Rattle.std.specs.Prelude.{ℕ, ◌<◌, min, max, ◌≡◌, Bool, true, not, ◌&&◌, leb, ltb}
use Rattle.ring.specs.declared.requests.Request.{Request}
use Rattle.ring.specs.declared.ways.Way.{Way}
use Rattle.ring.specs.declared.ways.Way.TheVariants.{Plain, Seam}
use Rattle.ring.specs.Ways.{share_link}

-- four comparisons at most
unfoldable pub sharing : Way → Request → Way → Request → Bool
sharing Plain r Plain s = ltb (max r.a s.a) (min r.b s.b)
sharing Plain r Seam s = not (leb s.a r.a && leb r.b s.b)
sharing Seam r Plain s = not (leb r.a s.a && leb s.b r.b)
sharing Seam r Seam s = true

-- the law that this is `share_link`, for requests on n nodes
abbrev pub SharingMeans : Type 0
SharingMeans = (n : ℕ) (u : Way) (r : Request) (v : Way) (s : Request) → r.a < r.b → r.b < n → s.a < s.b → s.b < n
    → sharing u r v s ≡ share_link n u r v s
