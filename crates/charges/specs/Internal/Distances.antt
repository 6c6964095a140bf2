-- The metres from node 0 up to each node, from which the metres of every way are found.
use Rattle.std.specs.Prelude.{ℕ, ◌+◌, ◌-◌, ◌≤◌, min, ◌≡◌, List, [], ◌∷◌, get_or, take}
use Rattle.ring.specs.declared.requests.Request.{Request}
use Rattle.ring.specs.declared.ways.Way.{Way}
use Rattle.ring.specs.declared.ways.Way.TheVariants.{Plain, Seam}
use Rattle.book.specs.declared.circuits.Circuit.{Circuit}
use Rattle.book.specs.Circuits.{ends_of}
use Rattle.charges.specs.declared.rates.Rates.{Rates}
use Rattle.charges.specs.Rates.{cents}
use Rattle.charges.specs.Promises.{total}

-- the entries up to i are distances of these lengths: entry k is the sum of those of the links below k, as far as there are links
abbrev pub AddedUpTo : ℕ → List ℕ → List ℕ → Type 0
AddedUpTo i lengths distances = (k : ℕ) → k ≤ i → get_or distances k 0 ≡ total (take k lengths)

-- all 257 entries are
abbrev pub AddedUp : List ℕ → List ℕ → Type 0
AddedUp lengths distances = AddedUpTo 256 lengths distances

-- the metres up to a node
abbrev pub up_to : List ℕ → ℕ → ℕ
up_to distances node = get_or distances (min node 256) 0

-- the metres along a way: the plain way lies between its ends, and the seam way has the rest of the ring
unfoldable pub metres_by : Way → Request → List ℕ → ℕ
metres_by Plain r distances = up_to distances r.b - up_to distances r.a
metres_by Seam r distances = up_to distances 256 - (up_to distances r.b - up_to distances r.a)

-- what a circuit pays
unfoldable pub charge_by : Rates → List ℕ → Circuit → ℕ
charge_by rates distances c = cents rates (metres_by c.way (ends_of c) distances)

-- what circuits pay together
abbrev pub charges_by : Rates → List ℕ → List Circuit → ℕ
charges_by rates distances [] = 0
charges_by rates distances (c ∷ cs) = charge_by rates distances c + charges_by rates distances cs
