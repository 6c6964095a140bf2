-- What the rows hold, from the start on, and what it says of a way that was free.
use Prim.Native.Nat.{ℕ, ◌<◌}
use mathlib.Core.Path.{◌≡◌, sym, ap, ◌∙◌}
use mathlib.Core.Bool.{Bool, true, false, not, ◌&&◌, ◌||◌, or-true}
use mathlib.Core.List.{List, []}
use lib.Dec.{eqb}
use lib.ListN.{length, replicate, length-replicate, get_or-replicate}
use Rattle.ring.specs.declared.requests.Request.{Request}
use Rattle.ring.specs.declared.ways.Way.{Way}
use Rattle.ring.specs.Ways.{uses, some_link}
use Rattle.ring.specs.Internal.Sharing.{sharing}
use Rattle.ring.proofs.Cases.{eqb_refl, impossible}
use Rattle.ring.proofs.WayLaws.{some_found, found_some, same_test, share_found, sharing_means}
use Rattle.sets.specs.Sets.{has}
use Rattle.sets.proofs.SetLaws.{has_zeros}
use Rattle.links.specs.Links.{none, held, LinkSets, FitsSets, Held}

-- the rows hold just these links in each colour
pub record Holding (rows : List (List ℕ)) (taken : ℕ → ℕ → Bool) : Type 0 where
  pub exact : (c link : ℕ) → c < 128 → link < 256 → held rows c link ≡ taken c link

-- the same four words for each colour are rows
pub same_rows : (row : List ℕ) → length row ≡ 4 → LinkSets (replicate 128 row)
same_rows row e = record { many = length-replicate 128 row; wide = λ c l. ap length (get_or-replicate 128 c row [] l) ∙ e }

-- at the start they hold no link
pub holding_none : (taken : ℕ → ℕ → Bool) → ((c link : ℕ) → taken c link ≡ false) → Holding none taken
holding_none taken h = record {
  exact = λ c link l b. ap (λ (r : List ℕ). has r link) (get_or-replicate 128 c (replicate 4 0) [] l) ∙ has_zeros 4 link ∙ sym (h c link);
}

-- two properties of links that are the same below n
some_same : (n : ℕ) (p q : ℕ → Bool) → ((link : ℕ) → link < n → p link ≡ q link) → some_link n p ≡ some_link n q
some_same n p q h =
    same_test (some_link n p) (some_link n q)
    (λ e. let f = some_found n p e in found_some n q f.link f.below (sym (h f.link f.below) ∙ f.holds))
    (λ e. let f = some_found n q e in found_some n p f.link f.below (h f.link f.below ∙ f.holds))

module _ (rows after : List (List ℕ)) (way : Way) (r : Request) (colour : ℕ) (free : Bool) (s : Held rows after way r colour free) where
  -- then those of the way too, in its colour
  pub holding_more : (taken more : ℕ → ℕ → Bool) → Holding rows taken
      → ((c link : ℕ) → more c link ≡ (taken c link || (eqb colour c && uses way r link))) → Holding after more
  holding_more taken more t h = record { exact = λ c link l b. s.links c link l b ∙ cc (t.exact c link l b, h c link) }

  -- it was free exactly if none of its links was taken in its colour
  pub holding_free : (taken : ℕ → ℕ → Bool) → Holding rows taken → colour < 128
      → free ≡ not (some_link 256 (λ link. uses way r link && taken colour link))
  holding_free taken t h =
      s.unheld
      ∙ ap not (some_same 256 (λ link. uses way r link && held rows colour link) (λ link. uses way r link && taken colour link)
      (λ link b. ap (λ (x : Bool). uses way r link && x) (t.exact colour link h b)))

  -- what was held still is, and the links of the way are
  pub held_still : (c link : ℕ) → c < 128 → link < 256 → held rows c link ≡ true → held after c link ≡ true
  held_still c link h l e = s.links c link h l ∙ cc

  pub held_now : (link : ℕ) → colour < 128 → link < 256 → uses way r link ≡ true → held after colour link ≡ true
  held_now link h l e = s.links colour link h l ∙ cc (eqb_refl colour, or-true (held rows colour link))

  -- a way whose links were held in its colour shares none with one that was free
  pub free_apart : (v : Way) (q : Request) → FitsSets r colour → q.a < q.b → q.b < 256
      → ((link : ℕ) → link < 256 → uses v q link ≡ true → held rows colour link ≡ true)
      → free ≡ true → sharing v q way r ≡ true → ⊥
  free_apart v q p o b all f e =
      let shared = share_found 256 v q way r (sym (sharing_means 256 v q way r o b p.ordered p.nodes) ∙ e) in
      let some = found_some 256 (λ link. uses way r link && held rows colour link) shared.link shared.below
      (cc (shared.second, all shared.link shared.below shared.first)) in
      impossible (cc s.unheld)
