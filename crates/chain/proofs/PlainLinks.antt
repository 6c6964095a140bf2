-- Plain ways on the ring are intervals on a line. Assumes nothing.
use Prim.Native.Nat.{ℕ, ◌≤◌, ◌<◌, max}
use mathlib.Core.Path.{◌≡◌, sym, ◌∙◌}
use mathlib.Core.Logic.{◌⊎◌, inl, inr, ⊎_elim}
use mathlib.Core.Bool.{true, false}
use native.Mathlib.Omega.{arith}
use Rattle.std.proofs.lemmas.Bool.{cases_lt}
use Rattle.ring.specs.declared.requests.Request.{Request}
use Rattle.ring.specs.declared.ways.Way.TheVariants.{Plain}
use Rattle.ring.specs.Ways.{uses}
use Rattle.ring.proofs.Cases.{impossible}
use Rattle.ring.proofs.WayLaws.{plain_uses, plain_used, plain_avoids_before, plain_avoids_behind}

-- two plain ways share no link if one ends where the other starts, or before
pub plain_apart : (r s : Request) → (r.b ≤ s.a) ⊎ (s.b ≤ r.a) → (link : ℕ) → uses Plain r link ≡ true → uses Plain s link ≡ false
plain_apart r s h link on =
    let used = plain_used r link on in
    ⊎_elim (λ x. plain_avoids_before s link (omega arith)) (λ x. plain_avoids_behind s link (omega arith)) h

-- and only so: else the larger of the starts is a common link
pub apart_plain : (r s : Request) → r.a < r.b → s.a < s.b
    → (uses Plain r (max r.a s.a) ≡ true → uses Plain s (max r.a s.a) ≡ false) → (r.b ≤ s.a) ⊎ (s.b ≤ r.a)
apart_plain r s hr hs h = go (cases_lt s.a r.b) (cases_lt r.a s.b)
  where
    link : ℕ
    link = max r.a s.a

    go : (s.a < r.b) ⊎ (r.b ≤ s.a) → (r.a < s.b) ⊎ (s.b ≤ r.a) → (r.b ≤ s.a) ⊎ (s.b ≤ r.a)
    go (inr x) y = inl x
    go (inl x) (inr y) = inr y
    go (inl x) (inl y) = impossible (sym (plain_uses s link (omega arith) (omega arith))
        ∙ h (plain_uses r link (omega arith) (omega arith)))
