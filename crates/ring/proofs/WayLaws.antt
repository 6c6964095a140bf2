-- What the tests on links and ways say, link by link.
use Prim.Native.Nat.{ℕ, zero, suc, ◌+◌, ◌-◌, ◌≤◌, ◌<◌, min, max}
use mathlib.Core.Path.{◌≡◌, refl, sym, ◌∙◌}
use mathlib.Core.Bool.{Bool, true, false, not, cond, ◌&&◌, false≢true}
use native.Mathlib.Omega.{arith}
use lib.Dec.{leb}
use borrow.Author.Tests.{leb-true, ltb-true, le-leb, lt-leb, lt-ltb}
use Rattle.ring.specs.declared.requests.Request.{Request}
use Rattle.ring.specs.declared.ways.Way.{Way}
use Rattle.ring.specs.declared.ways.Way.TheVariants.{Plain, Seam}
use Rattle.ring.specs.Ways.{uses, some_link, share_link, link_count}
use Rattle.ring.specs.Internal.Sharing.{sharing, SharingMeans}
use Rattle.ring.proofs.Cases.{yes, no, is, less, not_less, compare, impossible}

-- two tests are one if each makes the other true
pub same_test : (p q : Bool) → (p ≡ true → q ≡ true) → (q ≡ true → p ≡ true) → p ≡ q
same_test true q h k = sym (h refl)
same_test false true h k = k refl
same_test false false h k = refl

-- two tests that do not hold together
pub not_both : (p q : Bool) → (p ≡ true → q ≡ true → ⊥) → (p && q) ≡ false
not_both true true h = absurd (h refl refl)
not_both true false h = refl
not_both false q h = refl

-- a link below n that has the property
pub record Found (n : ℕ) (p : ℕ → Bool) : Type 0 where
  pub link : ℕ
  pub below : link < n
  pub holds : p link ≡ true

-- the test over all links says whether there is one
pub some_found : (n : ℕ) (p : ℕ → Bool) → some_link n p ≡ true → Found n p
unfolding some_link
some_found zero p e = absurd (false≢true e)
some_found (suc n) p e = elim (is (p n)) [
  | yes h ↦ record { link = n; below = omega arith; holds = h }
  | no h ↦
      let rest = some_found n p (cc) in
      record { link = rest.link; below = omega arith; holds = rest.holds }
]

pub found_some : (n : ℕ) (p : ℕ → Bool) (link : ℕ) → link < n → p link ≡ true → some_link n p ≡ true
unfolding some_link
found_some zero p link h e = absurd (omega arith)
found_some (suc n) p link h e = elim (is (p n)) [
  | yes f ↦ cc
  | no f ↦ elim (compare link n) [
    | less l t ↦ cc (found_some n p link l e)
    | not_less l t ↦
        let here : link ≡ n = omega arith in
        cc
  ]
]

pub some_none : (n : ℕ) (p : ℕ → Bool) → some_link n p ≡ false → (link : ℕ) → link < n → p link ≡ false
some_none n p e link h = elim (is (p link)) [
  | yes f ↦ impossible (sym (found_some n p link h f) ∙ e)
  | no f ↦ f
]

pub none_some : (n : ℕ) (p : ℕ → Bool) → ((link : ℕ) → link < n → p link ≡ false) → some_link n p ≡ false
unfolding some_link
none_some zero p h = refl
none_some (suc n) p h = cc (h n (omega arith), none_some n p (λ link l. h link (omega arith)))

-- the links of the two ways, by the ends of the request
pub plain_uses : (r : Request) (link : ℕ) → r.a ≤ link → link < r.b → uses Plain r link ≡ true
unfolding uses
plain_uses r link h k = cc (le-leb r.a link h, lt-ltb link r.b k)

pub plain_used : (r : Request) (link : ℕ) → uses Plain r link ≡ true → (r.a ≤ link) × (link < r.b)
unfolding uses
plain_used r link e = elim (is (leb r.a link)) [
  | yes f ↦ (leb-true r.a link f, ltb-true link r.b (cc))
  | no f ↦ impossible (cc)
]

pub plain_avoids_before : (r : Request) (link : ℕ) → link < r.a → uses Plain r link ≡ false
unfolding uses
plain_avoids_before r link h = cc (lt-leb r.a link h)

pub plain_avoids_behind : (r : Request) (link : ℕ) → r.b ≤ link → uses Plain r link ≡ false
plain_avoids_behind r link h = elim (is (uses Plain r link)) [
  | yes e ↦ absurd (omega (arith, plain_used r link e))
  | no e ↦ e
]

-- "all the other links"
pub seam_other : (r : Request) (link : ℕ) → uses Seam r link ≡ not (uses Plain r link)
unfolding uses
seam_other r link = refl

-- the last link is the seam: every seam way uses it, and no plain way
pub seam_uses_last : (n : ℕ) (r : Request) → r.b < n → uses Seam r (n - 1) ≡ true
seam_uses_last n r h = cc (seam_other r (n - 1), plain_avoids_behind r (n - 1) (omega arith))

pub plain_avoids_last : (n : ℕ) (r : Request) → r.b < n → uses Plain r (n - 1) ≡ false
plain_avoids_last n r h = plain_avoids_behind r (n - 1) (omega arith)

-- a link below n that both ways use
pub record Shared (n : ℕ) (u : Way) (r : Request) (v : Way) (s : Request) : Type 0 where
  pub link : ℕ
  pub below : link < n
  pub first : uses u r link ≡ true
  pub second : uses v s link ≡ true

module _ (n : ℕ) (u : Way) (r : Request) (v : Way) (s : Request) where
  -- two ways share a link exactly if there is one that both use
  pub share_found : share_link n u r v s ≡ true → Shared n u r v s
  unfolding share_link
  share_found e =
      let found = some_found n (λ link. uses u r link && uses v s link) e in
      elim (is (uses u r found.link)) [
        | yes f ↦ record { link = found.link; below = found.below; first = f; second = cc found.holds }
        | no f ↦ impossible (cc found.holds)
      ]

  pub found_share : (link : ℕ) → link < n → uses u r link ≡ true → uses v s link ≡ true → share_link n u r v s ≡ true
  unfolding share_link
  found_share link h e f = found_some n (λ l. uses u r l && uses v s l) link h (cc)

  pub share_none : share_link n u r v s ≡ false → (link : ℕ) → link < n → uses u r link ≡ true → uses v s link ≡ false
  share_none e link h f = elim (is (uses v s link)) [
    | yes g ↦ impossible (sym (found_share link h f g) ∙ e)
    | no g ↦ g
  ]

  pub none_share : ((link : ℕ) → link < n → uses u r link ≡ true → uses v s link ≡ true → ⊥) → share_link n u r v s ≡ false
  unfolding share_link
  none_share h = none_some n (λ l. uses u r l && uses v s l) (λ l k. not_both (uses u r l) (uses v s l) (h l k))

-- whichever way comes first
pub share_sym : (n : ℕ) (u : Way) (r : Request) (v : Way) (s : Request) → share_link n u r v s ≡ share_link n v s u r
share_sym n u r v s = same_test (share_link n u r v s) (share_link n v s u r) (turned u r v s) (turned v s u r)
  where
    turned : (u : Way) (r : Request) (v : Way) (s : Request) → share_link n u r v s ≡ true → share_link n v s u r ≡ true
    turned u r v s e =
        let found = share_found n u r v s e in
        found_share n v s u r found.link found.below found.second found.first

-- two seam ways share the seam
pub seams_share : (n : ℕ) (r s : Request) → r.b < n → s.b < n → share_link n Seam r Seam s ≡ true
seams_share n r s h k = found_share n Seam r Seam s (n - 1) (omega arith) (seam_uses_last n r h) (seam_uses_last n s k)

-- by comparing ends: two plain ways overlap, or not
plains : (n : ℕ) (r s : Request) → r.b < n → s.b < n → sharing Plain r Plain s ≡ share_link n Plain r Plain s
unfolding sharing
plains n r s h k = elim (compare (max r.a s.a) (min r.b s.b)) [
  | less l e ↦
      let from = max r.a s.a in
      e
      ∙ sym (found_share n Plain r Plain s from (omega arith)
      (plain_uses r from (omega arith) (omega arith))
      (plain_uses s from (omega arith) (omega arith)))
  | not_less l e ↦ e ∙ sym (none_share n Plain r Plain s (λ link b f g. omega (arith, plain_used r link f, plain_used s link g)))
]

-- a plain way lies within the ends of the other request, or uses a link of its seam way
plain_seam : (n : ℕ) (r s : Request) → r.a < r.b → r.b < n → sharing Plain r Seam s ≡ share_link n Plain r Seam s
unfolding sharing
plain_seam n r s o h = elim (compare r.a s.a) [
  | less l e ↦ cc (
    lt-leb s.a r.a l,
    found_share n Plain r Seam s r.a (omega arith) (plain_uses r r.a (omega arith) o)
        (cc (seam_other s r.a, plain_avoids_before s r.a l)),
  )
  | not_less l e ↦ elim (compare s.b r.b) [
    | less k f ↦
        let last = r.b - 1 in
        cc (
          lt-leb r.b s.b k,
          le-leb s.a r.a l,
          found_share n Plain r Seam s last (omega arith)
              (plain_uses r last (omega arith) (omega arith))
              (cc (seam_other s last, plain_avoids_behind s last (omega arith))),
        )
    | not_less k f ↦ cc (
      le-leb s.a r.a l,
      le-leb r.b s.b k,
      none_share n Plain r Seam s (λ link b g q.
          let on = plain_used r link g in
          false≢true (cc (seam_other s link, plain_uses s link (omega arith) (omega arith)))),
    )
  ]
]

-- the four comparisons say whether two ways share a link
pub sharing_means : SharingMeans
unfolding sharing
sharing_means n Plain r Plain s o h p k = plains n r s h k
sharing_means n Plain r Seam s o h p k = plain_seam n r s o h
sharing_means n Seam r Plain s o h p k = plain_seam n s r p k ∙ share_sym n Plain s Seam r
sharing_means n Seam r Seam s o h p k = sym (seams_share n r s h k)

-- how many links below n a plain way uses, whether its ends are below n or not
plain_count_below : (n : ℕ) (r : Request) → r.a ≤ r.b → link_count n Plain r ≡ min r.b n - min r.a n
unfolding link_count
plain_count_below zero r h = omega arith
plain_count_below (suc n) r h =
    let before = plain_count_below n r h in
    elim (compare n r.a) [
      | less l e ↦
          let none : ◌≡◌ {A = ℕ} (cond (uses Plain r n) 1 0) 0 = cc (plain_avoids_before r n l) in
          omega arith
      | not_less l e ↦ elim (compare n r.b) [
        | less k f ↦
            let one : ◌≡◌ {A = ℕ} (cond (uses Plain r n) 1 0) 1 = cc (plain_uses r n l k) in
            omega arith
        | not_less k f ↦
            let none : ◌≡◌ {A = ℕ} (cond (uses Plain r n) 1 0) 0 = cc (plain_avoids_behind r n k) in
            omega arith
      ]
    ]

-- every link is one of the plain way or of the seam way
both_counts : (n : ℕ) (r : Request) → link_count n Plain r + link_count n Seam r ≡ n
unfolding link_count
both_counts zero r = refl
both_counts (suc n) r =
    let one : cond (uses Plain r n) 1 0 + cond (uses Seam r n) 1 0 ≡ 1 = elim (is (uses Plain r n)) [
      | yes e ↦ cc (seam_other r n)
      | no e ↦ cc (seam_other r n)
    ] in
    omega (arith, both_counts n r)

-- the numbers of links of the two ways, by the ends of the request
pub plain_link_count : (n : ℕ) (r : Request) → r.a ≤ r.b → r.b ≤ n → link_count n Plain r ≡ r.b - r.a
plain_link_count n r h k = omega (arith, plain_count_below n r h)

pub seam_link_count : (n : ℕ) (r : Request) → r.a ≤ r.b → r.b ≤ n → link_count n Seam r ≡ n - (r.b - r.a)
seam_link_count n r h k = omega (arith, plain_link_count n r h k, both_counts n r)
