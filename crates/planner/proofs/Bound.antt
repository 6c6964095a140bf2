-- What any feasible plan serves: no more than the chain count and the smaller of the match count and w together, and no more than all.
use Prim.Native.Nat.{ℕ, zero, suc, ◌+◌, ◌*◌, ◌-◌, ◌≤◌, ◌<◌, min}
use mathlib.Core.Path.{◌≡◌, refl, sym, ap, ◌∙◌}
use mathlib.Core.Bool.{Bool, true, false, not, cond, ◌&&◌, true≢false}
use mathlib.Core.List.{List, [], ◌∷◌}
use mathlib.Core.Logic.{◌≢◌}
use native.Mathlib.Omega.{arith}
use lib.Dec.{eqb}
use lib.ListN.{length}
use borrow.Author.Tests.{eqb-true, eqb-false, ne_eqb}
use Rattle.ring.specs.declared.requests.Request.{Request}
use Rattle.ring.specs.declared.ways.Way.{Way}
use Rattle.ring.specs.declared.ways.Way.TheVariants.{Plain, Seam}
use Rattle.ring.specs.declared.fates.Fate.{Fate}
use Rattle.ring.specs.declared.fates.Fate.TheVariants.{Blocked, Served}
use Rattle.ring.specs.Requests.{request, ValidRequests}
use Rattle.ring.specs.Ways.{uses}
use Rattle.ring.specs.Chords.{compatible}
use Rattle.ring.specs.Plans.{fate, served, Feasible, KeepsOff}
use Rattle.ring.specs.Matchings.{Pair, pair, IsMatching}
use Rattle.ring.proofs.PlanLaws.{served_in, served_le}
use Rattle.ring.proofs.Cases.{yes, no, is, same, different, test, eqb_refl, impossible}
use Rattle.ring.proofs.Counting.{length_le}
use Rattle.ring.proofs.WayLaws.{seam_uses_last, plain_avoids_last, none_share}
use Rattle.ring.proofs.RoutingLaws.{disjoint_compatible}
use Rattle.planner.specs.Plan.{ceiling_of}
use Rattle.planner.specs.Ceiling.{Ceiling, TwoThirds, CeilingLaw}
use Rattle.planner.proofs.Lists.{cons_if, collect, collect_length, collect_all, collect_once, NotIn, pairs_once}

-- The plan moved off the seam: a seam request goes plain in its colour, or is blocked if the test says that its colour has another request.

abbrev move_fate : Fate → Bool → Fate
move_fate Blocked b = Blocked
move_fate (Served Plain c) b = Served Plain c
move_fate (Served Seam c) true = Blocked
move_fate (Served Seam c) false = Served Plain c

abbrev moved : List Fate → (ℕ → Bool) → List Fate
moved [] b = []
moved (f ∷ F) b = move_fate f (b 0) ∷ moved F (λ i. b (suc i))

-- the seam requests that it loses
abbrev loses : Fate → Bool → Bool
loses Blocked b = false
loses (Served Plain c) b = false
loses (Served Seam c) b = b

moved_length : (F : List Fate) (b : ℕ → Bool) → length (moved F b) ≡ length F
moved_length [] b = refl
moved_length (f ∷ F) b = omega (arith, moved_length F (λ i. b (suc i)))

moved_at : (F : List Fate) (b : ℕ → Bool) (i : ℕ) → fate (moved F b) i ≡ move_fate (fate F i) (b i)
moved_at [] b zero = refl
moved_at [] b (suc i) = refl
moved_at (f ∷ F) b zero = refl
moved_at (f ∷ F) b (suc i) = moved_at F (λ i. b (suc i)) i

-- what a plan serves, it serves moved, or loses
moved_served : {A : Type 0} (F : List Fate) (b : ℕ → Bool) (a : ℕ → A)
    → served F ≡ served (moved F b) + length (collect (λ i. loses (fate F i) (b i)) a (length F))
unfolding served
moved_served [] b a = refl
moved_served {A} (f ∷ F) b a = one f (b 0) (moved_served F (λ i. b (suc i)) (λ i. a (suc i)))
  where
    rest : List A
    rest = collect (λ i. loses (fate F i) (b (suc i))) (λ i. a (suc i)) (length F)

    one : (f : Fate) (t : Bool) → served F ≡ served (moved F (λ i. b (suc i))) + length rest
        → served (f ∷ F) ≡ served (move_fate f t ∷ moved F (λ i. b (suc i))) + length (cons_if (loses f t) (a 0) rest)
    one Blocked t e = e
    one (Served Plain c) t e = omega arith
    one (Served Seam c) true e = omega arith
    one (Served Seam c) false e = omega arith

-- a request that is served after the move goes plain, and did so before, or went by the seam with no other in its colour
data Moved (f : Fate) (b : Bool) (u : Way) (c : ℕ) : Type 0 where
  plain : u ≡ Plain → f ≡ Served Plain c → Moved f b u c
  lone : u ≡ Plain → f ≡ Served Seam c → b ≡ false → Moved f b u c

move_cases : (f : Fate) (b : Bool) (u : Way) (c : ℕ) → move_fate f b ≡ Served u c → Moved f b u c
move_cases Blocked b u c e = impossible (cc)
move_cases (Served Plain d) b u c e = plain (cc) (cc)
move_cases (Served Seam d) true u c e = impossible (cc)
move_cases (Served Seam d) false u c e = lone (cc) (cc) refl

-- The other request of a colour.

abbrev colour_of : Fate → ℕ
colour_of Blocked = 0
colour_of (Served u c) = c

abbrev has_colour : Fate → ℕ → Bool
has_colour Blocked c = false
has_colour (Served u d) c = eqb c d

-- a number below m that meets the test, if there is one
pick : (ℕ → Bool) → ℕ → ℕ
pick p zero = 0
pick p (suc m) = cond (p m) m (pick p m)

pick_finds : (p : ℕ → Bool) (m j : ℕ) → j < m → p j ≡ true → p (pick p m) ≡ true
unfolding pick
pick_finds p zero j h e = absurd (omega arith)
pick_finds p (suc m) j h e = elim (is (p m)) [
  | yes t ↦ cc
  | no t ↦ elim (test j m) [
    | same s q ↦ cc
    | different d ↦ cc (pick_finds p m j (omega (arith, eqb-false j m d.left)) e)
  ]
]

-- j is another request in the colour of i
shares : List Fate → ℕ → ℕ → Bool
shares F i j = not (eqb j i) && has_colour (fate F j) (colour_of (fate F i))

-- such a request, if there is one
partner : List Fate → ℕ → ℕ
partner F i = pick (shares F i) (length F)

-- there is one
crowded : List Fate → ℕ → Bool
crowded F i = shares F i (partner F i)

shares_crowded : (F : List Fate) (i j c : ℕ) (u v : Way) → i ≢ j → fate F i ≡ Served u c → fate F j ≡ Served v c → crowded F i ≡ true
unfolding shares partner crowded
shares_crowded F i j c u v d e f = pick_finds (shares F i) (length F) j (served_in F j c v f) (cc (ne_eqb j i (λ q. d (sym q)), eqb_refl c))

-- a request that is lost: it goes by the seam, and its partner is another request in its colour
record Lost (F : List Fate) (i : ℕ) : Type 0 where
  seam : fate F i ≡ Served Seam (colour_of (fate F i))
  other : partner F i ≢ i
  way : Way
  coloured : fate F (partner F i) ≡ Served way (colour_of (fate F i))

lost : (F : List Fate) (i : ℕ) → loses (fate F i) (crowded F i) ≡ true → Lost F i
unfolding crowded shares
lost F i e =
    let own = by_seam (fate F i) (crowded F i) e in
    let both = other_held (eqb (partner F i) i) (fate F (partner F i)) (colour_of (fate F i)) own.1 in
    record { seam = own.0; other = eqb-false (partner F i) i both.0; way = both.1; coloured = both.2 }
  where
    by_seam : (f : Fate) (b : Bool) → loses f b ≡ true → (f ≡ Served Seam (colour_of f)) × (b ≡ true)
    by_seam Blocked b h = impossible (sym h)
    by_seam (Served Plain c) b h = impossible (sym h)
    by_seam (Served Seam c) b h = (refl, h)

    other_held : (b : Bool) (f : Fate) (c : ℕ) → (not b && has_colour f c) ≡ true → (b ≡ false) × (u : Way) × (f ≡ Served u c)
    other_held true f c h = impossible (sym h)
    other_held false Blocked c h = impossible (sym h)
    other_held false (Served u d) c h = (refl, u, ap (Served u) (sym (eqb-true c d h)))

module _ (n w : ℕ) (R : List Request) (valid : ValidRequests n R) (F : List Fate) (feasible : Feasible n w R F) where
  in_range : (i c : ℕ) (u : Way) → fate F i ≡ Served u c → i < length R
  in_range i c u e = omega (arith, served_in F i c u e, feasible.each)

  -- one request at most goes by the seam in a colour
  seam_once : (i j c : ℕ) → fate F i ≡ Served Seam c → fate F j ≡ Served Seam c → i ≢ j → ⊥
  seam_once i j c e f d =
      let node-i = valid.nodes i (in_range i c Seam e) in
      let node-j = valid.nodes j (in_range j c Seam f) in
      true≢false (sym (seam_uses_last n (request R j) node-j)
      ∙ feasible.apart i j c Seam Seam d e f (n - 1) (omega arith) (seam_uses_last n (request R i) node-i))

  move_at : (i c : ℕ) (u : Way) → fate (moved F (crowded F)) i ≡ Served u c → Moved (fate F i) (crowded F i) u c
  move_at i c u e = move_cases (fate F i) (crowded F i) u c (sym (moved_at F (crowded F) i) ∙ e)

  -- the moved plan is feasible and keeps off the seam
  moved_feasible : Feasible n w R (moved F (crowded F))
  moved_feasible = record { each = moved_length F (crowded F) ∙ feasible.each; colours = colours; apart = apart }
    where
      colours : (i c : ℕ) (u : Way) → fate (moved F (crowded F)) i ≡ Served u c → c < w
      colours i c u e = elim (move_at i c u e) [
        | plain p f ↦ feasible.colours i c Plain f
        | lone p f b ↦ feasible.colours i c Seam f
      ]

      before : (i c : ℕ) (u : Way) → Moved (fate F i) (crowded F i) u c → (v : Way) × (fate F i ≡ Served v c)
      before i c u (plain p f) = (Plain, f)
      before i c u (lone p f b) = (Seam, f)

      alone : (i j c : ℕ) (u : Way) (v : Way) → i ≢ j → fate F i ≡ Served u c → fate F j ≡ Served v c → crowded F i ≡ false → ⊥
      alone i j c u v d e f b = true≢false (sym (shares_crowded F i j c u v d e f) ∙ b)

      apart : (i j c : ℕ) (u v : Way) → i ≢ j → fate (moved F (crowded F)) i ≡ Served u c → fate (moved F (crowded F)) j ≡ Served v c
          → (link : ℕ) → link < n → uses u (request R i) link ≡ true → uses v (request R j) link ≡ false
      apart i j c u v d e f link h k =
          let there = before j c v (move_at j c v f) in
          elim (move_at i c u e) [
            | plain p g ↦ elim (move_at j c v f) [
              | plain q l ↦ rw q (feasible.apart i j c Plain Plain d g l link h (rw p at k))
              | lone q l b ↦ absurd (alone j i c Seam Plain (λ s. d (sym s)) l g b)
            ]
            | lone p g b ↦ absurd (alone i j c Seam there.0 d g there.1 b)
          ]

  moved_keeps_off : KeepsOff (n - 1) R (moved F (crowded F))
  moved_keeps_off i c u e = elim (move_at i c u e) [
    | plain p f ↦ rw p (plain_avoids_last n (request R i) (valid.nodes i (in_range i c Plain f)))
    | lone p f b ↦ rw p (plain_avoids_last n (request R i) (valid.nodes i (in_range i c Seam f)))
  ]

  -- the requests that are lost, and each with its partner, which goes plain
  abbrev loss : ℕ → Bool
  loss i = loses (fate F i) (crowded F i)

  abbrev couple : ℕ → Pair
  couple i = record { first = i; second = partner F i }

  abbrev couples : List Pair
  couples = collect loss couple (length F)

  abbrev colour : ℕ → ℕ
  colour i = colour_of (fate F i)

  partner_plain : (i : ℕ) → loss i ≡ true → fate F (partner F i) ≡ Served Plain (colour i)
  partner_plain i e = go (lost F i e).way (lost F i e).coloured
    where
      go : (v : Way) → fate F (partner F i) ≡ Served v (colour i) → fate F (partner F i) ≡ Served Plain (colour i)
      go Plain f = f
      go Seam f = absurd (seam_once (partner F i) i (colour i) f (lost F i e).seam (lost F i e).other)

  couple_compatible : (i : ℕ) → loss i ≡ true → compatible (request R i) (request R (partner F i)) ≡ true
  couple_compatible i e =
      let seam = (lost F i e).seam in
      let plain = partner_plain i e in
      let here = in_range i (colour i) Seam seam in
      let there = in_range (partner F i) (colour i) Plain plain in
      disjoint_compatible n (request R i) (request R (partner F i)) (valid.ordered i here) (valid.nodes i here)
      (valid.ordered (partner F i) there) (valid.nodes (partner F i) there) Seam Plain
      (none_share n Seam (request R i) Plain (request R (partner F i)) (λ link h f g.
      true≢false (sym g ∙ feasible.apart i (partner F i) (colour i) Seam Plain (λ q. (lost F i e).other (sym q)) seam plain link h f)))

  -- a request that goes by the seam is no partner
  no_partner : (i j : ℕ) → loss i ≡ true → loss j ≡ true → i ≢ partner F j
  no_partner i j e f q = true≢false (cc ((lost F i e).seam, partner_plain j f))

  couples_matching : IsMatching R couples
  couples_matching = record {
    numbers = every (λ p. (p.first < length R) × (p.second < length R))
        (λ i l e. (in_range i (colour i) Seam (lost F i e).seam, in_range (partner F i) (colour i) Plain (partner_plain i e)));
    compatibles = every (λ p. compatible (request R p.first) (request R p.second) ≡ true) (λ i l e. couple_compatible i e);
    once = pairs_once loss couple (length F) (λ i l e. no_partner i i e e) disjoint;
  }
    where
      every : (Q : Pair → Type 0) → ((i : ℕ) → i < length F → loss i ≡ true → Q (couple i)) → (k : ℕ) → k < length couples
          → Q (pair couples k)
      every Q = collect_all loss couple (record { first = 0; second = 0 }) Q (length F)

      disjoint : (i j : ℕ) → i < j → j < length F → loss i ≡ true → loss j ≡ true → NotIn i (couple j) × NotIn (partner F i) (couple j)
      disjoint i j l k e f = (
        ((λ q. omega arith), no_partner i j e f),
        (
          (λ q. no_partner j i f e (sym q)),
          λ q.
              let c : colour i ≡ colour j = cc (partner_plain i e, partner_plain j f) in
              seam_once i j (colour i) (lost F i e).seam (cc (lost F j f).seam) (λ s. omega arith),
        ),
      )

  -- the pairs have different colours
  few_couples : length couples ≤ w
  few_couples = omega (
    arith,
    collect_length loss couple colour (length F),
    length_le (collect loss colour (length F)) w
        (collect_all loss colour 0 (λ c. c < w) (length F) (λ i l e. feasible.colours i (colour i) Seam (lost F i e).seam))
        (collect_once loss colour (length F)
        (λ i j l k e f c. seam_once i j (colour i) (lost F i e).seam (cc (lost F j f).seam) (λ s. omega arith))),
  )

pub ceiling : CeilingLaw
ceiling n w R valid chain size chained matched F feasible = omega (
  arith,
  moved_served F (crowded F) (couple n w R valid F feasible),
  chained (moved F (crowded F)) (moved_feasible n w R valid F feasible) (moved_keeps_off n w R valid F feasible),
  matched (couples n w R valid F feasible) (couples_matching n w R valid F feasible),
  few_couples n w R valid F feasible,
  served_le F,
  feasible.each,
)

-- two thirds follow for whatever serves the chain count at least, and twice the smaller of the match count and w
pub two_thirds_lem : (n w : ℕ) (R : List Request) (chain size ours : ℕ) → Ceiling n w R (ceiling_of (length R) w chain size) → chain ≤ ours
    → 2 * min size w ≤ ours → TwoThirds n w R ours
two_thirds_lem n w R chain size ours top chained paired F feasible = omega (arith, top F feasible)
