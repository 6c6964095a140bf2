-- The links that the plan holds, request by request: where each request finds its own free, no two are in conflict.
use Prim.Native.Nat.{ℕ, ◌+◌, ◌-◌, ◌≤◌, ◌<◌}
use mathlib.Core.Path.{◌≡◌, refl, sym, ap, subst, ◌∙◌}
use mathlib.Core.Bool.{true, false}
use mathlib.Core.List.{List}
use native.Mathlib.Omega.{arith}
use lib.ListN.{length, get_or}
use Rattle.ring.specs.declared.ways.Way.{Way}
use Rattle.ring.specs.declared.requests.Request.{Request}
use Rattle.ring.specs.declared.fates.Fate.{Fate}
use Rattle.ring.specs.declared.fates.Fate.TheVariants.{Blocked, Served}
use Rattle.std.specs.Prelude.{Ok}
use Rattle.ring.specs.Requests.{request, ValidRequests}
use Rattle.ring.specs.Ways.{uses}
use Rattle.ring.specs.Internal.Sharing.{sharing}
use Rattle.ring.specs.Fates.{fate_of}
use Rattle.ring.specs.Plans.{fate, fates_of}
use Rattle.ring.proofs.Cases.{yes, no, is, less, not_less, compare, impossible}
use Rattle.ring.proofs.FateLaws.{within_served, fate_at}
use Rattle.links.specs.Links.{none, held, Held}
use Rattle.links.proofs.RowLaws.{held_still, held_now, free_apart}
use Rattle.checker.specs.Check.{conflicting, pair_verdict, later_verdict, pair_verdicts}
use Rattle.checker.specs.Internal.Placing.{Placed}
use Rattle.checker.proofs.GroundLaws.{none_first}
use Rattle.checker.proofs.ConflictLaws.{Clash, conflict_clash}

-- ---- one request

pub placed_blocked : (rows : List (List ℕ)) (f : Fate) (r : Request) → f ≡ Blocked → Placed rows rows f r
unfolding Placed
placed_blocked rows f r e = subst (λ (g : Fate). Placed rows rows g r) (sym e) refl

pub placed_served : (rows after : List (List ℕ)) (f : Fate) (way : Way) (colour : ℕ) (r : Request) → f ≡ Served way colour
    → Held rows after way r colour true → Placed rows after f r
unfolding Placed
placed_served rows after f way colour r e h = subst (λ (g : Fate). Placed rows after g r) (sym e) h

-- ---- the requests below i hold their links, and no two of them are in conflict

pub record Disjoint (R : List Request) (F : List Fate) (rows : List (List ℕ)) (i : ℕ) : Type 0 where
  pub holding : (j c : ℕ) (u : Way) → j < i → c < 128 → fate F j ≡ Served u c → (link : ℕ) → link < 256 → uses u (request R j) link ≡ true
      → held rows c link ≡ true
  pub apart : (j k : ℕ) → j < k → k < i → conflicting sharing (fate F j) (request R j) (fate F k) (request R k) ≡ false

module _ (R : List Request) (F : List Fate) where
  pub disjoint_start : Disjoint R F none 0
  disjoint_start = record {
    holding = λ j c u h. absurd (omega arith);
    apart = λ j k h l. absurd (omega arith);
  }

  module _ (rows after : List (List ℕ)) (i : ℕ) (valid : ValidRequests 256 R) (h : i < length R) (s : Disjoint R F rows i) where
    -- an earlier request in conflict with request i
    module _ (apart : (j : ℕ) → j < i → Clash sharing (fate F j) (request R j) (fate F i) (request R i) → ⊥) where
      next : (j k : ℕ) → j < k → k < i + 1 → conflicting sharing (fate F j) (request R j) (fate F k) (request R k) ≡ false
      next j k l b = elim (compare k i) [
        | less p t ↦ s.apart j k l p
        | not_less p t ↦
            let here : k ≡ i = omega arith in
            rw here (elim (is (conflicting sharing (fate F j) (request R j) (fate F i) (request R i))) [
              | yes e ↦ absurd (apart j (omega arith) (conflict_clash sharing (fate F j) (request R j) (fate F i) (request R i) e))
              | no e ↦ e
            ])
      ]

    blocked : fate F i ≡ Blocked → Disjoint R F rows (i + 1)
    blocked e = record {
      holding = λ j c u l b f link. elim (compare j i) [
        | less p t ↦ s.holding j c u p b f link
        | not_less p t ↦
            let here : j ≡ i = omega arith in
            impossible (cc)
      ];
      apart = next (λ j l clash. impossible (cc clash.second));
    }

    served : (way : Way) (colour : ℕ) → colour < 128 → fate F i ≡ Served way colour → Held rows after way (request R i) colour true
        → Disjoint R F after (i + 1)
    served way colour small e placed = record {
      holding = λ j c u l b f link m g. elim (compare j i) [
        | less p t ↦ held_still rows after way (request R i) colour true placed c link b m (s.holding j c u p b f link m g)
        | not_less p t ↦
            let here : j ≡ i = omega arith in
            let same : c ≡ colour = cc in
            ap (λ (x : ℕ). held after x link) same ∙ held_now rows after way (request R i) colour true placed link small m (cc)
      ];
      apart = next (λ j l clash.
          free_apart rows after way (request R i) colour true placed clash.first_way (request R j)
          (record { ordered = valid.ordered i h; nodes = valid.nodes i h; colours = small })
          (valid.ordered j (omega arith))
          (valid.nodes j (omega arith))
          (s.holding j colour clash.first_way l small (cc (clash.first, clash.second)))
          refl
          (cc (clash.second, clash.shares)));
    }

    go : (f : Fate) → fate F i ≡ f → ((u : Way) (c : ℕ) → f ≡ Served u c → c < 128) → Placed rows after f (request R i)
        → Disjoint R F after (i + 1)
    unfolding Placed
    go Blocked e few placed = rw placed (blocked e)
    go (Served way colour) e few placed = served way colour (few way colour refl) e placed

  pub disjoint_end : (rows : List (List ℕ)) (i : ℕ) → length R ≤ i → Disjoint R F rows i → pair_verdicts sharing R F ≡ (Ok tt)
  unfolding pair_verdicts later_verdict pair_verdict
  disjoint_end rows i h s =
      none_first (later_verdict sharing R F) 0 (length R) (λ j l u.
      none_first (pair_verdict sharing R F j) (j + 1) (length R - (j + 1)) (λ k b m.
      cc (s.apart j k (omega arith) (omega arith))))

-- request i finds its links free, by its number
pub disjoint_turn : (R : List Request) (numbers : List ℕ) (rows after : List (List ℕ)) (i : ℕ) (r : Request) → ValidRequests 256 R
    → i < length R
    → r ≡ request R i → (get_or numbers i 0 ≤ 256) × Placed rows after (fate_of (get_or numbers i 0)) r → Disjoint R (fates_of numbers) rows i
    → Disjoint R (fates_of numbers) after (i + 1)
disjoint_turn R numbers rows after i r valid h e placed s =
    go R (fates_of numbers) rows after i valid h s (fate_of (get_or numbers i 0)) (fate_at numbers i)
    (λ u c g. within_served (get_or numbers i 0) 128 c u g placed.0)
    (subst (λ (q : Request). Placed rows after (fate_of (get_or numbers i 0)) q) e placed.1)
