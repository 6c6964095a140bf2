-- The chain part is the rule's picks over the requests' intervals, taken in order. Assumes nothing.
use Prim.Native.Nat.{ℕ, zero, suc, ◌+◌, ◌≤◌, ◌<◌}
use mathlib.Core.Path.{◌≡◌, refl, sym, ap, ◌∙◌}
use mathlib.Core.Logic.{◌⊎◌, inl, inr, ◌≢◌}
use mathlib.Core.List.{List, [], ◌∷◌, map}
use native.Mathlib.Decide.{ℕ_discrete}
use native.Mathlib.Omega.{arith}
use lib.ListN.{length, get_or, set, replicate, length-set}
use lib.Seq.{get_or-set_same, get_or-set_other, set_out}
use Rattle.std.proofs.lemmas.Bool.{cases_lt}
use Rattle.std.specs.Prelude.{Option, Some, None}
use Rattle.ring.specs.declared.requests.Request.{Request}
use Rattle.ring.specs.declared.ways.Way.{Way}
use Rattle.ring.specs.declared.ways.Way.TheVariants.{Plain}
use Rattle.ring.specs.declared.fates.Fate.{Fate}
use Rattle.ring.specs.declared.fates.Fate.TheVariants.{Blocked, Served}
use Rattle.ring.specs.Requests.{request, ValidRequests}
use Rattle.ring.specs.Plans.{fate}
use Rattle.ring.proofs.Counting.{bit}
use Rattle.ring.proofs.PlanLaws.{served?}
use Rattle.chain.specs.ChainPart.{plain_fate, pick_for, latest_after, chain_from}
use Rattle.chain.proofs.Intervals.{Interval, Sorted, got, count, picks}
use Rattle.chain.proofs.Orders.{Follows, follows_at, sum_of}

-- the interval of request i, and those of a list of numbers
abbrev pub interval_of : List Request → ℕ → Interval
interval_of R i = record { start = (request R i).a; finish = (request R i).b }

abbrev pub along : List Request → List ℕ → List Interval
along R l = map (interval_of R) l

-- the colour of a fate, and of a plan's fate for request i
abbrev pub colour_of : Fate → Option ℕ
colour_of Blocked = None
colour_of (Served way c) = Some c

unfoldable pub pick_by : List Fate → ℕ → Option ℕ
pick_by F i = colour_of (fate F i)

-- 1 if the plan serves request i
abbrev pub got_by : List Fate → ℕ → ℕ
got_by F i = bit (served? (fate F i))

-- ---- the intervals along the order are sorted

pub along_sorted : (n : ℕ) (R : List Request) → ValidRequests n R → (m e i : ℕ) (l : List ℕ) → m ≤ e → Follows R e i l
    → Sorted m (along R l)
unfolding Follows
along_sorted n R valid m e i [] h f = tt
along_sorted n R valid m e i (j ∷ l) h f =
    (omega (arith, f.1), valid.ordered j f.0, along_sorted n R valid (request R j).b (request R j).b (j + 1) l (omega arith) f.3)

-- ---- what a plan serves, counted along numbers

got_served : (f : Fate) → got (colour_of f) ≡ bit (served? f)
got_served Blocked = refl
got_served (Served way c) = refl

pub count_sum : (F : List Fate) (l : List ℕ) → count (map (pick_by F) l) ≡ sum_of (got_by F) l
unfolding sum_of pick_by
count_sum F [] = refl
count_sum F (i ∷ l) = omega (arith, got_served (fate F i), count_sum F l)

-- ---- the fates that the run gives

pub length_chain : (R : List Request) (l latest : List ℕ) (F : List Fate) → length (chain_from R l latest F) ≡ length F
length_chain R [] latest F = refl
length_chain R (i ∷ l) latest F = length_chain R l (latest_after R i latest) (set F i (plain_fate (pick_for R i latest)))
    ∙ length-set F i (plain_fate (pick_for R i latest))

-- a request that is not taken keeps its fate
kept : (R : List Request) (l latest : List ℕ) (F : List Fate) (j : ℕ) → ((k : ℕ) → k < length l → get_or l k 0 ≢ j)
    → fate (chain_from R l latest F) j ≡ fate F j
kept R [] latest F j h = refl
kept R (i ∷ l) latest F j h =
    kept R l (latest_after R i latest) (set F i (plain_fate (pick_for R i latest))) j (λ k b. h (suc k) (omega arith))
    ∙ get_or-set_other F i j (plain_fate (pick_for R i latest)) Blocked (λ q. h 0 (omega arith) (sym q))

colour_plain : (p : Option ℕ) → colour_of (plain_fate p) ≡ p
colour_plain (Some c) = refl
colour_plain None = refl

-- along the numbers taken, the run's colours are the rule's picks
pub chain_picks : (R : List Request) (e i : ℕ) (l latest : List ℕ) (F : List Fate) → length F ≡ length R → Follows R e i l
    → map (pick_by (chain_from R l latest F)) l ≡ picks (along R l) latest
unfolding pick_by Follows
chain_picks R e i [] latest F h f = refl
chain_picks R e i (j ∷ l) latest F h f =
    let p = pick_for R j latest in
    let F' = set F j (plain_fate p) in
    let same = kept R l (latest_after R j latest) F' j
    (λ k b q. omega (arith, (follows_at R (request R j).b (j + 1) l k f.3 b).2 (ap (λ (x : ℕ). (request R x).b) (sym q)))) in
    let first : colour_of (fate (chain_from R l (latest_after R j latest) F') j) ≡ p =
    ap colour_of (same ∙ get_or-set_same F j (plain_fate p) Blocked (omega (arith, f.0))) ∙ colour_plain p in
    let rest = chain_picks R (request R j).b (j + 1) l (latest_after R j latest) F' (length-set F j (plain_fate p) ∙ h) f.3 in
    cc

-- request i was taken at a place of the list, and its pick there is colour c
pub record TakenAt (R : List Request) (l latest : List ℕ) (i c : ℕ) : Type 0 where
  pub place : ℕ
  pub here : get_or l place 0 ≡ i
  pub picked : get_or (picks (along R l) latest) place None ≡ Some c

plain_served : (p : Option ℕ) (u : Way) (c : ℕ) → plain_fate p ≡ Served u c → (p ≡ Some c) × (u ≡ Plain)
plain_served (Some d) u c e = (cc, cc)
plain_served None u c e = let z : ◌≡◌ {A = ℕ} 0 1 = cc in absurd (omega arith)

-- a request is served as before, or because it was taken
pub chain_gives : (R : List Request) (l latest : List ℕ) (F : List Fate) (i c : ℕ) (u : Way) → fate (chain_from R l latest F) i ≡ Served u c
    → (fate F i ≡ Served u c) ⊎ ((u ≡ Plain) × TakenAt R l latest i c)
chain_gives R [] latest F i c u e = inl e
chain_gives R (j ∷ l) latest F i c u e = go (chain_gives R l (latest_after R j latest) F' i c u e) (ℕ_discrete i j) (cases_lt j (length F))
  where
    p : Option ℕ
    p = pick_for R j latest

    F' : List Fate
    F' = set F j (plain_fate p)

    go : (fate F' i ≡ Served u c) ⊎ ((u ≡ Plain) × TakenAt R l (latest_after R j latest) i c) → Dec (i ≡ j) → (j < length F) ⊎ (length F ≤ j)
        → (fate F i ≡ Served u c) ⊎ ((u ≡ Plain) × TakenAt R (j ∷ l) latest i c)
    go (inr t) d b = inr (t.0, record { place = suc t.1.place; here = t.1.here; picked = t.1.picked })
    go (inl q) (no n) b = inl (sym (get_or-set_other F j i (plain_fate p) Blocked n) ∙ q)
    go (inl q) (yes s) (inr out) = inl (ap (λ (G : List Fate). fate G i) (sym (set_out F j (plain_fate p) out)) ∙ q)
    go (inl q) (yes s) (inl in-F) =
        let here : plain_fate p ≡ Served u c = sym (get_or-set_same F j (plain_fate p) Blocked in-F) ∙ ap (fate F') (sym s) ∙ q in
        let t = plain_served p u c here in
        inr (t.1, record { place = 0; here = sym s; picked = t.0 })

pub all_blocked : (m i : ℕ) → fate (replicate m Blocked) i ≡ Blocked
all_blocked zero i = refl
all_blocked (suc m) zero = refl
all_blocked (suc m) (suc i) = all_blocked m i
