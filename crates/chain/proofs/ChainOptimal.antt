-- The chain part is feasible, keeps off the seam, and serves the most of all such plans: the interval theorem, read on the ring. Assumes
-- nothing.
use Prim.Native.Nat.{ℕ, zero, suc, ◌-◌, ◌≤◌, ◌<◌, max}
use mathlib.Core.Path.{◌≡◌, refl, sym, ap, ◌∙◌}
use mathlib.Core.Logic.{◌⊎◌, inl, inr, ⊎_elim, ◌≢◌}
use mathlib.Core.List.{List, [], ◌∷◌, map}
use native.Mathlib.Nat.{not-suc-le-zero, le_of_suc-le-suc}
use native.Mathlib.Omega.{arith}
use lib.ListN.{length, get_or, replicate, length-replicate, length-map}
use Rattle.std.proofs.lemmas.Bool.{cases_lt}
use Rattle.std.specs.Prelude.{Some, None}
use Rattle.ring.specs.declared.requests.Request.{Request}
use Rattle.ring.specs.declared.ways.Way.{Way}
use Rattle.ring.specs.declared.ways.Way.TheVariants.{Plain, Seam}
use Rattle.ring.specs.declared.fates.Fate.{Fate}
use Rattle.ring.specs.declared.fates.Fate.TheVariants.{Blocked, Served}
use Rattle.ring.specs.Requests.{request, ValidRequests}
use Rattle.ring.specs.Plans.{fate, served, Feasible, KeepsOff}
use Rattle.ring.proofs.Cases.{impossible}
use Rattle.ring.proofs.Counting.{sum}
use Rattle.ring.proofs.PlanLaws.{served_count_lem, served_in}
use Rattle.ring.proofs.WayLaws.{seam_uses_last, plain_avoids_last}
use Rattle.chain.specs.Order.{order}
use Rattle.chain.specs.ChainPart.{chain_part}
use Rattle.chain.specs.Promises.{ChainIsOptimal}
use Rattle.chain.proofs.PlainLinks.{plain_apart, apart_plain}
use Rattle.chain.proofs.Intervals.{interval, Sorted, count, Colouring, picks, BestColouring}
use Rattle.chain.proofs.IntervalsFeasible.{coloured_in, best_fit_is_optimal}
use Rattle.chain.proofs.Orders.{Follows, follows_order, order_counts, order_is_taken}
use Rattle.chain.proofs.ChainPlans.{interval_of, along, colour_of, pick_by, got_by, along_sorted, count_sum, length_chain, chain_picks}
use Rattle.chain.proofs.ChainPlans.{TakenAt, chain_gives, all_blocked}

-- an entry of a mapped list
at_map : {A : Type 0} {B : Type 0} (f : A → B) (l : List A) (k : ℕ) (d : A) (d' : B) → k < length l → get_or (map f l) k d' ≡ f (get_or l k d)
at_map f [] k d d' h = absurd (not-suc-le-zero h)
at_map f (x ∷ l) zero d d' h = refl
at_map f (x ∷ l) (suc k) d d' h = at_map f l k d d' (le_of_suc-le-suc h)

way_of : Fate → Way
way_of Blocked = Plain
way_of (Served u c) = u

served_way : (f : Fate) (c : ℕ) → colour_of f ≡ Some c → f ≡ Served (way_of f) c
unfolding way_of
served_way Blocked c e = let z : ◌≡◌ {A = ℕ} 0 1 = cc in absurd (omega arith)
served_way (Served u d) c e = cc

module _ (n w : ℕ) (R : List Request) (valid : ValidRequests n R) where
  numbers : List ℕ
  numbers = order n R

  follows : Follows R 0 0 numbers
  unfolding numbers order
  follows = follows_order R n 0

  sorted : Sorted 0 (along R numbers)
  sorted = along_sorted n R valid 0 0 0 numbers (omega arith) follows

  best : BestColouring w (along R numbers)
  best = best_fit_is_optimal w (along R numbers) sorted

  -- different places have different numbers
  different : (j k : ℕ) → j ≢ k → j < length numbers → k < length numbers → get_or numbers j 0 ≢ get_or numbers k 0
  unfolding numbers
  different j k n hj hk e =
      let by = (order_is_taken _ R valid).sorted in
      ⊎_elim
      (λ l. omega (arith, (by j k l hk).tie (ap (λ (i : ℕ). (request R i).b) e)))
      (λ l. omega (arith, n, (by k j (omega (arith, n)) hj).tie (ap (λ (i : ℕ). (request R i).b) (sym e))))
      (cases_lt j k)

  finish_at : (k : ℕ) → k < length numbers → interval (along R numbers) k ≡ interval_of R (get_or numbers k 0)
  finish_at k h = at_map (interval_of R) numbers k 0 _ h

  in_list : (k : ℕ) → k < length numbers → get_or numbers k 0 < length R
  unfolding numbers
  in_list k h = (order_is_taken n R valid).numbers k h

  place_taken : (i c : ℕ) (t : TakenAt R numbers (replicate w 0) i c) → t.place < length numbers
  place_taken i c t = omega (
    arith,
    coloured_in (picks (along R numbers) (replicate w 0)) t.place c t.picked,
    best.colouring.each,
    length-map numbers (interval_of R),
  )

  -- what a plan serves is what it serves along the order
  served_along : (F : List Fate) → length F ≡ length R → served F ≡ count (map (pick_by F) numbers)
  unfolding numbers
  served_along F h = served_count_lem F ∙ ap (sum (got_by F)) h ∙ sym (order_counts (got_by F) n R valid) ∙ sym (count_sum F (order n R))

  -- ---- a plan that keeps off the seam is a colouring of the intervals

  goes_plain : (F : List Fate) → length F ≡ length R → KeepsOff (n - 1) R F → (i c : ℕ) (u : Way) → fate F i ≡ Served u c → u ≡ Plain
  goes_plain F each off i c Plain e = refl
  goes_plain F each off i c Seam e =
      impossible (sym (seam_uses_last n (request R i) (valid.nodes i (omega (arith, served_in F i c Seam e)))) ∙ off i c Seam e)

  place_in : (F : List Fate) (k c : ℕ) → get_or (map (pick_by F) numbers) k None ≡ Some c → k < length numbers
  place_in F k c e = omega (arith, coloured_in (map (pick_by F) numbers) k c e, length-map numbers (pick_by F))

  plain_at : (F : List Fate) → length F ≡ length R → KeepsOff (n - 1) R F → (k c : ℕ) → get_or (map (pick_by F) numbers) k None ≡ Some c
      → fate F (get_or numbers k 0) ≡ Served Plain c
  unfolding pick_by
  plain_at F each off k c e =
      let i = get_or numbers k 0 in
      let at : colour_of (fate F i) ≡ Some c = sym (at_map (pick_by F) numbers k 0 None (place_in F k c e)) ∙ e in
      let by = served_way (fate F i) c at in
      let plain = goes_plain F each off i c (way_of (fate F i)) by in
      by ∙ ap (λ (u : Way). Served u c) plain

  plan_colouring : (F : List Fate) → Feasible n w R F → KeepsOff (n - 1) R F → Colouring w (along R numbers) (map (pick_by F) numbers)
  plan_colouring F f off =
      record {
        each = length-map numbers (pick_by F) ∙ sym (length-map numbers (interval_of R));
        colours = λ k c e. f.colours (get_or numbers k 0) c Plain (plain_at F f.each off k c e);
        apart = λ j k c d ej ek.
            let hj = place_in F j c ej in
            let hk = place_in F k c ek in
            let r = request R (get_or numbers j 0) in
            let s = request R (get_or numbers k 0) in
            let ij : get_or numbers j 0 < length R = in_list j hj in
            let ik : get_or numbers k 0 < length R = in_list k hk in
            let link : max r.a s.a < n =
            omega (arith, valid.ordered _ ij, valid.ordered _ ik, valid.nodes _ ij, valid.nodes _ ik) in
            rw (finish_at j hj, finish_at k hk)
            (apart_plain r s (valid.ordered _ ij) (valid.ordered _ ik)
            (f.apart (get_or numbers j 0) (get_or numbers k 0) c Plain Plain (different j k d hj hk) (plain_at F f.each off j c ej)
            (plain_at F f.each off k c ek) (max r.a s.a) link));
      }

  -- ---- the chain part

  chain : List Fate
  chain = chain_part n w R

  chain_each : length chain ≡ length R
  unfolding chain chain_part
  chain_each = length_chain R (order n R) (replicate w 0) (replicate (length R) Blocked) ∙ length-replicate (length R) Blocked

  chain_along : map (pick_by chain) numbers ≡ picks (along R numbers) (replicate w 0)
  unfolding chain chain_part numbers
  chain_along = chain_picks R 0 0 (order n R) (replicate w 0) (replicate (length R) Blocked) (length-replicate (length R) Blocked) follows

  -- a served request goes plain and has a place in the order
  chain_taken : (i c : ℕ) (u : Way) → fate chain i ≡ Served u c → (u ≡ Plain) × TakenAt R numbers (replicate w 0) i c
  unfolding chain chain_part numbers
  chain_taken i c u e = go (chain_gives R (order n R) (replicate w 0) (replicate (length R) Blocked) i c u e)
    where
      go : (fate (replicate (length R) Blocked) i ≡ Served u c) ⊎ ((u ≡ Plain) × TakenAt R (order n R) (replicate w 0) i c)
          → (u ≡ Plain) × TakenAt R (order n R) (replicate w 0) i c
      go (inr t) = t
      go (inl q) = let z : ◌≡◌ {A = ℕ} 0 1 = cc (all_blocked (length R) i) in absurd (omega arith)

  chain_feasible_lem : Feasible n w R chain
  chain_feasible_lem =
      record {
        each = chain_each;
        colours = λ i c u e. let t = (chain_taken i c u e).1 in best.colouring.colours t.place c t.picked;
        apart = λ i j c u v d ei ej link b.
            let ti = chain_taken i c u ei in
            let tj = chain_taken j c v ej in
            let hi = place_taken i c ti.1 in
            let hj = place_taken j c tj.1 in
            let other : ti.1.place ≢ tj.1.place = λ q. d (sym ti.1.here ∙ ap (λ (k : ℕ). get_or numbers k 0) q ∙ tj.1.here) in
            let gap = best.colouring.apart ti.1.place tj.1.place c other ti.1.picked tj.1.picked in
            let gap' : ((request R i).b ≤ (request R j).a) ⊎ ((request R j).b ≤ (request R i).a) =
            rw (finish_at ti.1.place hi, finish_at tj.1.place hj, ti.1.here, tj.1.here) at gap in
            rw (ti.0, tj.0) (plain_apart (request R i) (request R j) gap' link);
      }

  chain_keeps_off_lem : KeepsOff (n - 1) R chain
  chain_keeps_off_lem i c u e =
      rw (chain_taken i c u e).0 (plain_avoids_last n (request R i) (valid.nodes i (omega (arith, served_in chain i c u e, chain_each))))

  chain_most_lem : (G : List Fate) → Feasible n w R G → KeepsOff (n - 1) R G → served G ≤ served chain
  chain_most_lem G f off = omega (
    arith,
    served_along G f.each,
    served_along chain chain_each,
    best.most (map (pick_by G) numbers) (plan_colouring G f off),
    ap count chain_along,
  )

-- the promise that the planner uses
pub chain_is_optimal : ChainIsOptimal
unfolding chain
chain_is_optimal n w R valid =
    record {
      feasible = chain_feasible_lem n w R valid;
      keeps_off = chain_keeps_off_lem n w R valid;
      most = chain_most_lem n w R valid;
    }
