-- The turns of a scan, and how a part of a search comes out.
use Prim.Native.Nat.{ℕ, suc, ◌+◌, ◌-◌, ◌<◌, ◌≤◌}
use mathlib.Core.Path.{◌≡◌, refl, sym, ap, ◌∙◌, subst}
use mathlib.Core.Bool.{Bool, true, false, ◌&&◌, ◌||◌}
use mathlib.Core.List.{List}
use native.Mathlib.Nat.{add-zero}
use native.Mathlib.Numerals.{add-one}
use native.Mathlib.Omega.{arith}
use lib.Dec.{eqb}
use lib.ListN.{length, get_or}
use borrow.Author.Tests.{eqb-true}
use Rattle.ring.specs.declared.requests.Request.{Request}
use Rattle.ring.specs.Requests.{requests_of}
use Rattle.ring.proofs.Cases.{impossible, and_true}
use mathlib.Core.Logic.{◌⊎◌, inl, inr}
use Rattle.sets.specs.Sets.{NoneFrom, Next}
use Rattle.neighbours.specs.Neighbours.{Neighbours}
use Rattle.blossom.specs.Internal.Labels.{Label, Free, Even, Odd, Frozen, even?}
use Rattle.blossom.specs.Internal.Rows.{Symmetric}
use Rattle.blossom.proofs.Scanning.{scan_begin, scan_end, scan_skip}
use Rattle.matching.specs.declared.labels.VertexLabel.{VertexLabel}
use Rattle.matching.specs.declared.labels.VertexLabel.TheVariants as kind
use Rattle.matching.specs.declared.matchings.Search.{Search}
use Rattle.matching.specs.Internal.Adjacency.{adjacent}
use Rattle.matching.specs.Internal.Model.{entry, label_of}
use Rattle.matching.specs.Internal.Search.{Standing, SearchAt, ScanAt, SearchOutcome}
use Rattle.matching.specs.Internal.Progress.{is_apart, apart_in, Reached, Stepped}
use Rattle.matching.proofs.ModelLaws.{entry_inside, label_at_inside, among_at}
use Rattle.matching.proofs.AdjacencyLaws.{adjacent_symmetric, adjacent_inside}
use Rattle.matching.proofs.AroundLaws.{relevant, relevant_out, relevant_not, relevant_found}
use Rattle.matching.proofs.OutcomeLaws.{outcome_enlarged}
use Rattle.matching.proofs.StandingLaws.{even_inside}
use Rattle.matching.proofs.CycleLaws.{label_inside}
use Rattle.matching.proofs.LabellingLaws.{even_only}

even_label : (l : Label) → even? l ≡ true → l ≡ Even
even_label Free e = cc
even_label Even e = refl
even_label Odd e = cc
even_label Frozen e = cc

-- the tests of a scan
relevant_neighbour : (R : List Request) (labels : List VertexLabel) (bases : List ℕ) (x y : ℕ) → relevant R labels bases x y ≡ true
    → adjacent R x y ≡ true
relevant_neighbour R labels bases x y e = (and_true (apart_in labels bases x y) (adjacent R x y) e).1

apart_label : (l : VertexLabel) (same : Bool) → is_apart l same ≡ true → (l ≡ kind.Free) ⊎ (l ≡ kind.Even)
apart_label kind.Free same e = inl refl
apart_label kind.Even same e = inr refl
apart_label kind.Odd same e = impossible (sym e)
apart_label kind.FrozenEven same e = impossible (sym e)
apart_label kind.FrozenOdd same e = impossible (sym e)

relevant_label : (R : List Request) (labels : List VertexLabel) (bases : List ℕ) (x y : ℕ) → relevant R labels bases x y ≡ true
    → (get_or labels y kind.Free ≡ kind.Free) ⊎ (get_or labels y kind.Free ≡ kind.Even)
unfolding apart_in
relevant_label R labels bases x y e =
    apart_label (get_or labels y kind.Free) (eqb (get_or bases x 0) (get_or bases y 0))
    (and_true (apart_in labels bases x y) (adjacent R x y) e).0

free_irrelevant : (l : VertexLabel) (same adj : Bool) → label_of l ≡ Free → (is_apart l same && adj) ≡ false → adj ≡ false
free_irrelevant kind.Free same adj f e = e
free_irrelevant kind.Even same adj f e = cc
free_irrelevant kind.Odd same adj f e = cc
free_irrelevant kind.FrozenEven same adj f e = cc
free_irrelevant kind.FrozenOdd same adj f e = cc

even_irrelevant : (l : VertexLabel) (same adj : Bool) → label_of l ≡ Even → (is_apart l same && adj) ≡ false → adj ≡ true → same ≡ true
even_irrelevant kind.Free same adj f e a = cc
even_irrelevant kind.Even true adj f e a = refl
even_irrelevant kind.Even false adj f e a = cc
even_irrelevant kind.Odd same adj f e a = cc
even_irrelevant kind.FrozenEven same adj f e a = cc
even_irrelevant kind.FrozenOdd same adj f e a = cc

module _ (R : List Request) (symmetric : Symmetric (adjacent R)) (r : ℕ) (s : Search) (rows : List (List ℕ)) (h : ℕ) where
  abbrev m : ℕ
  m = length R

  -- the vertices of the queue are even
  module _ (S : SearchAt R r s rows h) where
    pub queued_even : (i : ℕ) → i < s.clock → S.standing.state.label (get_or s.queue i 0) ≡ Even
    queued_even i l = even_label (S.standing.state.label (get_or s.queue i 0))
        (S.standing.stands.queued (get_or s.queue i 0) ∙ among_at s.queue s.clock i l)

    pub scan_starts : h < s.clock → (x : ℕ) → x ≡ get_or s.queue h 0 → ScanAt R r s rows h x 0
    scan_starts l x e = record {
      standing = S.standing;
      scanned = S.scanned;
      scanned_is = S.scanned_is;
      next = l;
      current = e;
      scanning =
          scan_begin (adjacent R) (entry m s.mates) S.standing.frozen_label S.standing.frozen_base r S.standing.state
          S.scanned
          S.searching x (rw e (queued_even h l));
    }

  module _ (x n : ℕ) (at : ScanAt R r s rows h x n) where
    pub queue_inside : (i : ℕ) → i < s.clock → get_or s.queue i 0 < length R
    queue_inside i l =
        let T = at.standing in
        even_inside R s rows T.state T.stands (get_or s.queue i 0) (even_label (T.state.label (get_or s.queue i 0))
        (T.stands.queued (get_or s.queue i 0) ∙ among_at s.queue s.clock i l))

    -- nothing to do at n
    pub scan_passes : n < length R → relevant R s.labels s.bases x n ≡ false → ScanAt R r s rows h x (n + 1)
    unfolding apart_in
    scan_passes l e =
        let same = eqb (get_or s.bases x 0) (get_or s.bases n 0) in let T = at.standing in let ex = at.scanning.partly.x_even in
        let hx = even_inside R s rows T.state T.stands x ex in
        let ln = label_inside R r s rows T.state T.stands at.scanning.search.invariant n l in
        let bx = T.stands.base_is x ∙ entry_inside m s.bases x hx in
        let bn = T.stands.base_is n ∙ entry_inside m s.bases n l in
        record {
          standing = T;
          scanned = at.scanned;
          scanned_is = at.scanned_is;
          next = at.next;
          current = at.current;
          scanning =
              rw add-one
              (scan_skip (adjacent R) symmetric (entry m s.mates) T.frozen_label T.frozen_base r T.state at.scanned x n
              at.scanning (λ f. free_irrelevant (get_or s.labels n kind.Free) same (adjacent R x n) (cc) e)
              (λ f a.
              let g = even_irrelevant (get_or s.labels n kind.Free) same (adjacent R x n) (cc) e a in
              cc (eqb-true (get_or s.bases x 0) (get_or s.bases n 0) g)));
        }

    -- all vertices are looked at
    pub scan_finishes : n ≡ length R → SearchAt R r s rows (h + 1)
    scan_finishes e = record {
      standing = at.standing;
      scanned = λ z. eqb z x || at.scanned z;
      scanned_is = λ z. rw add-one (cc (at.scanned_is z, at.current));
      within = omega (arith, at.next);
      searching =
          scan_end (adjacent R) symmetric (entry m s.mates) at.standing.frozen_label at.standing.frozen_base r
          at.standing.state at.scanned
          x n at.scanning (λ a b f. omega (arith, adjacent_inside R a b f));
    }

moved : (n k : ℕ) → n + 1 + k ≡ n + suc k
moved n k = omega arith

step_inside : (n k m : ℕ) → n + suc k ≤ m → (n < m) × (n + 1 + k ≤ m)
step_inside n k m l = (omega arith, omega arith)

step_first : (n k : ℕ) → (n ≤ n) × (n < n + suc k)
step_first n k = (omega arith, omega arith)

step_later : (n k z : ℕ) → n + 1 ≤ z → z < n + 1 + k → (n ≤ z) × (z < n + suc k)
step_later n k z a b = (omega arith, omega arith)

-- nothing to do at the next k vertices
pub scan_passes_to : (R : List Request) → Symmetric (adjacent R) → (r : ℕ) (s : Search) (rows : List (List ℕ)) (h x k n : ℕ)
    → ScanAt R r s rows h x n
    → n + k ≤ length R → ((z : ℕ) → n ≤ z → z < n + k → relevant R s.labels s.bases x z ≡ false) → ScanAt R r s rows h x (n + k)
scan_passes_to R symmetric r s rows h x Prim.Native.Nat.zero n here l e = subst (λ (w : ℕ). ScanAt R r s rows h x w) (sym (add-zero n)) here
scan_passes_to R symmetric r s rows h x (suc k) n here l e =
    let i = step_inside n k (length R) l in
    let f = step_first n k in
    let next = scan_passes R symmetric r s rows h x n here i.0 (e n f.0 f.1) in
    subst (λ (w : ℕ). ScanAt R r s rows h x w) (moved n k)
    (scan_passes_to R symmetric r s rows h x k (n + 1) next i.1 (λ z a b. let j = step_later n k z a b in e z j.0 j.1))

-- or up to a later one
scan_passes_up : (R : List Request) → Symmetric (adjacent R) → (r : ℕ) (s : Search) (rows : List (List ℕ)) (h x n next : ℕ)
    → ScanAt R r s rows h x n → n ≤ next → next ≤ length R → ((z : ℕ) → n ≤ z → z < next → relevant R s.labels s.bases x z ≡ false)
    → ScanAt R r s rows h x next
scan_passes_up R symmetric r s rows h x n next here l inside none =
    subst (λ (w : ℕ). ScanAt R r s rows h x w) (together n next l) (scan_passes_to R symmetric r s rows h x (next - n) n here
    (rw (together n next l) inside)
    (λ z a b. none z a (rw (together n next l) at b)))
  where
    together : (n next : ℕ) → n ≤ next → n + (next - n) ≡ next
    together n next l = omega arith

-- an even vertex has the label of one
pub even_labelled : (R : List Request) (r : ℕ) (s : Search) (rows : List (List ℕ)) (T : Standing R r s rows) (x : ℕ)
    → T.state.label x ≡ Even → get_or s.labels x kind.Free ≡ kind.Even
even_labelled R r s rows T x e =
    let l = even_inside R s rows T.state T.stands x e in
    even_only (get_or s.labels x kind.Free) (ap even? (sym (T.stands.label_is x ∙ label_at_inside (length R) s.labels x l) ∙ e))

scan_labelled : (R : List Request) (r : ℕ) (s : Search) (rows : List (List ℕ)) (h x n : ℕ) → ScanAt R r s rows h x n
    → get_or s.labels x kind.Free ≡ kind.Even
scan_labelled R r s rows h x n here = even_labelled R r s rows here.standing x here.scanning.partly.x_even

-- x is being scanned, its neighbours are told, and those below n have been looked at
pub record ScannedTo (R : List Request) (r : ℕ) (s : Search) (rows : List (List ℕ)) (h x n : ℕ) (around : List ℕ) : Type 0 where
  pub at : ScanAt R r s rows h x n
  pub neighbours : Neighbours R x around
  pub most : n ≤ length R

module _ (ends : List ℕ) (r : ℕ) (s : Search) (rows : List (List ℕ)) (h x n : ℕ) (around : List ℕ)
    (S : ScannedTo (requests_of ends) r s rows h x n around) where
  abbrev R : List Request
  R = requests_of ends

  x_inside : x < length R
  x_inside = even_inside R s rows S.at.standing.state S.at.standing.stands x S.at.scanning.partly.x_even

  passed_up : (next : ℕ) → n ≤ next → next ≤ length R → NoneFrom around n next → ScanAt R r s rows h x next
  passed_up next l inside none =
      scan_passes_up R (adjacent_symmetric ends) r s rows h x n next S.at l inside
      (λ z a b. relevant_out R s.labels s.bases x z around S.neighbours (omega (arith, b, inside)) (none z a b))

  -- the next one
  module _ (m y : ℕ) (number : m ≡ length R) (next : Next around n m y) where
    inside : y < length R
    inside = omega (arith, number, next.most)

    here : ScanAt R r s rows h x y
    here = passed_up y next.least (omega (arith, inside)) next.passed

    -- it has nothing to say
    pub scan_over : apart_in s.labels s.bases x y ≡ false → ScannedTo R r s rows h x (y + 1) around
    scan_over e = record {
      at = scan_passes R (adjacent_symmetric ends) r s rows h x y here inside (relevant_not R s.labels s.bases x y e);
      neighbours = S.neighbours;
      most = omega (arith, inside);
    }

    -- the edge to it is taken
    module _ (e : apart_in s.labels s.bases x y ≡ true) where
      relevant_edge : relevant R s.labels s.bases x y ≡ true
      relevant_edge =
          relevant_found R s.labels s.bases x y around S.neighbours (scan_labelled R r s rows h x n S.at) x_inside inside next.member e

      pub scan_reached : Reached R r s rows h x y m
          × ((get_or s.labels y kind.Free ≡ kind.Free) ⊎ (get_or s.labels y kind.Free ≡ kind.Even))
      scan_reached = (
        record { at = here; number = number; inside = next.most; neighbour = relevant_neighbour R s.labels s.bases x y relevant_edge },
        relevant_label R s.labels s.bases x y relevant_edge,
      )

      module _ (t : Search) (after : List (List ℕ)) (done : Bool) (stepped : Stepped s rows x y m t after done) where
        outcome : SearchOutcome R r t after done (ScanAt R r t after h x (y + 1))
        outcome = stepped ends r h scan_reached.0

        pub scan_enlarges : done ≡ true → SearchOutcome R r t after true (SearchAt R r t after (h + 1))
        scan_enlarges = outcome_enlarged outcome

        pub scan_goes_on : done ≡ false → ScannedTo R r t after h x (y + 1) around
        scan_goes_on d = record { at = outcome.going d; neighbours = S.neighbours; most = omega (arith, inside) }

  -- there is none
  pub scan_ends : (m : ℕ) → m ≡ length R → NoneFrom around n m → SearchOutcome R r s rows false (SearchAt R r s rows (h + 1))
  scan_ends m number none = record {
    square = S.at.standing.square;
    enlarged = λ d. impossible (sym d);
    going = λ d.
        let end = passed_up m (omega (arith, number, S.most)) (omega (arith, number)) none in
        scan_finishes R (adjacent_symmetric ends) r s rows h x m end number;
  }

-- a queued vertex is one of the requests, and has the label of an even one
module _ (R : List Request) (symmetric : Symmetric (adjacent R)) (r : ℕ) (s : Search) (rows : List (List ℕ)) (h : ℕ)
    (S : SearchAt R r s rows h) (i : ℕ) (l : i < s.clock) where
  pub queued_inside : get_or s.queue i 0 < length R
  queued_inside =
      even_inside R s rows S.standing.state S.standing.stands (get_or s.queue i 0) (queued_even R symmetric r s rows h S i l)

  pub queued_labelled : get_or s.labels (get_or s.queue i 0) kind.Free ≡ kind.Even
  queued_labelled = even_labelled R r s rows S.standing (get_or s.queue i 0) (queued_even R symmetric r s rows h S i l)
