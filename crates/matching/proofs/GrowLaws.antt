-- The arrays after a tree has grown stand for the grown state.
use Prim.Native.Nat.{ℕ, suc, ◌+◌, ◌<◌, ◌≤◌}
use mathlib.Core.Path.{◌≡◌, sym, ap, ◌∙◌}
use mathlib.Core.Bool.{Bool, true, false, cond, ◌||◌}
use mathlib.Core.List.{List, []}
use native.Mathlib.Numerals.{add-one}
use native.Mathlib.Omega.{arith}
use lib.Dec.{eqb}
use lib.ListN.{length, get_or, set, length-set}
use lib.Seq.{get_or-set_same, get_or-set_other}
use borrow.Author.Tests.{eqb-false}
use Rattle.ring.specs.declared.requests.Request.{Request}
use Rattle.ring.proofs.Cases.{Apart, same, different, test, impossible}
use Rattle.ring.proofs.Counting.{bit, sum_ext, count_insert}
use Rattle.blossom.specs.Internal.Labels.{Free, Even, even?}
use Rattle.blossom.specs.Internal.Rows.{Symmetric}
use Rattle.blossom.specs.Internal.State.{State}
use Rattle.blossom.specs.Internal.Searches.{Searching}
use Rattle.blossom.proofs.LabelLaws.{apart_by_even}
use Rattle.blossom.proofs.RowLaws.{grown_row_lem}
use Rattle.blossom.proofs.Grow.{grown}
use Rattle.blossom.proofs.Scanning.{search_grow, scan_grow}
use Rattle.matching.specs.declared.labels.VertexLabel.TheVariants as kind
use Rattle.matching.specs.declared.matchings.Search.{Search}
use Rattle.matching.specs.Internal.Adjacency.{adjacent}
use Rattle.matching.specs.Internal.Model.{entry, row_at, label_at, settled_at, among}
use Rattle.matching.specs.Internal.Search.{Stands, Standing, SearchAt, ScanAt}
use Rattle.matching.specs.Internal.Steps.{grown_row, grown_arrays}
use Rattle.matching.proofs.ModelLaws.{entry_inside, entry_set, label_at_set, settled_at_set, among_set, among_add}
use Rattle.matching.proofs.RowLaws.{square_set}
use Rattle.matching.proofs.StandingLaws.{even_inside, mate_inside, clock_room, unfrozen}

-- one of the rows anew
pub row_set : (m : ℕ) (rows : List (List ℕ)) (i : ℕ) (row : List ℕ) → i < length rows
    → (a z : ℕ) → row_at m (set rows i row) a z ≡ cond (eqb a i) (entry m row z) (row_at m rows a z)
row_set m rows i row h a z = elim (test a i) [
  | same e f ↦ cc (get_or-set_same rows i row [] h)
  | different e ↦ cc (get_or-set_other rows i a row [] (eqb-false a i e.left))
]

-- three stores, as the grown row has them
grown_entry : (m : ℕ) (l : List ℕ) (x y c z : ℕ) → m ≤ length l → x < m → y < m → c < m → Apart x y
    → entry m (set (set (set l x y) y x) c c) z ≡ grown_row_lem (entry m l) x y c z
grown_entry m l x y c z h hx hy hc d =
    let e₁ = entry_set m l x y z hx h in
    let e₂ = entry_set m (set l x y) y x z hy (simp length-set h) in
    let e₃ = entry_set m (set (set l x y) y x) c c z hc (simp length-set h) in
    elim (test z x) [
      | same e f ↦ cc d.left
      | different e ↦ cc
    ]

module _ (R : List Request) (symmetric : Symmetric (adjacent R)) (r : ℕ) (s : Search) (rows : List (List ℕ)) (T : Standing R r s rows)
    (scanned : ℕ → Bool)
    (S : Searching (adjacent R) (entry (length R) s.mates) T.frozen_label T.frozen_base r T.state scanned)
    (x y : ℕ) (x_even : T.state.label x ≡ Even) (hy : y < length R) (fy : T.state.label y ≡ Free)
    (ey : eqb (entry (length R) s.mates y) y ≡ false) (axy : adjacent R x y ≡ true) where
  abbrev m : ℕ
  m = length R

  abbrev state : State
  state = T.state

  abbrev M : ℕ → ℕ
  M = entry (length R) s.mates

  abbrev c : ℕ
  c = get_or s.mates y 0

  abbrev after : State
  after = grown M state x y (M y)

  mate_is : M y ≡ c
  mate_is = entry_inside m s.mates y hy

  c_inside : c < m
  c_inside = mate_inside R r s rows T y hy

  x_inside : x < m
  x_inside = even_inside R s rows state T.stands x x_even

  free_c : state.label c ≡ Free
  free_c = cc (mate_is, S.invariant.mate_free y fy)

  x_y : Apart x y
  x_y = apart_by_even state.label x y (cc (x_even)) (cc)

  few : m ≤ 512
  few = T.sized.few

  pub grow_room : s.clock < 512
  grow_room = omega (arith, few, clock_room R s rows state T.stands y hy (cc))

  label_after : (z : ℕ) → after.label z ≡ label_at m (set (set s.labels y kind.Odd) c kind.Even) z
  label_after z = cc (
    mate_is,
    T.stands.label_is z,
    label_at_set m s.labels y kind.Odd z hy (omega (arith, few, T.sized.labels)),
    label_at_set m (set s.labels y kind.Odd) c kind.Even z c_inside (simp length-set (omega (arith, few, T.sized.labels))),
  )

  even_after : (z : ℕ) → even? (after.label z) ≡ (eqb z c || even? (state.label z))
  even_after z = let e = mate_is in elim (test z c) [
    | same f g ↦ cc
    | different f ↦ elim (test z y) [ same i j ↦ cc | different i ↦ cc ]
  ]

  settled_after : (z : ℕ) → T.frozen_label z ≡ settled_at m (set (set s.labels y kind.Odd) c kind.Even) z
  settled_after z =
      let free : (w : ℕ) → state.label w ≡ Free → T.frozen_label w ≡ Free = λ w e.
      unfrozen (adjacent R) M T.frozen_label T.frozen_base r state scanned S w (cc)
      in
      let e₁ = settled_at_set m s.labels y kind.Odd z hy (omega (arith, few, T.sized.labels)) in
      let e₂ = settled_at_set m (set s.labels y kind.Odd) c kind.Even z c_inside (simp length-set (omega (arith, few, T.sized.labels))) in
      let e₀ = T.frozen_label_is z in
      elim (test z c) [
        | same f g ↦ cc (free c free_c)
        | different f ↦ elim (test z y) [
          | same i j ↦ cc (free y fy)
          | different i ↦ cc
        ]
      ]

  row_after : (a z : ℕ) → after.label a ≡ Even → after.row a z ≡ row_at m (set rows c (grown_row rows x y c)) a z
  row_after a z e =
      let w = row_set m rows c (grown_row rows x y c) (omega (arith, T.square.many, c_inside)) a z in
      let e₀ = mate_is in
      elim (test a c) [
        | same f g ↦ cc (
          grown_entry m (get_or rows x []) x y c z (omega (arith, few, T.square.wide x x_inside)) x_inside hy c_inside x_y,
          T.stands.row_is x z x_even,
          grown_row_cong (T.stands.row_is x) z,
        )
        | different f ↦ elim (test a y) [
          | same i j ↦ cc
          | different i ↦ cc (T.stands.row_is a z (cc))
        ]
      ]
    where
      grown_row_cong : ((z : ℕ) → state.label x ≡ Even → state.row x z ≡ row_at m rows x z) → (z : ℕ)
          → grown_row_lem (state.row x) x y c z ≡ grown_row_lem (row_at m rows x) x y c z
      grown_row_cong i z = cc (i z x_even)

  stands_after : Stands R (grown_arrays s x y c) (set rows c (grown_row rows x y c)) after
  stands_after = record {
    label_is = label_after;
    base_is = λ z. cc (mate_is, T.stands.base_is z, entry_set m s.bases c c z c_inside (omega (arith, few, T.sized.bases)));
    parent_is = λ z o.
        let e₀ = mate_is in
        let e₁ = entry_set m s.parents y x z hy (omega (arith, few, T.sized.parents)) in
        elim (test z y) [
          | same e f ↦ cc
          | different e ↦ elim (test z c) [
            | same f g ↦ impossible (cc)
            | different f ↦ cc (T.stands.parent_is z (cc))
          ]
        ];
    row_is = row_after;
    clock_is = ap suc T.stands.clock_is ∙ sym (add-one s.clock);
    clock_counts =
        let fc : even? (state.label c) ≡ false = cc (free_c) in
        omega (
          arith,
          T.stands.clock_counts,
          count_insert (λ z. even? (state.label z)) c m c_inside fc,
          sum_ext (λ z. bit (even? (after.label z))) (λ z. bit (eqb z c || even? (state.label z))) m (λ z l. ap bit (even_after z)),
        );
    queued = λ z. rw add-one (even_after z ∙ (ap (λ (b : Bool). eqb z c || b) (T.stands.queued z)
        ∙ sym (among_add s.queue s.clock c z (omega (arith, grow_room, T.sized.queue)))));
  }

  pub grown_stands : Standing R r (grown_arrays s x y c) (set rows c (grown_row rows x y c))
  grown_stands = record {
    sized = record {
      few = few;
      mates = T.sized.mates;
      labels = simp length-set T.sized.labels;
      bases = simp length-set T.sized.bases;
      parents = simp length-set T.sized.parents;
      queue = simp length-set T.sized.queue;
      bases_inside = λ z l. elim (test z c) [
        | same e f ↦
            let room : c < length s.bases = omega (arith, few, c_inside, T.sized.bases) in
            let b : get_or (set s.bases c c) z 0 ≡ c = cc (get_or-set_same s.bases c c 0 room) in
            omega (arith, c_inside)
        | different e ↦ omega (arith, get_or-set_other s.bases c z c 0 (eqb-false z c e.left), T.sized.bases_inside z l)
      ];
    };
    square = square_set m rows c (grown_row rows x y c) T.square c_inside
        (simp length-set (T.square.wide x x_inside));
    frozen_label = T.frozen_label;
    frozen_base = T.frozen_base;
    frozen_label_is = settled_after;
    between = T.between;
    state = after;
    stands = stands_after;
  }

  -- no vertex is being scanned
  pub search_grows : (h : ℕ) → h ≤ s.clock → ((z : ℕ) → scanned z ≡ among s.queue h z)
      → SearchAt R r (grown_arrays s x y c) (set rows c (grown_row rows x y c)) h
  unfolding grown_stands
  search_grows h within scanned_is = record {
    standing = grown_stands;
    scanned = scanned;
    scanned_is = λ z. scanned_is z ∙ sym (among_set s.queue h s.clock c z (omega arith));
    within = omega arith;
    searching = search_grow (adjacent R) symmetric M T.frozen_label T.frozen_base r state scanned S x y x_even fy ey axy;
  }

-- x is being scanned, and y comes next
pub grow_stands : (R : List Request) (symmetric : Symmetric (adjacent R)) (r : ℕ) (s : Search) (rows : List (List ℕ)) (h x y : ℕ)
    (at : ScanAt R r s rows h x y) → y < length R → at.standing.state.label y ≡ Free → eqb (entry (length R) s.mates y) y ≡ false
    → adjacent R x y ≡ true
    → ScanAt R r (grown_arrays s x y (get_or s.mates y 0)) (set rows (get_or s.mates y 0) (grown_row rows x y (get_or s.mates y 0))) h x
    (y + 1)
unfolding grown_stands
grow_stands R symmetric r s rows h x y at hy fy ey axy = let T = at.standing in let c = get_or s.mates y 0 in record {
  standing = grown_stands R symmetric r s rows T at.scanned at.scanning.search x y at.scanning.partly.x_even hy fy ey axy;
  scanned = at.scanned;
  scanned_is = λ z. at.scanned_is z ∙ sym (among_set s.queue h s.clock c z (omega (arith, at.next)));
  next = omega (arith, at.next);
  current = at.current ∙ sym (get_or-set_other s.queue s.clock h c 0 (λ e. omega (arith, at.next)));
  scanning = rw add-one
      (scan_grow (adjacent R) symmetric (entry (length R) s.mates) T.frozen_label T.frozen_base r T.state at.scanned x y
      at.scanning fy ey axy);
}
