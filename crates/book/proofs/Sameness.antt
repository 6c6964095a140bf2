-- Valid books with the same live and the same pending circuits are one: rising serials settle how these lie among each other.
use Prim.Native.Nat.{ℕ, suc, ◌<◌}
use mathlib.Core.Path.{◌≡◌, refl, sym, ◌∙◌, ap, subst}
use mathlib.Core.Bool.{Bool, true, false, cond}
use mathlib.Core.List.{List, [], ◌∷◌}
use native.Mathlib.Omega.{arith}
use lib.ListN.{length}
use Rattle.book.specs.declared.circuits.Circuit.{Circuit}
use Rattle.book.specs.Circuits.{is_live, circuit}
use Rattle.book.specs.Books.{records_of, live_in, pending_in, book_of, SameMeans}

-- every serial of a list is above this one
abbrev Above : ℕ → List Circuit → Type 0
Above m [] = Unit {0}
Above m (c ∷ cs) = (m < c.serial) × Above m cs

-- the serials rise
abbrev Rising : List Circuit → Type 0
Rising [] = Unit {0}
Rising (c ∷ cs) = Above c.serial cs × Rising cs

all_above : (m : ℕ) (cs : List Circuit) → ((i : ℕ) → i < length cs → m < (circuit cs i).serial) → Above m cs
all_above m [] h = tt
all_above m (c ∷ cs) h = (h 0 (omega arith), all_above m cs (λ i l. h (suc i) (omega arith)))

rises : (cs : List Circuit) → ((i j : ℕ) → i < j → j < length cs → (circuit cs i).serial < (circuit cs j).serial) → Rising cs
rises [] h = tt
rises (c ∷ cs) h = (
  all_above c.serial cs (λ i l. h 0 (suc i) (omega arith) (omega arith)),
  rises cs (λ i j k l. h (suc i) (suc j) (omega arith) (omega arith)),
)

-- the live and the pending ones of a list with serials above m have serials above m
live_above : (m : ℕ) (cs : List Circuit) → Above m cs → Above m (live_in cs)
live_above m [] h = tt
live_above m (c ∷ cs) h = go (is_live c) (live_above m cs h.1)
  where
    go : (t : Bool) → Above m (live_in cs) → Above m (cond t (c ∷ live_in cs) (live_in cs))
    go true later = (h.0, later)
    go false later = later

pending_above : (m : ℕ) (cs : List Circuit) → Above m cs → Above m (pending_in cs)
pending_above m [] h = tt
pending_above m (c ∷ cs) h = go (is_live c) (pending_above m cs h.1)
  where
    go : (t : Bool) → Above m (pending_in cs) → Above m (cond t (pending_in cs) (c ∷ pending_in cs))
    go true later = later
    go false later = (h.0, later)

-- two lists whose first circuits differ in state: each of these would have the lower serial
crossed : (c d : Circuit) (cs ds ls ps : List Circuit) → Above c.serial ps → Above d.serial ls → (c ∷ cs) ≡ ls → ps ≡ (d ∷ ds) → ⊥
crossed c d cs ds ls ps h k e f =
    let below = (subst (Above c.serial) f h).0 in
    let above = (subst (Above d.serial) (sym e) k).0 in
    omega arith

none_first : (d : Circuit) (ds ls ps : List Circuit) (t : Bool) → [] ≡ cond t (d ∷ ls) ls → [] ≡ cond t ps (d ∷ ps) → ⊥
none_first d ds ls ps true e f = let z : ◌≡◌ {A = ℕ} 0 1 = cc in omega arith
none_first d ds ls ps false e f = let z : ◌≡◌ {A = ℕ} 0 1 = cc in omega arith

one_list : (cs ds : List Circuit) → Rising cs → Rising ds → live_in cs ≡ live_in ds → pending_in cs ≡ pending_in ds → cs ≡ ds
one_list [] [] r q e f = refl
one_list [] (d ∷ ds) r q e f = absurd (none_first d ds (live_in ds) (pending_in ds) (is_live d) e f)
one_list (c ∷ cs) [] r q e f = absurd (none_first c cs (live_in cs) (pending_in cs) (is_live c) (sym e) (sym f))
one_list (c ∷ cs) (d ∷ ds) r q e f = go (is_live c) (is_live d) (one_list cs ds r.1 q.1) e f
  where
    go : (t u : Bool) → (live_in cs ≡ live_in ds → pending_in cs ≡ pending_in ds → cs ≡ ds)
        → cond t (c ∷ live_in cs) (live_in cs) ≡ cond u (d ∷ live_in ds) (live_in ds)
        → cond t (pending_in cs) (c ∷ pending_in cs) ≡ cond u (pending_in ds) (d ∷ pending_in ds) → (c ∷ cs) ≡ (d ∷ ds)
    go true true later e f =
        let first : c ≡ d = cc in
        let rest : live_in cs ≡ live_in ds = cc in
        ap (λ (x : Circuit). x ∷ cs) first ∙ ap (λ (l : List Circuit). d ∷ l) (later rest f)
    go false false later e f =
        let first : c ≡ d = cc in
        let rest : pending_in cs ≡ pending_in ds = cc in
        ap (λ (x : Circuit). x ∷ cs) first ∙ ap (λ (l : List Circuit). d ∷ l) (later e rest)
    go true false later e f =
        absurd (crossed c d (live_in cs) (pending_in ds) (live_in ds) (pending_in cs) (pending_above c.serial cs r.0)
        (live_above d.serial ds q.0) e f)
    go false true later e f =
        absurd (crossed d c (live_in ds) (pending_in cs) (live_in cs) (pending_in ds) (pending_above d.serial ds q.0)
        (live_above c.serial cs r.0) (sym e) (sym f))

pub same_means : SameMeans
same_means b d v u s =
    v.form
    ∙ ap (λ (m : ℕ). book_of m b.w b.grants (records_of b)) s.nodes
    ∙ ap (λ (m : ℕ). book_of d.n m b.grants (records_of b)) s.colours
    ∙ ap (λ (m : ℕ). book_of d.n d.w m (records_of b)) s.grants
    ∙ ap (book_of d.n d.w d.grants) (one_list (records_of b) (records_of d) (rises (records_of b) v.circuits.rising)
    (rises (records_of d) u.circuits.rising) s.live s.pending)
    ∙ sym u.form
