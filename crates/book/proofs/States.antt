-- The states of records: circuits that agree but for their states, and how many of a list are live.
use Prim.Native.Nat.{ℕ, zero, suc, ◌+◌, ◌<◌}
use mathlib.Core.Path.{◌≡◌, refl, sym, ◌∙◌, ap}
use mathlib.Core.Bool.{Bool, true, false, cond}
use mathlib.Core.List.{List, [], ◌∷◌, ◌++◌, map}
use native.Mathlib.Omega.{arith}
use lib.ListN.{length, take, drop, set, length-map, get_or-map}
use lib.Seq.{map-set_same}
use Rattle.ring.proofs.Cases.{impossible}
use Rattle.book.specs.declared.circuits.RecordState.{RecordState}
use Rattle.book.specs.declared.circuits.RecordState.TheVariants.{Live, Pending}
use Rattle.book.specs.declared.circuits.Circuit.{Circuit}
use Rattle.book.specs.Circuits.{vacant, live_state, is_live, in_state, as_pending, circuit, holds}
use Rattle.book.specs.Books.{live_in, ValidCircuits}

-- a state is the one or the other
pub live_state_lem : (t : RecordState) → live_state t ≡ true → t ≡ Live
live_state_lem Live e = refl
live_state_lem Pending e = impossible (sym e)

pub pending_state : (t : RecordState) → live_state t ≡ false → t ≡ Pending
pending_state Live e = impossible e
pending_state Pending e = refl

-- ---- the circuit as it was granted

abbrev pub as_granted : Circuit → Circuit
as_granted c = in_state Live c

-- a live circuit is as it was granted
pub live_granted : (c : Circuit) → c.state ≡ Live → as_granted c ≡ c
live_granted c e = ap (λ (t : RecordState). in_state t c) (sym e)

-- two lists of records that agree but for states
abbrev pub Alike : List Circuit → List Circuit → Type 0
Alike ds cs = map as_granted ds ≡ map as_granted cs

pub pending_alike : (cs : List Circuit) (i : ℕ) → Alike (set cs i (as_pending (circuit cs i))) cs
pending_alike cs i = map-set_same as_granted cs i (as_pending (circuit cs i)) vacant refl

module _ (cs ds : List Circuit) (e : Alike ds cs) where
  pub alike_length : length ds ≡ length cs
  alike_length = sym (length-map ds as_granted) ∙ ap length e ∙ length-map cs as_granted

  pub alike_at : (i : ℕ) → as_granted (circuit ds i) ≡ as_granted (circuit cs i)
  alike_at i = sym (get_or-map as_granted ds i vacant) ∙ ap (λ (l : List Circuit). circuit l i) e ∙ get_or-map as_granted cs i vacant

-- ---- how many are live

abbrev one_if : Bool → ℕ
one_if t = cond t 1 0

pub live_next : (c : Circuit) (cs : List Circuit) → length (live_in (c ∷ cs)) ≡ one_if (is_live c) + length (live_in cs)
live_next c cs = go (is_live c)
  where
    go : (t : Bool) → length (cond t (c ∷ live_in cs) (live_in cs)) ≡ one_if t + length (live_in cs)
    go true = omega arith
    go false = omega arith

pub live_snoc : (cs : List Circuit) (c : Circuit) → is_live c ≡ true → length (live_in (cs ++ (c ∷ []))) ≡ length (live_in cs) + 1
live_snoc [] c e = live_next c [] ∙ ap (λ (t : Bool). one_if t + 0) e
live_snoc (x ∷ cs) c e = omega (arith, live_next x (cs ++ (c ∷ [])), live_next x cs, live_snoc cs c e)

pub live_set : (cs : List Circuit) (i : ℕ) (d : Circuit) → i < length cs → is_live (circuit cs i) ≡ true → is_live d ≡ false
    → length (live_in (set cs i d)) + 1 ≡ length (live_in cs)
live_set [] i d h e f = absurd (omega arith)
live_set (x ∷ cs) zero d h e f =
    omega (
      arith,
      live_next d cs,
      live_next x cs,
      ap one_if e,
      ap one_if f,
    )
live_set (x ∷ cs) (suc i) d h e f = omega (arith, live_next x (set cs i d), live_next x cs, live_set cs i d (omega arith) e f)

pub live_without : (cs : List Circuit) (i : ℕ) → i < length cs → is_live (circuit cs i) ≡ false
    → length (live_in (take i cs ++ drop (suc i) cs)) ≡ length (live_in cs)
live_without [] i h e = absurd (omega arith)
live_without (x ∷ cs) zero h e = omega (arith, live_next x cs, ap one_if e)
live_without (x ∷ cs) (suc i) h e =
    omega (arith, live_next x (take i cs ++ drop (suc i) cs), live_next x cs, live_without cs i (omega arith) e)

-- ---- records that agree but for states are valid together

pub alike_valid : (n w g : ℕ) (cs ds : List Circuit) → Alike ds cs → ValidCircuits n w g cs → ValidCircuits n w g ds
unfolding holds
alike_valid n w g cs ds e v =
    let size = alike_length cs ds e in
    record {
      room = omega (arith, v.room);
      given = λ i h. rw (ap (λ (c : Circuit). c.serial) (alike_at cs ds e i)) (v.given i (omega arith));
      rising = λ i j k h.
          rw (ap (λ (c : Circuit). c.serial) (alike_at cs ds e i), ap (λ (c : Circuit). c.serial) (alike_at cs ds e j))
          (v.rising i j k (omega arith));
      ends = λ i h. rw (ap (λ (c : Circuit). c.a) (alike_at cs ds e i), ap (λ (c : Circuit). c.b) (alike_at cs ds e i))
          (v.ends i (omega arith));
      colours = λ i h. rw (ap (λ (c : Circuit). c.colour) (alike_at cs ds e i)) (v.colours i (omega arith));
      crews = λ i h. rw (ap (λ (c : Circuit). c.crew) (alike_at cs ds e i)) (v.crews i (omega arith));
      apart = λ i j k h link colour l t. sym (held_alike j link colour)
          ∙ v.apart i j k (omega arith) link colour l (held_alike i link colour ∙ t);
    }
  where
    held_alike : (i link colour : ℕ) → holds (circuit cs i) link colour ≡ holds (circuit ds i) link colour
    held_alike i link colour = ap (λ (c : Circuit). holds c link colour) (sym (alike_at cs ds e i))
