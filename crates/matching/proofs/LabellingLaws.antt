-- Labels by cases, and one turn of a loop that replaces them one by one.
use Prim.Native.Nat.{ℕ, ◌+◌, ◌<◌, ◌≤◌}
use mathlib.Core.Path.{◌≡◌, refl, ◌∙◌}
use mathlib.Core.List.{List}
use native.Mathlib.Omega.{arith}
use mathlib.Core.Bool.{true}
use lib.ListN.{length, get_or, set, length-set}
use lib.Seq.{get_or-set_same, get_or-set_other}
use borrow.Author.Tests.{eqb-false}
use Rattle.ring.proofs.Cases.{same, different, test, impossible}
use Rattle.blossom.specs.Internal.Labels.{even?, odd?}
use Rattle.matching.specs.declared.labels.VertexLabel.{VertexLabel}
use Rattle.matching.specs.declared.labels.VertexLabel.TheVariants as kind
use Rattle.matching.specs.Internal.Labelling.{Relabelled}
use Rattle.matching.specs.Internal.Model.{label_of}

-- a label, as far as a tree tells it
pub data LabelCase (l : VertexLabel) : Type 0 where
  is_even : l ≡ kind.Even → LabelCase l
  is_odd : l ≡ kind.Odd → LabelCase l
  is_neither : (l ≡ kind.Even → ⊥) → (l ≡ kind.Odd → ⊥) → LabelCase l

pub label_case : (l : VertexLabel) → LabelCase l
label_case kind.Free = is_neither (λ e. impossible (cc)) (λ e. impossible (cc))
label_case kind.Even = is_even refl
label_case kind.Odd = is_odd refl
label_case kind.FrozenEven = is_neither (λ e. impossible (cc)) (λ e. impossible (cc))
label_case kind.FrozenOdd = is_neither (λ e. impossible (cc)) (λ e. impossible (cc))

pub even_not_odd : (l : VertexLabel) → l ≡ kind.Even → l ≡ kind.Odd → ⊥
even_not_odd l e f = impossible (cc)

-- the one label that is even in a search, and the one that is odd
pub even_only : (l : VertexLabel) → even? (label_of l) ≡ true → l ≡ kind.Even
even_only kind.Free e = cc
even_only kind.Even e = refl
even_only kind.Odd e = cc
even_only kind.FrozenEven e = cc
even_only kind.FrozenOdd e = cc

pub odd_only : (l : VertexLabel) → odd? (label_of l) ≡ true → l ≡ kind.Odd
odd_only kind.Free e = cc
odd_only kind.Even e = cc
odd_only kind.Odd e = refl
odd_only kind.FrozenEven e = cc
odd_only kind.FrozenOdd e = cc

-- the first i labels are replaced, and the others are as before
pub record Relabelling (f : VertexLabel → VertexLabel) (before after : List VertexLabel) (i : ℕ) : Type 0 where
  pub done : Relabelled i before after f
  pub rest : (z : ℕ) → i ≤ z → get_or after z kind.Free ≡ get_or before z kind.Free

module _ (f : VertexLabel → VertexLabel) (before : List VertexLabel) where
  pub relabelling_start : Relabelling f before before 0
  relabelling_start = record {
    done = record { same_length = refl; at = λ z h. absurd (omega arith) };
    rest = λ z h. refl;
  }

  pub relabelling_turn : (after : List VertexLabel) (i : ℕ) (r : VertexLabel) → i < length after → r ≡ f (get_or after i kind.Free)
      → Relabelling f before after i
      → Relabelling f before (set after i r) (i + 1)
  relabelling_turn after i r inside e w = record {
    done = record {
      same_length = length-set after i r ∙ w.done.same_length;
      at = λ z h. elim (test z i) [
        | same s t ↦ cc (get_or-set_same after i r kind.Free inside, w.rest i (omega arith))
        | different d ↦
            get_or-set_other after i z r kind.Free (eqb-false z i d.left)
            ∙ w.done.at z (omega (arith, eqb-false z i d.left))
      ];
    };
    rest = λ z h. get_or-set_other after i z r kind.Free (λ s. omega arith) ∙ w.rest z (omega arith);
  }

  pub relabelling_end : (after : List VertexLabel) (i m : ℕ) → m ≤ i → Relabelling f before after i → Relabelled m before after f
  relabelling_end after i m h w = record { same_length = w.done.same_length; at = λ z k. w.done.at z (omega arith) }
