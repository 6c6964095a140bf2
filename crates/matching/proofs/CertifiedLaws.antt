-- Once every exposed request is frozen, labels and bases are the certificate that the promise of `maximum` states.
use Prim.Native.Nat.{ℕ, ◌<◌}
use mathlib.Core.Path.{◌≡◌, refl, sym, ap, ◌∙◌}
use mathlib.Core.Bool.{false}
use mathlib.Core.List.{List}
use mathlib.Core.Logic.{inl, inr}
use lib.ListN.{length, get_or}
use borrow.Author.Tests.{eqb-false, ne_eqb, lt-ltb}
use Rattle.ring.specs.declared.requests.Request.{Request}
use Rattle.ring.specs.Requests.{request}
use Rattle.ring.specs.Chords.{compatible}
use Rattle.ring.proofs.Cases.{yes, no, is, same, different, test, impossible}
use Rattle.blossom.specs.Internal.Labels.{Free, Even, Odd}
use Rattle.matching.specs.declared.labels.VertexLabel.{VertexLabel}
use Rattle.matching.specs.declared.labels.VertexLabel.TheVariants as kind
use Rattle.matching.specs.declared.matchings.Matching.{Matching}
use Rattle.matching.specs.Maximum.{mate, label, base, is_frozen, IsFree, IsEven, IsOdd, Certified}
use Rattle.matching.specs.Internal.Arrays.{rest}
use Rattle.matching.specs.Internal.Model.{entry, settled_of, settled_at}
use Rattle.matching.specs.Internal.Search.{Settled}
use Rattle.matching.proofs.AdjacencyLaws.{adjacent_if, mates_inside}
use Rattle.matching.proofs.ModelLaws.{entry_inside}

-- a label between searches
data Settles (l : VertexLabel) : Type 0 where
  free : is_frozen l ≡ false → settled_of l ≡ Free → Settles l
  even : l ≡ kind.FrozenEven → settled_of l ≡ Even → Settles l
  odd : l ≡ kind.FrozenOdd → settled_of l ≡ Odd → Settles l

settles : (l : VertexLabel) → Settles l
settles kind.Free = free refl refl
settles kind.Even = free refl refl
settles kind.Odd = free refl refl
settles kind.FrozenEven = even refl refl
settles kind.FrozenOdd = odd refl refl

settles_free : (l : VertexLabel) → is_frozen l ≡ false → settled_of l ≡ Free
settles_free l e = elim (settles l) [ free h f ↦ f | even h f ↦ impossible (cc) | odd h f ↦ impossible (cc) ]

is_settled_free : (l : VertexLabel) → settled_of l ≡ Free → is_frozen l ≡ false
is_settled_free l e = elim (settles l) [ free h f ↦ h | even h f ↦ impossible (cc) | odd h f ↦ impossible (cc) ]

is_settled_even : (l : VertexLabel) → settled_of l ≡ Even → l ≡ kind.FrozenEven
is_settled_even l e = elim (settles l) [ free h f ↦ impossible (cc) | even h f ↦ h | odd h f ↦ impossible (cc) ]

settled_at_inside : (m : ℕ) (l : List VertexLabel) (z : ℕ) → z < m → settled_at m l z ≡ settled_of (get_or l z kind.Free)
unfolding settled_at
settled_at_inside m l z h = cc (lt-ltb z m h)

module _ (R : List Request) (s : Matching) (S : Settled R (rest s.mates s.labels s.bases) (length R)) where
  abbrev M : ℕ → ℕ
  M = entry (length R) s.mates

  mate_is : (x : ℕ) → x < length R → M x ≡ mate s x
  mate_is x h = entry_inside (length R) s.mates x h

  mate_below : (x : ℕ) → x < length R → mate s x < length R
  mate_below x h = rw (mate_is x h) at (mates_inside R M S.between.mates x h)

  base_is : (x : ℕ) → x < length R → S.base x ≡ base s x
  base_is x h = S.base_is x ∙ entry_inside (length R) s.bases x h

  label_is : (x : ℕ) → x < length R → S.label x ≡ settled_of (label s x)
  label_is x h = S.label_is x ∙ settled_at_inside (length R) s.labels x h

  free_label : (x : ℕ) → x < length R → IsFree s x → S.label x ≡ Free
  free_label x h l = label_is x h ∙ settles_free (label s x) l

  even_label : (x : ℕ) → x < length R → IsEven s x → S.label x ≡ Even
  even_label x h l = label_is x h ∙ ap settled_of l

  odd_label : (x : ℕ) → x < length R → IsOdd s x → S.label x ≡ Odd
  odd_label x h l = label_is x h ∙ ap settled_of l

  -- the label of the mate, as the theory has it
  mate_label : (x : ℕ) → x < length R → settled_of (label s (mate s x)) ≡ S.label (M x)
  mate_label x h = sym (label_is (mate s x) (mate_below x h)) ∙ ap S.label (sym (mate_is x h))

  pub settled_certified : Certified R s
  settled_certified = let C = S.between.certificate in record {
    inside = λ x h. (mate_below x h, S.sized.bases_inside x h);
    exposed = λ x h e. let stays = mate_is x h ∙ e in elim (settles (label s x)) [
      | free l f ↦ impossible (cc (S.between.exposed_frozen x h stays, label_is x h))
      | even l f ↦ l
      | odd l f ↦ impossible (cc (C.odd_mate x (label_is x h ∙ f), label_is x h))
    ];
    even_free = λ x y h k e f. elim (is (compatible (request R x) (request R y))) [
      | no g ↦ g
      | yes g ↦
          let apart = ne_eqb x y (λ p. impossible (sym (ap is_frozen (sym (ap (label s) p) ∙ e)) ∙ f)) in
          impossible (cc (C.even_free x y (even_label x h e) (free_label y k f), adjacent_if R x y apart h k g))
    ];
    even_even = λ x y h k e f g. elim (test x y) [
      | same p q ↦ ap (base s) p
      | different d ↦
          cc (C.even_even x y (even_label x h e) (even_label y k f) (adjacent_if R x y d.left h k g), base_is x h, base_is y k)
    ];
    even_inner = λ x h e n.
        let inner = C.inner_mate x (even_label x h e) (ne_eqb (S.base x) x (λ p. n (sym (base_is x h) ∙ p))) in (
          is_settled_even (label s (mate s x)) (cc (mate_label x h)),
          cc (mate_is x h, base_is x h, base_is (mate s x) (mate_below x h)),
          λ p. eqb-false (M x) x (cc) (mate_is x h ∙ p),
        );
    even_base = λ x h e b.
        let outer = C.base_mate x (even_label x h e) (base_is x h ∙ b) in
        elim (test (mate s x) x) [
          | same p q ↦ inl p
          | different d ↦ elim (settles (label s (mate s x))) [
            | free l f ↦ impossible (cc (mate_label x h, mate_is x h, d.left))
            | even l f ↦ impossible (cc (mate_label x h, mate_is x h, d.left))
            | odd l f ↦ inr l
          ]
        ];
    odd = λ x h o. is_settled_even (label s (mate s x)) (mate_label x h ∙ C.odd_mate x (odd_label x h o));
    free = λ x h f. is_settled_free (label s (mate s x)) (mate_label x h ∙ C.free_mate x (free_label x h f));
  }
