-- Weak duality: no matching leaves fewer vertices exposed than one that has a certificate.
use Prim.Native.Nat.{ℕ, ◌+◌, ◌*◌, ◌<◌, ◌≤◌}
use mathlib.Core.Path.{◌≡◌}
use mathlib.Core.Bool.{Bool, true, false, not, cond, ◌&&◌, ◌||◌}
use native.Mathlib.Omega.{arith}
use lib.Dec.{eqb, ltb}
use Rattle.ring.proofs.Cases.{yes, no, is, same, different, eqb_refl, test, two}
use Rattle.ring.proofs.Counting.{sum, bit, count, bit_le_or, sum_ext, sum_le}
use Rattle.ring.proofs.Counting.{sum_add, sum_at, sum_by_class, sum_involution, even_without_fixed_points}
use Rattle.blossom.specs.Internal.Certificate.{Certificate}
use Rattle.blossom.specs.Internal.Labels.{Label, Free, Even, even?, odd?}
use Rattle.blossom.specs.Internal.Rows.{Mates}
use Rattle.blossom.proofs.LabelLaws.{is_free, is_even, is_odd, is_frozen, label_case}

-- M has the certificate, and leaves no free vertex exposed; N is any other matching
module _ (adj : ℕ → ℕ → Bool) (m : ℕ) (M : ℕ → ℕ) (label : ℕ → Label) (base : ℕ → ℕ)
    (mates : Mates adj M) (stay : (z : ℕ) → z < m → M z < m) (C : Certificate adj M label base)
    (base-in : (z : ℕ) → z < m → base z < m) (covered : (z : ℕ) → z < m → label z ≡ Free → eqb (M z) z ≡ false)
    (N : ℕ → ℕ) (N-mates : Mates adj N) (N-stay : (z : ℕ) → z < m → N z < m) where
  -- an even vertex that is its own base: there is one in each class
  abbrev base? : ℕ → Bool
  base? z = even? (label z) && eqb (base z) z

  -- even, and not matched by N to an even vertex
  abbrev lone? : ℕ → Bool
  lone? z = even? (label z) && (eqb (N z) z || not (even? (label (N z))))

  -- the bases are the vertices that M leaves exposed and those that it matches to an odd one
  bases : (z : ℕ) → z < m → bit (base? z) ≡ bit (eqb (M z) z) + bit (odd? (label (M z)))
  bases z l = elim (label_case (label z)) [
    | is_free e ↦ cc (C.free_mate z e, covered z l e)
    | is_frozen e ↦ cc (C.none_frozen z)
    | is_odd e ↦ elim (test (M z) z) [ same s t ↦ cc (C.odd_mate z e) | different d ↦ cc (C.odd_mate z e) ]
    | is_even e ↦ elim (test (base z) z) [
      | different d ↦ let i = C.inner_mate z e d.left in cc
      | same s t ↦ let i = C.base_mate z e s in elim (test (M z) z) [ same u v ↦ cc | different u ↦ cc ]
    ]
  ]

  -- such a vertex is exposed in N, or matched to an odd one
  lones : (z : ℕ) → z < m → bit (lone? z) ≤ bit (eqb (N z) z) + bit (odd? (label (N z)))
  lones z l = bit_le_or (lone? z) (eqb (N z) z) (odd? (label (N z))) (λ o. elim (label_case (label z)) [
    | is_free e ↦ cc
    | is_frozen e ↦ cc (C.none_frozen z)
    | is_odd e ↦ cc
    | is_even e ↦ elim (test (N z) z) [
      | same s t ↦ cc
      | different d ↦ elim (label_case (label (N z))) [
        | is_free f ↦ cc (C.even_free z (N z) e f, N-mates z)
        | is_frozen f ↦ cc (C.none_frozen (N z))
        | is_even f ↦ cc
        | is_odd f ↦ cc
      ]
    ]
  ])

  -- the class of the base b
  module _ (b : ℕ) (lb : b < m) (tb : base? b ≡ true) where
    abbrev in? : ℕ → Bool
    in? z = eqb b (base z) && even? (label z)

    base_is : two (label b) (base b) ≡ two Even b
    base_is = elim (label_case (label b)) [
      | is_free e ↦ cc
      | is_frozen e ↦ cc (C.none_frozen b)
      | is_odd e ↦ cc
      | is_even e ↦ elim (test (base b) b) [ same s t ↦ cc | different d ↦ cc ]
    ]

    -- all but the base are matched inside by M
    abbrev inside? : ℕ → Bool
    inside? z = not (eqb z b) && in? z

    inside_at : (z : ℕ) → z < m → inside? z ≡ true → two (inside? (M z)) (eqb (M z) z) ≡ two true false
    inside_at z l h = let i = base_is in elim (test z b) [
      | same s t ↦ cc
      | different d ↦ elim (test b (base z)) [
        | different f ↦ cc
        | same s t ↦ elim (label_case (label z)) [
          | is_free e ↦ cc
          | is_frozen e ↦ cc (C.none_frozen z)
          | is_odd e ↦ cc
          | is_even e ↦
              let j = C.inner_mate z e (cc) in let k = C.base_mate b (cc) (cc) in
              elim (test (M z) b) [ same u v ↦ cc (mates z) | different u ↦ cc (eqb_refl b) ]
        ]
      ]
    ]

    -- so that the class has an odd number of vertices
    inside_count : count in? m ≡ 1 + 2 * count (λ z. inside? z && ltb z (M z)) m
    inside_count = omega (
      arith,
      sum_ext (λ z. bit (in? z)) (λ z. cond (eqb z b) 1 0 + bit (inside? z)) m part,
      sum_add (λ z. cond (eqb z b) 1 0) (λ z. bit (inside? z)) m,
      sum_at (λ z. 1) b m lb,
      even_without_fixed_points M (λ z. cc (mates z)) m stay inside? inside_at,
    )
      where
        part : (z : ℕ) → z < m → bit (in? z) ≡ cond (eqb z b) 1 0 + bit (inside? z)
        part z l = let i = base_is in elim (test z b) [
          | same s t ↦ cc (eqb_refl b)
          | different d ↦ elim (is (in? z)) [ yes o ↦ cc | no o ↦ cc ]
        ]

    -- those that N matches to an even vertex, which is then in the class
    abbrev kept? : ℕ → Bool
    kept? z = in? z && not (lone? z)

    kept_at : (z : ℕ) → z < m → kept? z ≡ true → two (kept? (N z)) (eqb (N z) z) ≡ two true false
    kept_at z l h = elim (test b (base z)) [
      | different f ↦ cc
      | same s t ↦ elim (label_case (label z)) [
        | is_free e ↦ cc
        | is_frozen e ↦ cc (C.none_frozen z)
        | is_odd e ↦ cc
        | is_even e ↦ elim (test (N z) z) [
          | same u v ↦ cc
          | different d ↦ elim (label_case (label (N z))) [
            | is_free f ↦ cc
            | is_frozen f ↦ cc (C.none_frozen (N z))
            | is_odd f ↦ cc
            | is_even f ↦
                cc (C.even_even z (N z) e f (cc (N-mates z)), N-mates z, eqb_refl b)
          ]
        ]
      ]
    ]

    kept_count : count in? m ≡ sum (λ z. cond (eqb b (base z)) (bit (lone? z)) 0) m + 2 * count (λ z. kept? z && ltb z (N z)) m
    kept_count = omega (
      arith,
      sum_ext (λ z. bit (in? z)) (λ z. cond (eqb b (base z)) (bit (lone? z)) 0 + bit (kept? z)) m part,
      sum_add (λ z. cond (eqb b (base z)) (bit (lone? z)) 0) (λ z. bit (kept? z)) m,
      even_without_fixed_points N (λ z. cc (N-mates z)) m N-stay kept? kept_at,
    )
      where
        part : (z : ℕ) → z < m → bit (in? z) ≡ cond (eqb b (base z)) (bit (lone? z)) 0 + bit (kept? z)
        part z l = elim (test b (base z)) [
          | different f ↦ cc
          | same s t ↦ elim (label_case (label z)) [
            | is_free e ↦ cc
            | is_frozen e ↦ cc
            | is_odd e ↦ cc
            | is_even e ↦ elim (is (lone? z)) [ yes o ↦ cc | no o ↦ cc ]
          ]
        ]

    -- and N matches one of them, at least, to none of the class
    class : 1 ≤ sum (λ z. cond (eqb b (base z)) (bit (lone? z)) 0) m
    class = omega (arith, inside_count, kept_count)

  classes : (b : ℕ) → b < m → bit (base? b) ≤ sum (λ z. cond (eqb b (base z)) (bit (lone? z)) 0) m
  classes b l = elim (is (base? b)) [
    | yes t ↦ let e : bit (base? b) ≡ 1 = cc in omega (arith, class b l t)
    | no t ↦ let e : bit (base? b) ≡ 0 = cc in omega arith
  ]

  -- the matching N leaves at least as many vertices exposed
  pub exposed : count (λ z. eqb (M z) z) m ≤ count (λ z. eqb (N z) z) m
  exposed = omega (
    arith,
    sum_ext (λ z. bit (base? z)) (λ z. bit (eqb (M z) z) + bit (odd? (label (M z)))) m bases,
    sum_add (λ z. bit (eqb (M z) z)) (λ z. bit (odd? (label (M z)))) m,
    sum_involution M (λ z. cc (mates z)) m stay (λ z. bit (odd? (label z))),
    sum_le (λ b. bit (base? b)) (λ b. sum (λ z. cond (eqb b (base z)) (bit (lone? z)) 0) m) m classes,
    sum_by_class (λ z. bit (lone? z)) base m base-in,
    sum_le (λ z. bit (lone? z)) (λ z. bit (eqb (N z) z) + bit (odd? (label (N z)))) m lones,
    sum_add (λ z. bit (eqb (N z) z)) (λ z. bit (odd? (label (N z)))) m,
    sum_involution N (λ z. cc (N-mates z)) m N-stay (λ z. bit (odd? (label z))),
  )
