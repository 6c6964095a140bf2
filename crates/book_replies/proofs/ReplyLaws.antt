-- The lengths of texts, and serials written one behind the other.
use Prim.Native.Nat.{ℕ, ◌+◌, ◌*◌, ◌≤◌, ◌<◌}
use mathlib.Core.Path.{◌≡◌, refl, sym, ◌∙◌, ap}
use mathlib.Core.List.{List, [], ◌∷◌, ◌++◌, append_assoc, append-nil}
use native.Mathlib.Omega.{arith}
use native.Mathlib.Numerals.{add-one}
use lib.ListN.{length, get_or, take, length-append}
use lib.Seq.{take-suc}
use Rattle.book.specs.declared.circuits.Circuit.{Circuit}
use Rattle.texts.specs.Bytes.{bytes}
use Rattle.texts.specs.Layout.{labelled}
use Rattle.texts.proofs.WordLaws.{labelled_short, way_short}
use Rattle.book_replies.specs.Replies.{circuit_text, order_text, serials_text, would_grant}

-- no line of an order is longer than 32 bytes
circuit_short : (word : List ℕ) (c : Circuit) → length (circuit_text word c) ≤ length word + 20
unfolding circuit_text
circuit_short word c =
    let first = labelled_short word c.a in
    let second = labelled_short (bytes " ") c.b in
    let third = way_short c.way c.colour in
    simp length-append (omega arith)

pub order_short : (c : Circuit) → length (order_text c) ≤ 32
unfolding order_text
order_short c =
    let first = labelled_short (bytes "order ") c.serial in
    let rest = circuit_short (bytes " ") c in
    rw length-append (omega arith)

-- what is said of serials has at most 107 bytes
pub serials_short : (serials : List ℕ) → length (serials_text serials) ≤ 6 * length serials
serials_short [] = omega arith
serials_short (x ∷ xs) =
    let first = labelled_short (bytes " ") x in
    let rest = serials_short xs in
    rw length-append (omega arith)

pub grant_short : (serials : List ℕ) → length serials ≤ 16 → length (would_grant serials) ≤ 107
grant_short [] h = omega arith
grant_short (x ∷ xs) h =
    let all = serials_short (x ∷ xs) in
    rw length-append (omega arith)

-- one serial more
serials_append : (xs ys : List ℕ) → serials_text (xs ++ ys) ≡ serials_text xs ++ serials_text ys
serials_append [] ys = refl
serials_append (x ∷ xs) ys =
    ap (λ (l : List ℕ). labelled (bytes " ") x ++ l) (serials_append xs ys)
    ∙ sym (append_assoc (labelled (bytes " ") x) (serials_text xs) (serials_text ys))

pub serials_next : (serials : List ℕ) (i : ℕ) → i < length serials
    → serials_text (take (i + 1) serials) ≡ serials_text (take i serials) ++ labelled (bytes " ") (get_or serials i 0)
serials_next serials i h =
    ap (λ (k : ℕ). serials_text (take k serials)) (add-one i)
    ∙ (ap serials_text (take-suc serials i 0 h)
    ∙ (serials_append (take i serials) (get_or serials i 0 ∷ [])
    ∙ ap (λ (l : List ℕ). serials_text (take i serials) ++ l) (append-nil (labelled (bytes " ") (get_or serials i 0)))))

-- with the words before them
pub some_granted : (serials : List ℕ) → (serials ≡ [] → ⊥) → bytes "would grant" ++ serials_text serials ≡ would_grant serials
some_granted [] h = absurd (h refl)
some_granted (x ∷ xs) h = refl
