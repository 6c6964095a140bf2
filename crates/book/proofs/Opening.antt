-- A book that open gives is new and valid.
use Prim.Native.Nat.{ℕ}
use mathlib.Core.Path.{◌≡◌, refl, ap}
use mathlib.Core.List.{[]}
use native.Mathlib.Omega.{arith}
use Rattle.std.specs.Prelude.{Result, Ok, Err}
use Rattle.std.specs.Result.{result_unwrap_or}
use Rattle.ring.specs.declared.refusals.Refusal.{Refusal}
use Rattle.ring.specs.Refusals.{Verdict}
use Rattle.ring.specs.Admission.{ring_verdict}
use Rattle.ring.proofs.AdmissionLaws.{RingLimits, ring_limits}
use Rattle.book.specs.declared.books.Book.{Book}
use Rattle.book.specs.Books.{book_of, no_nodes, opening_of, open_unless, opened, Valid}

-- the new book
pub opened_book : (n w : ℕ) → ring_verdict n w ≡ Ok tt → (opened n w).book ≡ book_of n w 0 []
unfolding opened
opened_book n w e = ap (λ (v : Verdict). (open_unless v n w).book) e

-- the book of an answer, or that of no nodes
pub opening_book : (r : Result Book Refusal) → result_unwrap_or r no_nodes ≡ (opening_of r).book
opening_book (Ok b) = refl
opening_book (Err r) = refl

pub opened_valid : (n w : ℕ) → ring_verdict n w ≡ Ok tt → Valid (book_of n w 0 [])
opened_valid n w e =
    let l : RingLimits n w = ring_limits n w e in
    record {
      nodes = (l.nodes_from, l.nodes_to);
      colours = (l.colours_from, l.colours_to);
      few = omega arith;
      form = refl;
      circuits = record {
        room = omega arith;
        given = λ i h. absurd (omega arith);
        rising = λ i j k h. absurd (omega arith);
        ends = λ i h. absurd (omega arith);
        colours = λ i h. absurd (omega arith);
        crews = λ i h. absurd (omega arith);
        apart = λ i j k h. absurd (omega arith);
      };
    }
