-- Cases of charges, those of the rules and some beside them.
use Rattle.std.specs.Prelude.{ℕ, ◌≡◌, List, [], ◌∷◌, replicate, Result, Ok, Err}
use Rattle.ring.specs.declared.refusals.Refusal.{Refusal}
use Rattle.ring.specs.declared.refusals.Refusal.TheVariants.{SerialNeverGiven, SerialRemoved, LinkLengths, ChargeRates}
use Rattle.ring.specs.Refusals.{number_of}
use Rattle.book.specs.declared.books.Book.{Book}
use Rattle.book.specs.Circuits.{desk}
use Rattle.book.specs.Books.{opened}
use Rattle.book.specs.History.{Grant, Remove, run}
use Rattle.charges.specs.Charges.{charged, book_charged}

-- "rates 30, 20, 10"
abbrev pub three_rates : List ℕ
three_rates = 30 ∷ 20 ∷ 10 ∷ []

-- n 3, w 2: order 1 joins {0,1} by the plain way, which is link 0, and order 2 the same nodes by the seam way, links 1 and 2
abbrev pub two_orders : Book
two_orders = run (opened 3 2).book (Grant 0 1 1 1 desk ∷ Grant 0 1 0 0 desk ∷ [])

-- the same book after the removal of order 1
abbrev pub one_removed : Book
one_removed = run (opened 3 2).book (Remove 1 ∷ Grant 0 1 1 1 desk ∷ Grant 0 1 0 0 desk ∷ [])

-- what order 1 pays where link 0 has so many metres
abbrev pub link_charge : ℕ → Result ℕ Refusal
link_charge m = charged two_orders 1 (m ∷ 1 ∷ 1 ∷ []) three_rates

-- "a way of 60,000 m costs 1,700 cents and 60,001 m costs 1,701"; the edges of the bands; a seam way; the book; the grounds in their order
pub record ChargeCase : Type 0 where
  pub example : link_charge 60000 ≡ Ok 1700
  pub begun : link_charge 60001 ≡ Ok 1701
  pub first_edge : link_charge 50000 ≡ Ok 1500
  pub first_past : link_charge 50001 ≡ Ok 1501
  pub second_edge : link_charge 200000 ≡ Ok 4500
  pub second_past : link_charge 200001 ≡ Ok 4501
  pub seam : charged two_orders 2 (1 ∷ 30000 ∷ 30001 ∷ []) three_rates ≡ Ok 1701
  pub both : book_charged two_orders (60000 ∷ 30000 ∷ 30001 ∷ []) three_rates ≡ Ok 3401
  pub pending_free : book_charged one_removed (60000 ∷ 30000 ∷ 30001 ∷ []) three_rates ≡ Ok 1701
  pub removed : charged one_removed 1 [] [] ≡ Err SerialRemoved
  pub was_never_given : charged two_orders 3 [] [] ≡ Err SerialNeverGiven
  pub few_lengths : charged two_orders 1 (1 ∷ 1 ∷ []) [] ≡ Err LinkLengths
  pub length_off_way : charged two_orders 1 (1 ∷ 1 ∷ 1000001 ∷ []) [] ≡ Err LinkLengths
  pub high_rate : charged two_orders 1 (1 ∷ 1 ∷ 1 ∷ []) (30 ∷ 20 ∷ 100001 ∷ []) ≡ Err ChargeRates
  pub few_rates : book_charged two_orders (1 ∷ 1 ∷ 1 ∷ []) (30 ∷ 20 ∷ []) ≡ Err ChargeRates
  pub link_lengths : number_of LinkLengths ≡ 29
  pub charge_rates : number_of ChargeRates ≡ 30

-- 255 links of 1,000 km at the greatest rate: {0,255} by the plain way on 256 nodes
abbrev pub GreatestCase : Type 0
GreatestCase =
    charged (run (opened 256 1).book (Grant 0 255 0 0 desk ∷ [])) 1 (replicate 256 1000000) (replicate 3 100000) ≡ Ok 25500000000
