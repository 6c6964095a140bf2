-- The table of cases, proved.
use mathlib.Core.Path.{refl}
use Rattle.cases.specs.Table.{Table}
use Rattle.cases.proofs.Plans.{plans_t1, feasible_t1, exactly_t1, plans_t2, plans_t3, numbers_t3, plans_t4, plans_t5, plans_t6}
use Rattle.cases.proofs.Texts.{prints_t1, refused_t10, passes_t10, refusal_line_t10, passing_line_t10}
use Rattle.cases.proofs.Book.{t7, t8, t9}

pub table : Table
table = record {
  t1 = record { plans = plans_t1; feasible = feasible_t1; serves = exactly_t1.0; exactly = exactly_t1.1; prints = prints_t1 };
  t2 = record { plans = plans_t2 };
  t3 = record { plans = plans_t3; numbers = numbers_t3 };
  t4 = record { plans = plans_t4 };
  t5 = record { plans = plans_t5 };
  t6 = record { plans = plans_t6 };
  t7 = t7;
  t8 = t8;
  t9 = t9;
  t10 = record {
    refused = refused_t10;
    refusal_number = refl;
    refusal_requests = refl;
    passes = passes_t10;
    line_of_refusal = refusal_line_t10;
    passing_line = passing_line_t10;
  };
}
