use Rattle.std.proofs.Common.{ap, length, ◌-◌}
use Rattle.book.specs.Books.{records_of}
use Rattle.book.proofs.Shifts.{gap_closed}
use Rattle.book.proofs.books.Book.close_gap.Goals as goal

pub returns : goal.returns
returns c =
    rw (c.copy_within.ensures.after, c.record_count-count.ensures.0, c.vacant.ensures)
    (ap (λ places. record {
      n = c.args.self.now.n;
      w = c.args.self.now.w;
      grants = c.args.self.now.grants;
      records = length (records_of c.args.self.now) - 1;
      places = places;
    }) (gap_closed c.args.self.now c.args.place c.requires))
