-- what is confirmed has a place
use Rattle.std.proofs.Common.{sym, ◌∙◌}
use Rattle.book.proofs.Lookups.{found_place}
use Rattle.book.proofs.books.Book.confirm.Goals as goal

pub close_gap-requires : goal.close_gap-requires
close_gap-requires c =
    found_place c.args.self.now c.args.serial c.in-Some.place _ (sym c.look_up.ensures ∙ c.in-Some.is)
