use Rattle.std.proofs.Common.{rules}
use Rattle.checker.specs.Check.{table_answer}
use Rattle.checker.proofs.NumberLaws.{served_counted}
use Rattle.checker.proofs.Plan.answer.Goals as goal

pub returns-in_err-number_verdict : goal.returns-in_err-number_verdict
unfolding table_answer
returns-in_err-number_verdict c = search rules

pub returns-in_err-conflict_verdict : goal.returns-in_err-conflict_verdict
unfolding table_answer
returns-in_err-conflict_verdict c = search rules

pub returns : goal.returns
unfolding table_answer
returns c = search (rules, served_counted c.args.self.now.numbers.now)
