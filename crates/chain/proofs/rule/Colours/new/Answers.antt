use Rattle.std.proofs.lemmas.List.{take-replicate}
use Rattle.chain.proofs.ColoursInUse.{none_in_use}
use Rattle.chain.proofs.rule.Colours.new.Goals as goal

pub invariant_of-result : goal.invariant_of-result
invariant_of-result c = (c.requires, none_in_use c.args.w)

pub returns : goal.returns
returns c = take-replicate c.args.w 128 0 c.requires
