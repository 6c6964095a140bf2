use Rattle.texts.proofs.writing.Writer.+long.Given as goal

abbrev pub decreases-long : goal.decreases-long
decreases-long l = l.n
