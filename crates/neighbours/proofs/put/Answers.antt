use Rattle.neighbours.proofs.NodeSetLaws.{put_row}
use Rattle.neighbours.proofs.put.Goals as goal

pub returns : goal.returns
returns c = put_row _ _ _ c.requires.0 c.requires.1 _ c.add.ensures.0 c.add.ensures.1
