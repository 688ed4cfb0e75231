use Rattle.tb_plain.proofs.Notes.{IsTree-plain}
use Rattle.tb_plain.proofs.plain_tree.PlainTreePruneTree.remove.Goals as goal

pub returns-clause-sound : goal.returns-clause-sound
returns-clause-sound c = IsTree-plain _ _ _ c.remove_in.ensures.plain
