use Rattle.tb_stands.proofs.FoldLaws.{left_same, left_stands}
use Rattle.tb_stands.proofs.OwnRows.{stands_rows, folded_same}
use Rattle.tb_stands.proofs.folding.law_pruned.Goals as goal

pub returns-clause-rows : goal.returns-clause-rows
returns-clause-rows c = stands_rows

pub returns-clause-tags : goal.returns-clause-tags
returns-clause-tags c = folded_same

pub returns-clause-same : goal.returns-clause-same
returns-clause-same c = left_same

pub returns-clause-stands : goal.returns-clause-stands
returns-clause-stands c = left_stands
