use Rattle.tb_stands.proofs.One.{one_folded}
use Rattle.tb_stands.proofs.FoldLaws.{left_one}
use Rattle.tb_stands.proofs.Computes.{computes, left_list}
use Rattle.tb_stands.proofs.folding.law_folded.Goals as goal

pub returns-clause-computes : goal.returns-clause-computes
returns-clause-computes c = computes

pub returns-clause-one : goal.returns-clause-one
returns-clause-one c size rows reached a b is = one_folded size rows reached is a b

pub returns-clause-left : goal.returns-clause-left
returns-clause-left c = left_one

pub returns-clause-list : goal.returns-clause-list
returns-clause-list c size rows left reached is = left_list size rows reached is left
