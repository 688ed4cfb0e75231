use Rattle.tb_parse.proofs.Spelled.{tree-spelled}
use Rattle.tb_parse.proofs.One.{one-tree}
use Rattle.tb_parse.proofs.laws.law_one_tree.Goals as goal

pub returns-clause-one : goal.returns-clause-one
returns-clause-one c = one-tree

pub returns-clause-tokens : goal.returns-clause-tokens
returns-clause-tokens c = tree-spelled
