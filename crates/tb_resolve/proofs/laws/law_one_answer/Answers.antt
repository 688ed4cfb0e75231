use Rattle.tb_resolve.proofs.Resolving.{same_names, one_fault, not_both}
use Rattle.tb_resolve.proofs.laws.law_one_answer.Goals as goal

pub returns-clause-names : goal.returns-clause-names
returns-clause-names c = λ tree one other a b. same_names tree.items one other a b

pub returns-clause-fault : goal.returns-clause-fault
returns-clause-fault c = λ tree found other a b. one_fault tree found other a b

pub returns-clause-either : goal.returns-clause-either
returns-clause-either c = λ tree found a b. not_both tree found a b
