use Rattle.tb_flow.proofs.Firsts.{first_yes, first_part}
use Rattle.tb_flow.proofs.laws.law_summaries.Goals as goal

pub returns-clause-yes : goal.returns-clause-yes
returns-clause-yes c = first_yes

pub returns-clause-part : goal.returns-clause-part
returns-clause-part c = first_part
