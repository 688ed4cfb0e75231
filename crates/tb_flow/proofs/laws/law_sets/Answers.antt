use Rattle.tb_flow.proofs.AllWays.{leads_possible}
use Rattle.tb_flow.proofs.Least.{solve}
use Rattle.tb_flow.proofs.laws.law_sets.Goals as goal

pub returns-clause-ways : goal.returns-clause-ways
returns-clause-ways c = leads_possible

pub returns-clause-least : goal.returns-clause-least
returns-clause-least c = solve
