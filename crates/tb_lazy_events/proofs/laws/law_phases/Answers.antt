use Rattle.tb_lazy_events.proofs.Phases.{lowering_stage, moving_stage, raising_stage}
use Rattle.tb_lazy_events.proofs.laws.law_phases.Goals as goal

pub returns-clause-lowering : goal.returns-clause-lowering
returns-clause-lowering c = lowering_stage

pub returns-clause-moving : goal.returns-clause-moving
returns-clause-moving c = moving_stage

pub returns-clause-raising : goal.returns-clause-raising
returns-clause-raising c = raising_stage
