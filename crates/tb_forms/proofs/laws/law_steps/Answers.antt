use Rattle.tb_forms.proofs.Begins.{step-levels, step-operands}
use Rattle.tb_forms.proofs.StepSound.{step-sound}
use Rattle.tb_forms.proofs.StepComplete.{step-complete}
use Rattle.tb_forms.proofs.laws.law_steps.Goals as goal

pub returns-clause-sound : goal.returns-clause-sound
returns-clause-sound c = step-sound

pub returns-clause-complete : goal.returns-clause-complete
returns-clause-complete c = step-complete

pub returns-clause-levels : goal.returns-clause-levels
returns-clause-levels c = step-levels

pub returns-clause-operands : goal.returns-clause-operands
returns-clause-operands c = step-operands
