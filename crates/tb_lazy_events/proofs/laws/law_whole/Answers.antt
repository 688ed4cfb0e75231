use Rattle.tb_lazy_events.proofs.Visits.{walk_moves, walk_silent}
use Rattle.tb_lazy_events.proofs.laws.law_whole.Goals as goal

pub returns-clause-moved : goal.returns-clause-moved
returns-clause-moved c = λ tree byte key path from keys met sized within walk sound there met_by. walk_moves tree byte met sized within path from keys walk sound key there met_by

pub returns-clause-silent : goal.returns-clause-silent
returns-clause-silent c = λ tree byte key path from keys met sized within walk sound there met_by rows local foreign. walk_silent tree byte met sized within path from keys walk sound key there met_by rows local foreign
