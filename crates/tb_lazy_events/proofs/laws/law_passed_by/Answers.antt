use Rattle.tb_lazy_events.proofs.Visits.{passed_still, passed_silent}
use Rattle.tb_lazy_events.proofs.laws.law_passed_by.Goals as goal

pub returns-clause-still : goal.returns-clause-still
returns-clause-still c = λ tree byte key path met sized within sound off. passed_still tree byte met sized within path sound key off

pub returns-clause-silent : goal.returns-clause-silent
returns-clause-silent c = λ tree byte key path met sized within sound off. passed_silent tree byte met sized within path sound key off
