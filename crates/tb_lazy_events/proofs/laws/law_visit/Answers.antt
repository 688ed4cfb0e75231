use Rattle.tb_lazy_events.proofs.Visits.{is_visit}
use Rattle.tb_lazy_events.proofs.laws.law_visit.Goals as goal

pub returns : goal.returns
returns c = λ tree t byte path from keys met sized rows within way walk local foreign. is_visit tree byte met sized within t path from keys rows way walk local foreign
