use Rattle.tb_lazy_events.proofs.Seen.{marked}
use Rattle.tb_lazy_events.proofs.laws.law_marked.Goals as goal

pub returns : goal.returns
returns c = λ tree size byte tag kind rows is rising sound leaves. marked tree size byte tag kind rows is sound leaves rising
