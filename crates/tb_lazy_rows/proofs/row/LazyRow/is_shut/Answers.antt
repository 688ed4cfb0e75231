use Rattle.std.proofs.Common.{rules}
use Rattle.tb_marks.specs.Event.{leaves_at}
use Rattle.tb_lazy_rows.proofs.row.LazyRow.is_shut.Goals as goal

pub returns : goal.returns
returns c = c.all_with.ensures (λ mark kind. leaves_at kind mark) (λ mark kind b post. search rules)
