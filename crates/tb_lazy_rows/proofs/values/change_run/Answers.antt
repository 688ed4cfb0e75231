use Rattle.std.proofs.Common.{◌∙◌}
use Rattle.std.proofs.lemmas.Result.{on_ok_weaker}
use Rattle.tb_lazy_rows.proofs.Changes.{changed_some}
use Rattle.tb_lazy_rows.proofs.values.change_run.Goals as goal

pub returns-clause-changed : goal.returns-clause-changed
returns-clause-changed g c =
    on_ok_weaker c.change_between.result (λ is. λ kinds old meets before.
    changed_some (g.B.ByKind.by c.args.by.now) kinds c.in-Some.kind c.args.run.now.lo c.args.run.now.hi old c.args.values.now c.change_between.new.values c.requires.order c.requires.within (λ byte above below. meets byte above below ∙ c.in-Some.is) is before)
    c.change_between.ensures.changed
