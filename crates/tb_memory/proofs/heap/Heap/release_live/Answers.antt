use Rattle.std.proofs.Common.{sym, subst, Result}
use Rattle.tb_perm.specs.Release.{released, release_report}
use Rattle.tb_forest.specs.Forest.{TreeRows}
use Rattle.tb_events.specs.Memory.{RunMemory, rows_at, size_at, with_rows}
use Rattle.tb_memory.specs.declared.stop.Stop.{Stop}
use Rattle.tb_memory.specs.Calls.{tag_released}
use Rattle.tb_memory.specs.Answers.{Answers}
use Rattle.tb_memory.proofs.Answering.{tree_answers}
use Rattle.tb_memory.proofs.heap.Heap.release_live.Goals as goal

pub returns-clause-answer : goal.returns-clause-answer
returns-clause-answer g c =
    let memory : RunMemory = c.self.inside.memory in
    subst (λ (m : RunMemory). Answers (tag_released m c.args.prov) c.done_or_stop.result c.release-done.new.self) c.self.view_is
    (subst (λ (r : Result (Unit {0}) Stop). Answers (tag_released memory c.args.prov) r c.release-done.new.self) (sym c.done_or_stop.ensures)
    (tree_answers memory c.release-done.new.self (with_rows memory c.args.prov.alloc.0 (λ (tree : TreeRows). released tree.rows c.args.prov.tag.0)) c.args.prov (release_report (rows_at memory c.args.prov.alloc.0) (size_at memory c.args.prov.alloc.0) c.args.prov.tag.0) c.release-done.result tt c.release-done.ensures.answer c.release-done.ensures.moved c.release-done.ensures.refused))
