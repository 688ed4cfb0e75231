use Rattle.std.proofs.Common.{sym, subst, Some, Result}
use Rattle.tb_perm.specs.Deallocation.{dealloc_report}
use Rattle.tb_events.specs.Memory.{RunMemory, rows_at, size_at, without}
use Rattle.tb_memory.specs.declared.stop.Stop.{Stop}
use Rattle.tb_memory.specs.Heap.{ended}
use Rattle.tb_memory.specs.Answers.{Answers}
use Rattle.tb_memory.proofs.Answering.{tree_answers}
use Rattle.tb_memory.proofs.heap.Heap.finish.Goals as goal

pub returns-clause-answer : goal.returns-clause-answer
returns-clause-answer g c =
    let memory : RunMemory = c.self.inside.memory in
    subst (λ (m : RunMemory). Answers (ended m (Some c.args.prov)) c.done_or_stop.result c.end-done.new.self) c.self.view_is
    (subst (λ (r : Result (Unit {0}) Stop). Answers (ended memory (Some c.args.prov)) r c.end-done.new.self) (sym c.done_or_stop.ensures)
    (tree_answers memory c.end-done.new.self (without memory c.args.prov.alloc.0) c.args.prov (dealloc_report (rows_at memory c.args.prov.alloc.0) (size_at memory c.args.prov.alloc.0) c.args.prov.tag.0) c.end-done.result tt c.end-done.ensures.answer c.end-done.ensures.done c.end-done.ensures.refused))
