use Rattle.std.proofs.Common.{sym, subst, ℕ, Some, Result}
use Rattle.tb_perm.specs.Access.{accessed, access_report}
use Rattle.tb_forest.specs.Forest.{TreeRows}
use Rattle.tb_events.specs.Memory.{RunMemory, rows_at, size_at, with_rows}
use Rattle.tb_memory.specs.declared.stop.Stop.{Stop}
use Rattle.tb_memory.specs.Heap.{Done, unless_refused, through}
use Rattle.tb_memory.specs.Answers.{Answers, told}
use Rattle.tb_memory.proofs.Answering.{tree_answers}
use Rattle.tb_memory.proofs.heap.Heap.through.Goals as goal

pub returns-clause-answer : goal.returns-clause-answer
returns-clause-answer g c =
    let memory : RunMemory = c.self.inside.memory in
    subst (λ (m : RunMemory). Answers (through m (Some c.args.prov) c.args.offset c.args.size c.args.kind) c.place_or_stop.result c.access-done.new.self) c.self.view_is
    (subst (λ (r : Result ℕ Stop). Answers (through memory (Some c.args.prov) c.args.offset c.args.size c.args.kind) r c.access-done.new.self) (sym c.place_or_stop.ensures)
    (subst (λ end. Answers (unless_refused memory c.args.prov (access_report (rows_at memory c.args.prov.alloc.0) (size_at memory c.args.prov.alloc.0) c.args.prov.tag.0 c.args.offset end c.args.kind) (Done (with_rows memory c.args.prov.alloc.0 (λ (tree : TreeRows). accessed tree.rows c.args.prov.tag.0 c.args.offset end c.args.kind)) c.args.offset)) (told c.args.prov.alloc c.args.offset c.access-done.result) c.access-done.new.self) c.end_of-end.ensures
    (tree_answers memory c.access-done.new.self (with_rows memory c.args.prov.alloc.0 (λ (tree : TreeRows). accessed tree.rows c.args.prov.tag.0 c.args.offset c.end_of-end.result c.args.kind)) c.args.prov
    (access_report (rows_at memory c.args.prov.alloc.0) (size_at memory c.args.prov.alloc.0) c.args.prov.tag.0 c.args.offset c.end_of-end.result c.args.kind) c.access-done.result c.args.offset c.access-done.ensures.answer c.access-done.ensures.moved c.access-done.ensures.refused)))
