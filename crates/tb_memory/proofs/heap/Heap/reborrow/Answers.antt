use Rattle.std.proofs.Common.{sym, subst, Some, Result}
use Rattle.tb_perm.specs.declared.new_tag.NewTag.{NewTag}
use Rattle.tb_perm.specs.Reborrow.{reborrow_report}
use Rattle.tb_alloc.specs.declared.ptr.Ptr.{Ptr}
use Rattle.tb_new_tag.specs.NewTags.{tag_of}
use Rattle.tb_events.specs.Memory.{RunMemory, rows_at, size_at}
use Rattle.tb_events.specs.Calls.{prov_made, with_tag}
use Rattle.tb_memory.specs.declared.stop.Stop.{Stop}
use Rattle.tb_memory.specs.Retags.{reborrowed}
use Rattle.tb_memory.specs.Answers.{Answers, told}
use Rattle.tb_memory.proofs.Answering.{tree_answers}
use Rattle.tb_memory.proofs.heap.Heap.reborrow.Goals as goal

pub returns-clause-answer : goal.returns-clause-answer
returns-clause-answer g c =
    let memory : RunMemory = c.self.inside.memory in
    let wanted : NewTag = tag_of c.args.types.now c.args.how c.args.place.parent c.args.place.tag c.args.place.offset c.args.place.made in
    subst (λ (m : RunMemory). Answers (reborrowed m c.args.addr c.args.prov wanted) c.reborrow_or_stop.result c.reborrow-done.new.self) c.self.view_is
    (subst (λ (r : Result Ptr Stop). Answers (reborrowed memory c.args.addr c.args.prov wanted) r c.reborrow-done.new.self) (sym c.reborrow_or_stop.ensures)
    (subst (λ (new : NewTag). Answers (reborrowed memory c.args.addr c.args.prov new) (told c.args.prov.alloc (record { addr = c.args.addr; prov = Some (prov_made c.args.prov.alloc new) }) c.reborrow-done.result) c.reborrow-done.new.self) c.in-Ok.ensures.value
    (tree_answers memory c.reborrow-done.new.self (with_tag memory c.args.prov.alloc c.in-Ok.new) c.args.prov (reborrow_report (rows_at memory c.args.prov.alloc.0) (size_at memory c.args.prov.alloc.0) c.in-Ok.new) c.reborrow-done.result
    (record { addr = c.args.addr; prov = Some (prov_made c.args.prov.alloc c.in-Ok.new) }) c.reborrow-done.ensures.answer c.reborrow-done.ensures.moved c.reborrow-done.ensures.refused)))
