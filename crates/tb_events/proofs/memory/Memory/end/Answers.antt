use Rattle.std.proofs.Common.{◌∙◌, ap, subst, Ok, Err}
use Rattle.tb_perm.specs.declared.report.TreeError.TheVariants.{Borrow}
use Rattle.tb_perm.specs.Answer.{Answers}
use Rattle.tb_perm.specs.Deallocation.{dealloc_report}
use Rattle.tb_forest.specs.Forest.{tree_at}
use Rattle.tb_events.specs.Memory.{RunMemory, rows_at, size_at, reaches}
use Rattle.tb_events.proofs.Keeping.{gone_is, sized}
use Rattle.tb_events.proofs.memory.Memory.end.Goals as goal

pub invariant_of-self-in-Err-Memory : goal.invariant_of-self-in-Err-Memory
invariant_of-self-in-Err-Memory g c =
    gone_is (record { table = c.self.inside.store.table; contents = c.self.inside.store.contents; trees = c.self.inside.forest; tags = c.self.inside.tags; frames = c.self.inside.frames }) c.args.prov.alloc.0 c.kill-in-Err-Memory.new.self.table c.kill-in-Err-Memory.new.self.contents c.fell.new.self c.self.invariant c.kill-in-Err-Memory.ensures.table c.kill-in-Err-Memory.ensures.contents (rw c.in-Err-Memory.field-0-is at c.in-Err-Memory.ensures.gone)

pub invariant_of-self : goal.invariant_of-self
invariant_of-self g c = gone_is (record { table = c.self.inside.store.table; contents = c.self.inside.store.contents; trees = c.self.inside.forest; tags = c.self.inside.tags; frames = c.self.inside.frames }) c.args.prov.alloc.0 c.kill.new.self.table c.kill.new.self.contents c.fell.new.self c.self.invariant c.kill.ensures.table c.kill.ensures.contents c.in-Ok.ensures.done

pub returns-in-Ok-clause-answer : goal.returns-in-Ok-clause-answer
returns-in-Ok-clause-answer g c =
    subst (λ (m : RunMemory). Answers {T = Unit {0}} (dealloc_report (rows_at m c.args.prov.alloc.0) (size_at m c.args.prov.alloc.0) c.args.prov.tag.0) (Ok tt)) c.self.view_is
    (subst (λ size. Answers {T = Unit {0}} (dealloc_report (tree_at c.self.inside.forest c.args.prov.alloc.0).rows size c.args.prov.tag.0) (Ok tt)) (sized (record { table = c.self.inside.store.table; contents = c.self.inside.store.contents; trees = c.self.inside.forest; tags = c.self.inside.tags; frames = c.self.inside.frames }) c.args.prov c.self.invariant (ap (λ (m : RunMemory). reaches m c.args.prov) c.self.view_is ∙ c.requires)) c.in-Ok.ensures.answer)

pub returns-in-Err-Borrow-clause-answer : goal.returns-in-Err-Borrow-clause-answer
returns-in-Err-Borrow-clause-answer g c =
    subst (λ (m : RunMemory). Answers {T = Unit {0}} (dealloc_report (rows_at m c.args.prov.alloc.0) (size_at m c.args.prov.alloc.0) c.args.prov.tag.0) (Err (Borrow c.in-Err-Borrow.report))) c.self.view_is
    (subst (λ size. Answers {T = Unit {0}} (dealloc_report (tree_at c.self.inside.forest c.args.prov.alloc.0).rows size c.args.prov.tag.0) (Err (Borrow c.in-Err-Borrow.report))) (sized (record { table = c.self.inside.store.table; contents = c.self.inside.store.contents; trees = c.self.inside.forest; tags = c.self.inside.tags; frames = c.self.inside.frames }) c.args.prov c.self.invariant (ap (λ (m : RunMemory). reaches m c.args.prov) c.self.view_is ∙ c.requires)) (rw c.in-Err-Borrow.field-0-is at c.in-Err-Borrow.ensures.answer))
