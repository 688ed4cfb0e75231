use Rattle.std.proofs.Common.{◌≡◌, sym, ◌∙◌, ap, subst, ◌+◌, true, List, Ok, Err}
use Rattle.tb_perm.specs.declared.report.Report.{Report}
use Rattle.tb_perm.specs.declared.report.TreeError.TheVariants.{Borrow}
use Rattle.tb_perm.specs.Answer.{Answers}
use Rattle.tb_perm.specs.Reborrow.{reborrowed, reborrow_report}
use Rattle.tb_forest.specs.Forest.{TreeRows, tree_at, changed}
use Rattle.tb_events.specs.Memory.{RunMemory, rows_at, size_at, knows, reaches, without}
use Rattle.tb_events.specs.Calls.{prov_parent}
use Rattle.tb_events.specs.Sound.{IsSound}
use Rattle.tb_events.proofs.Keeping.{gone_is, gone_keeps, sized, kept_gone, still_knows}
use Rattle.tb_events.proofs.Drawing.{fresh, undone, kept_tag, tag_knows}
use Rattle.tb_events.proofs.memory.Memory.reborrow.Goals as goal

pub guard_made-requires-clause-fresh : goal.guard_made-requires-clause-fresh
guard_made-requires-clause-fresh g c =
    let memory : RunMemory = record { table = c.self.inside.store.table; contents = c.self.inside.store.contents; trees = c.self.inside.forest; tags = c.self.inside.tags; frames = c.self.inside.frames } in
    fresh memory c.args.alloc c.args.new c.self.invariant (ap (λ (m : RunMemory). reaches m (prov_parent c.args.alloc c.args.new)) c.self.view_is ∙ c.requires.parent) (c.requires.next ∙ sym (ap (λ (m : RunMemory). m.tags + 1) c.self.view_is))

pub invariant_of-self : goal.invariant_of-self
invariant_of-self g c =
    let memory : RunMemory = record { table = c.self.inside.store.table; contents = c.self.inside.store.contents; trees = c.self.inside.forest; tags = c.self.inside.tags; frames = c.self.inside.frames } in
    let next : c.args.new.tag.0 ≡ memory.tags + 1 = c.requires.next ∙ sym (ap (λ (m : RunMemory). m.tags + 1) c.self.view_is) in
    subst (λ (trees : List TreeRows). IsSound (record memory { trees = trees; tags = c.args.new.tag.0; frames = c.guard_made.new.frames })) (sym c.in-Ok.ensures.moved)
    (subst (λ n. IsSound (record memory { trees = changed memory.trees c.args.alloc.0 (λ (tree : TreeRows). reborrowed tree.rows tree.size c.args.new); tags = n; frames = c.guard_made.new.frames })) (sym next)
    (kept_tag memory c.args.alloc c.args.new c.guard_made.new.frames c.self.invariant (ap (λ (m : RunMemory). reaches m (prov_parent c.args.alloc c.args.new)) c.self.view_is ∙ c.requires.parent) next c.in-Ok-guard_made.ensures.kinds))

pub invariant_of-self-in-Err : goal.invariant_of-self-in-Err
invariant_of-self-in-Err g c =
    let memory : RunMemory = record { table = c.self.inside.store.table; contents = c.self.inside.store.contents; trees = c.self.inside.forest; tags = c.self.inside.tags; frames = c.self.inside.frames } in
    subst IsSound (sym (undone memory c.args.alloc.0 (λ (tree : TreeRows). reborrowed tree.rows tree.size c.args.new) c.kill.new.self.table c.kill.new.self.contents c.retag.new.self c.clear.new.self c.guard_made.new.frames
    c.kill.ensures.table c.kill.ensures.contents c.in-Ok.ensures.moved c.clear.ensures c.in-Err.ensures.err))
    (kept_gone memory c.args.alloc.0 c.self.invariant)

pub invariant_of-self-in-Err-Memory : goal.invariant_of-self-in-Err-Memory
invariant_of-self-in-Err-Memory g c =
    gone_is (record { table = c.self.inside.store.table; contents = c.self.inside.store.contents; trees = c.self.inside.forest; tags = c.self.inside.tags; frames = c.self.inside.frames }) c.args.alloc.0 c.kill-in-Err-Memory.new.self.table c.kill-in-Err-Memory.new.self.contents c.retag.new.self c.self.invariant c.kill-in-Err-Memory.ensures.table c.kill-in-Err-Memory.ensures.contents (rw c.in-Err-Memory.field-0-is at c.in-Err-Memory.ensures.gone)

pub returns-in-Ok-guard_made-clause-answer : goal.returns-in-Ok-guard_made-clause-answer
returns-in-Ok-guard_made-clause-answer g c =
    subst (λ (m : RunMemory). Answers (reborrow_report (rows_at m c.args.alloc.0) (size_at m c.args.alloc.0) c.args.new) (Ok tt)) c.self.view_is
    (subst (λ size. Answers (reborrow_report (tree_at c.self.inside.forest c.args.alloc.0).rows size c.args.new) (Ok tt)) (sized (record { table = c.self.inside.store.table; contents = c.self.inside.store.contents; trees = c.self.inside.forest; tags = c.self.inside.tags; frames = c.self.inside.frames }) (prov_parent c.args.alloc c.args.new) c.self.invariant (ap (λ (m : RunMemory). reaches m (prov_parent c.args.alloc c.args.new)) c.self.view_is ∙ c.requires.parent)) c.in-Ok.ensures.answer)

pub returns-in-Ok-guard_made-clause-keeps : goal.returns-in-Ok-guard_made-clause-keeps
returns-in-Ok-guard_made-clause-keeps g c =
    λ asked h.
    let memory : RunMemory = record { table = c.self.inside.store.table; contents = c.self.inside.store.contents; trees = c.self.inside.forest; tags = c.self.inside.tags; frames = c.self.inside.frames } in
    subst (λ (trees : List TreeRows). knows (record memory { trees = trees }) asked ≡ true) (sym c.in-Ok.ensures.moved)
    (tag_knows memory c.args.alloc c.args.new c.guard_made.new.frames c.self.invariant (ap (λ (m : RunMemory). reaches m (prov_parent c.args.alloc c.args.new)) c.self.view_is ∙ c.requires.parent)
    (c.requires.next ∙ sym (ap (λ (m : RunMemory). m.tags + 1) c.self.view_is)) c.in-Ok-guard_made.ensures.kinds asked (ap (λ (m : RunMemory). knows m asked) c.self.view_is ∙ h))

pub returns-in-Err-clause-gone : goal.returns-in-Err-clause-gone
returns-in-Err-clause-gone g c =
    undone (record { table = c.self.inside.store.table; contents = c.self.inside.store.contents; trees = c.self.inside.forest; tags = c.self.inside.tags; frames = c.self.inside.frames }) c.args.alloc.0 (λ (tree : TreeRows). reborrowed tree.rows tree.size c.args.new) c.kill.new.self.table c.kill.new.self.contents c.retag.new.self c.clear.new.self c.guard_made.new.frames
    c.kill.ensures.table c.kill.ensures.contents c.in-Ok.ensures.moved c.clear.ensures c.in-Err.ensures.err
    ∙ ap (λ (m : RunMemory). without m c.args.alloc.0) c.self.view_is

pub returns-in-Err-clause-keeps : goal.returns-in-Err-clause-keeps
returns-in-Err-clause-keeps g c =
    λ asked h.
    let memory : RunMemory = record { table = c.self.inside.store.table; contents = c.self.inside.store.contents; trees = c.self.inside.forest; tags = c.self.inside.tags; frames = c.self.inside.frames } in
    subst (λ (m : RunMemory). knows m asked ≡ true) (sym (undone memory c.args.alloc.0 (λ (tree : TreeRows). reborrowed tree.rows tree.size c.args.new) c.kill.new.self.table c.kill.new.self.contents c.retag.new.self c.clear.new.self c.guard_made.new.frames
    c.kill.ensures.table c.kill.ensures.contents c.in-Ok.ensures.moved c.clear.ensures c.in-Err.ensures.err))
    (still_knows memory c.args.alloc.0 c.self.invariant asked (ap (λ (m : RunMemory). knows m asked) c.self.view_is ∙ h))

pub returns-in-Err-Borrow-clause-answer : goal.returns-in-Err-Borrow-clause-answer
returns-in-Err-Borrow-clause-answer g c =
    subst (λ (r : Report). Answers {T = Unit {0}} (reborrow_report (rows_at c.args.self.now c.args.alloc.0) (size_at c.args.self.now c.args.alloc.0) c.args.new) (Err (Borrow r))) (sym c.in-Err-Borrow.report-is)
    (subst (λ (m : RunMemory). Answers {T = Unit {0}} (reborrow_report (rows_at m c.args.alloc.0) (size_at m c.args.alloc.0) c.args.new) (Err (Borrow c.in-Err-Borrow.report))) c.self.view_is
    (subst (λ size. Answers {T = Unit {0}} (reborrow_report (tree_at c.self.inside.forest c.args.alloc.0).rows size c.args.new) (Err (Borrow c.in-Err-Borrow.report))) (sized (record { table = c.self.inside.store.table; contents = c.self.inside.store.contents; trees = c.self.inside.forest; tags = c.self.inside.tags; frames = c.self.inside.frames }) (prov_parent c.args.alloc c.args.new) c.self.invariant (ap (λ (m : RunMemory). reaches m (prov_parent c.args.alloc c.args.new)) c.self.view_is ∙ c.requires.parent)) (rw c.in-Err-Borrow.field-0-is at c.in-Err-Borrow.ensures.answer)))

pub returns-in-Err-Memory-clause-keeps : goal.returns-in-Err-Memory-clause-keeps
returns-in-Err-Memory-clause-keeps g c =
    λ asked h. gone_keeps (record { table = c.self.inside.store.table; contents = c.self.inside.store.contents; trees = c.self.inside.forest; tags = c.self.inside.tags; frames = c.self.inside.frames }) c.args.alloc.0 c.kill-in-Err-Memory.new.self.table c.kill-in-Err-Memory.new.self.contents c.retag.new.self c.self.invariant c.kill-in-Err-Memory.ensures.table (rw c.in-Err-Memory.field-0-is at c.in-Err-Memory.ensures.gone) asked (ap (λ (m : RunMemory). knows m asked) c.self.view_is ∙ h)
