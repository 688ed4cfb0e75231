use Rattle.std.proofs.Common.{◌≡◌, sym, ◌∙◌, ap, subst, List, Ok, Err}
use Rattle.tb_perm.specs.declared.report.TreeError.TheVariants.{Borrow}
use Rattle.tb_perm.specs.Answer.{Answers}
use Rattle.tb_perm.specs.Release.{release_event, release_report}
use Rattle.tb_forest.specs.Forest.{TreeRows, tree_at}
use Rattle.tb_events.specs.Memory.{RunMemory, rows_at, size_at, knows, reaches}
use Rattle.tb_events.specs.Sound.{IsSound}
use Rattle.tb_events.proofs.Keeping.{gone_is, gone_keeps, sized, kept_event, known_event}
use Rattle.tb_events.proofs.memory.Memory.release.Goals as goal

pub invariant_of-self-in-Err-Memory : goal.invariant_of-self-in-Err-Memory
invariant_of-self-in-Err-Memory g c =
    gone_is (record { table = c.self.inside.store.table; contents = c.self.inside.store.contents; trees = c.self.inside.forest; tags = c.self.inside.tags; frames = c.self.inside.frames }) c.args.prov.alloc.0 c.kill.new.self.table c.kill.new.self.contents c.release.new.self c.self.invariant c.kill.ensures.table c.kill.ensures.contents (rw c.in-Err-Memory.field-0-is at c.in-Err-Memory.ensures.gone)

pub invariant_of-self : goal.invariant_of-self
invariant_of-self g c =
    let memory : RunMemory = record { table = c.self.inside.store.table; contents = c.self.inside.store.contents; trees = c.self.inside.forest; tags = c.self.inside.tags; frames = c.self.inside.frames } in
    subst (λ (trees : List TreeRows). IsSound (record memory { trees = trees })) (sym c.in-Ok.ensures.moved)
    (kept_event memory c.args.prov (λ (tree : TreeRows). release_event tree.rows c.args.prov.tag.0) c.self.invariant (ap (λ (m : RunMemory). reaches m c.args.prov) c.self.view_is ∙ c.requires))

pub returns-in-Ok-clause-answer : goal.returns-in-Ok-clause-answer
returns-in-Ok-clause-answer g c =
    subst (λ (m : RunMemory). Answers (release_report (rows_at m c.args.prov.alloc.0) (size_at m c.args.prov.alloc.0) c.args.prov.tag.0) (Ok tt)) c.self.view_is
    (subst (λ size. Answers (release_report (tree_at c.self.inside.forest c.args.prov.alloc.0).rows size c.args.prov.tag.0) (Ok tt)) (sized (record { table = c.self.inside.store.table; contents = c.self.inside.store.contents; trees = c.self.inside.forest; tags = c.self.inside.tags; frames = c.self.inside.frames }) c.args.prov c.self.invariant (ap (λ (m : RunMemory). reaches m c.args.prov) c.self.view_is ∙ c.requires)) c.in-Ok.ensures.answer)

pub returns-in-Err-Borrow-clause-answer : goal.returns-in-Err-Borrow-clause-answer
returns-in-Err-Borrow-clause-answer g c =
    subst (λ (m : RunMemory). Answers {T = Unit {0}} (release_report (rows_at m c.args.prov.alloc.0) (size_at m c.args.prov.alloc.0) c.args.prov.tag.0) (Err (Borrow c.in-Err-Borrow.report))) c.self.view_is
    (subst (λ size. Answers {T = Unit {0}} (release_report (tree_at c.self.inside.forest c.args.prov.alloc.0).rows size c.args.prov.tag.0) (Err (Borrow c.in-Err-Borrow.report))) (sized (record { table = c.self.inside.store.table; contents = c.self.inside.store.contents; trees = c.self.inside.forest; tags = c.self.inside.tags; frames = c.self.inside.frames }) c.args.prov c.self.invariant (ap (λ (m : RunMemory). reaches m c.args.prov) c.self.view_is ∙ c.requires)) (rw c.in-Err-Borrow.field-0-is at c.in-Err-Borrow.ensures.answer))

pub returns-in-Ok-clause-keeps : goal.returns-in-Ok-clause-keeps
returns-in-Ok-clause-keeps g c =
    λ asked h.
    let memory : RunMemory = record { table = c.self.inside.store.table; contents = c.self.inside.store.contents; trees = c.self.inside.forest; tags = c.self.inside.tags; frames = c.self.inside.frames } in
    subst (λ (trees : List TreeRows). knows (record memory { trees = trees }) asked ≡ knows memory asked) (sym c.in-Ok.ensures.moved)
    (known_event memory c.args.prov (λ (tree : TreeRows). release_event tree.rows c.args.prov.tag.0) c.self.invariant (ap (λ (m : RunMemory). reaches m c.args.prov) c.self.view_is ∙ c.requires) asked)
    ∙ ap (λ (m : RunMemory). knows m asked) c.self.view_is ∙ h

pub returns-in-Err-Memory-clause-keeps : goal.returns-in-Err-Memory-clause-keeps
returns-in-Err-Memory-clause-keeps g c =
    λ asked h. gone_keeps (record { table = c.self.inside.store.table; contents = c.self.inside.store.contents; trees = c.self.inside.forest; tags = c.self.inside.tags; frames = c.self.inside.frames }) c.args.prov.alloc.0 c.kill.new.self.table c.kill.new.self.contents c.release.new.self c.self.invariant c.kill.ensures.table (rw c.in-Err-Memory.field-0-is at c.in-Err-Memory.ensures.gone) asked (ap (λ (m : RunMemory). knows m asked) c.self.view_is ∙ h)
