use Rattle.std.proofs.Common.{◌≡◌, sym, ◌∙◌, ap, subst, true, List, Ok, Err}
use Rattle.tb_perm.specs.declared.report.TreeError.TheVariants.{Borrow}
use Rattle.tb_perm.specs.Answer.{Answers}
use Rattle.tb_perm.specs.Access.{access_event, access_report}
use Rattle.tb_forest.specs.Forest.{TreeRows, tree_at}
use Rattle.tb_events.specs.Memory.{RunMemory, rows_at, size_at, knows, reaches}
use Rattle.tb_events.specs.Sound.{IsSound}
use Rattle.tb_events.proofs.Keeping.{gone_is, gone_keeps, sized, kept_event, known_event, reached_event}
use Rattle.tb_events.proofs.memory.Memory.access.Goals as goal

pub invariant_of-self-in-Err-Memory : goal.invariant_of-self-in-Err-Memory
invariant_of-self-in-Err-Memory g c =
    gone_is (record { table = c.self.inside.store.table; contents = c.self.inside.store.contents; trees = c.self.inside.forest; tags = c.self.inside.tags; frames = c.self.inside.frames }) c.args.prov.alloc.0 c.kill.new.self.table c.kill.new.self.contents c.access.new.self c.self.invariant c.kill.ensures.table c.kill.ensures.contents (rw c.in-Err-Memory.field-0-is at c.in-Err-Memory.ensures.gone)

pub invariant_of-self : goal.invariant_of-self
invariant_of-self g c =
    subst (λ (trees : List TreeRows). IsSound (record { table = c.self.inside.store.table; contents = c.self.inside.store.contents; trees = trees; tags = c.self.inside.tags; frames = c.self.inside.frames })) (sym c.in-Ok.ensures.moved) (kept_event (record { table = c.self.inside.store.table; contents = c.self.inside.store.contents; trees = c.self.inside.forest; tags = c.self.inside.tags; frames = c.self.inside.frames }) c.args.prov (λ (tree : TreeRows). access_event c.args.prov.tag.0 c.args.lo c.args.hi c.args.kind) c.self.invariant (ap (λ (m : RunMemory). reaches m c.args.prov) c.self.view_is ∙ c.requires.prov))

pub returns-in-Ok-clause-answer : goal.returns-in-Ok-clause-answer
returns-in-Ok-clause-answer g c =
    subst (λ (m : RunMemory). Answers {T = Unit {0}} (access_report (rows_at m c.args.prov.alloc.0) (size_at m c.args.prov.alloc.0) c.args.prov.tag.0 c.args.lo c.args.hi c.args.kind) (Ok tt)) c.self.view_is
    (subst (λ size. Answers {T = Unit {0}} (access_report (tree_at c.self.inside.forest c.args.prov.alloc.0).rows size c.args.prov.tag.0 c.args.lo c.args.hi c.args.kind) (Ok tt)) (sized (record { table = c.self.inside.store.table; contents = c.self.inside.store.contents; trees = c.self.inside.forest; tags = c.self.inside.tags; frames = c.self.inside.frames }) c.args.prov c.self.invariant (ap (λ (m : RunMemory). reaches m c.args.prov) c.self.view_is ∙ c.requires.prov)) c.in-Ok.ensures.answer)

pub returns-in-Err-Borrow-clause-answer : goal.returns-in-Err-Borrow-clause-answer
returns-in-Err-Borrow-clause-answer g c =
    subst (λ (m : RunMemory). Answers {T = Unit {0}} (access_report (rows_at m c.args.prov.alloc.0) (size_at m c.args.prov.alloc.0) c.args.prov.tag.0 c.args.lo c.args.hi c.args.kind) (Err (Borrow c.in-Err-Borrow.report))) c.self.view_is
    (subst (λ size. Answers {T = Unit {0}} (access_report (tree_at c.self.inside.forest c.args.prov.alloc.0).rows size c.args.prov.tag.0 c.args.lo c.args.hi c.args.kind) (Err (Borrow c.in-Err-Borrow.report))) (sized (record { table = c.self.inside.store.table; contents = c.self.inside.store.contents; trees = c.self.inside.forest; tags = c.self.inside.tags; frames = c.self.inside.frames }) c.args.prov c.self.invariant (ap (λ (m : RunMemory). reaches m c.args.prov) c.self.view_is ∙ c.requires.prov)) (rw c.in-Err-Borrow.field-0-is at c.in-Err-Borrow.ensures.answer))

pub returns-in-Ok-clause-reached : goal.returns-in-Ok-clause-reached
returns-in-Ok-clause-reached g c =
    let memory : RunMemory = record { table = c.self.inside.store.table; contents = c.self.inside.store.contents; trees = c.self.inside.forest; tags = c.self.inside.tags; frames = c.self.inside.frames } in
    subst (λ (trees : List TreeRows). reaches (record memory { trees = trees }) c.args.prov ≡ true) (sym c.in-Ok.ensures.moved)
    (reached_event memory c.args.prov (λ (tree : TreeRows). access_event c.args.prov.tag.0 c.args.lo c.args.hi c.args.kind) c.self.invariant (ap (λ (m : RunMemory). reaches m c.args.prov) c.self.view_is ∙ c.requires.prov))

pub returns-in-Ok-clause-known : goal.returns-in-Ok-clause-known
returns-in-Ok-clause-known g c =
    λ asked.
    let memory : RunMemory = record { table = c.self.inside.store.table; contents = c.self.inside.store.contents; trees = c.self.inside.forest; tags = c.self.inside.tags; frames = c.self.inside.frames } in
    subst (λ (trees : List TreeRows). knows (record memory { trees = trees }) asked ≡ knows memory asked) (sym c.in-Ok.ensures.moved)
    (known_event memory c.args.prov (λ (tree : TreeRows). access_event c.args.prov.tag.0 c.args.lo c.args.hi c.args.kind) c.self.invariant (ap (λ (m : RunMemory). reaches m c.args.prov) c.self.view_is ∙ c.requires.prov) asked)
    ∙ ap (λ (m : RunMemory). knows m asked) c.self.view_is

pub returns-in-Ok-clause-keeps : goal.returns-in-Ok-clause-keeps
returns-in-Ok-clause-keeps g c = λ asked h. returns-in-Ok-clause-known g c asked ∙ h

pub returns-in-Err-Memory-clause-keeps : goal.returns-in-Err-Memory-clause-keeps
returns-in-Err-Memory-clause-keeps g c =
    λ asked h. gone_keeps (record { table = c.self.inside.store.table; contents = c.self.inside.store.contents; trees = c.self.inside.forest; tags = c.self.inside.tags; frames = c.self.inside.frames }) c.args.prov.alloc.0 c.kill.new.self.table c.kill.new.self.contents c.access.new.self c.self.invariant c.kill.ensures.table (rw c.in-Err-Memory.field-0-is at c.in-Err-Memory.ensures.gone) asked (ap (λ (m : RunMemory). knows m asked) c.self.view_is ∙ h)
