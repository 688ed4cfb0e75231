use Rattle.std.proofs.Common.{◌≡◌, sym, ◌∙◌, ap, subst, true, List}
use Rattle.std.specs.List.{AllByRecursion}
use Rattle.tb_perm.specs.declared.tag.Prov.{Prov}
use Rattle.tb_alloc.specs.declared.allocation.Allocation.{Allocation}
use Rattle.tb_forest.specs.Forest.{TreeRows}
use Rattle.tb_events.specs.Memory.{RunMemory, knows}
use Rattle.tb_events.specs.Calls.{guarded_now, without_guards}
use Rattle.tb_events.specs.Guarding.{IsThere}
use Rattle.tb_events.specs.Sound.{IsSound}
use Rattle.tb_events.proofs.Ending.{all_there, kept_call, call_knows}
use Rattle.tb_events.proofs.memory.Memory.finish_call.Goals as goal

pub unguard_all-requires : goal.unguard_all-requires
unguard_all-requires g c =
    let memory : RunMemory = record { table = c.self.inside.store.table; contents = c.self.inside.store.contents; trees = c.self.inside.forest; tags = c.self.inside.tags; frames = c.self.inside.frames } in
    subst (λ (table : List Allocation). AllByRecursion (IsThere table memory.trees) c.frame_list.result.now) (sym c.table.ensures) (all_there memory c.frame_list.result.now c.self.invariant c.frame_list.ensures.guarded)

pub invariant_of-self : goal.invariant_of-self
invariant_of-self g c =
    let memory : RunMemory = record { table = c.self.inside.store.table; contents = c.self.inside.store.contents; trees = c.self.inside.forest; tags = c.self.inside.tags; frames = c.self.inside.frames } in
    let there : AllByRecursion (IsThere memory.table memory.trees) (guarded_now memory) = subst (AllByRecursion (IsThere memory.table memory.trees)) c.frame_list.ensures.value (all_there memory c.frame_list.result.now c.self.invariant c.frame_list.ensures.guarded) in
    let turned : c.unguard_all.new.forest ≡ without_guards memory.table (guarded_now memory) memory.trees =
    c.unguard_all.ensures ∙ ap (λ (table : List Allocation). without_guards table c.frame_list.result.now memory.trees) c.table.ensures ∙ ap (λ (provs : List Prov). without_guards memory.table provs memory.trees) c.frame_list.ensures.value in
    subst (λ (trees : List TreeRows). IsSound (record memory { trees = trees; frames = c.pop_frame.new.self })) (sym turned) (kept_call memory c.pop_frame.new.self c.self.invariant there c.pop_frame.ensures.kinds)

pub returns-clause-keeps : goal.returns-clause-keeps
returns-clause-keeps g c =
    λ asked h.
    let memory : RunMemory = record { table = c.self.inside.store.table; contents = c.self.inside.store.contents; trees = c.self.inside.forest; tags = c.self.inside.tags; frames = c.self.inside.frames } in
    let there : AllByRecursion (IsThere memory.table memory.trees) (guarded_now memory) = subst (AllByRecursion (IsThere memory.table memory.trees)) c.frame_list.ensures.value (all_there memory c.frame_list.result.now c.self.invariant c.frame_list.ensures.guarded) in
    let turned : c.unguard_all.new.forest ≡ without_guards memory.table (guarded_now memory) memory.trees =
    c.unguard_all.ensures ∙ ap (λ (table : List Allocation). without_guards table c.frame_list.result.now memory.trees) c.table.ensures ∙ ap (λ (provs : List Prov). without_guards memory.table provs memory.trees) c.frame_list.ensures.value in
    subst (λ (trees : List TreeRows). knows (record memory { trees = trees; frames = c.pop_frame.new.self }) asked ≡ true) (sym turned)
    (call_knows memory c.pop_frame.new.self c.self.invariant there c.pop_frame.ensures.kinds asked ∙ ap (λ (m : RunMemory). knows m asked) c.self.view_is ∙ h)
