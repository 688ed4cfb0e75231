use Rattle.std.proofs.Common.{sym, ◌∙◌, ap}
use Rattle.tb_events.specs.Memory.{RunMemory, made_pointer}
use Rattle.tb_events.proofs.Making.{made_is, pointer_is}
use Rattle.tb_events.proofs.memory.Memory.make.Goals as goal

pub invariant_of-self-in-Ok-allocate : goal.invariant_of-self-in-Ok-allocate
invariant_of-self-in-Ok-allocate g c =
    made_is (record { table = c.self.inside.store.table; contents = c.self.inside.store.contents; trees = c.self.inside.forest; tags = c.self.inside.tags; frames = c.self.inside.frames }) c.args.size c.args.align c.args.kind c.args.made c.allocate.new.self.table c.allocate.new.self.contents c.plant.new.self c.self.invariant
    c.in-Ok-allocate.ensures.table c.in-Ok-allocate.ensures.contents c.in-Ok.ensures.ok

pub returns-in-Ok-allocate-clause-pointer : goal.returns-in-Ok-allocate-clause-pointer
returns-in-Ok-allocate-clause-pointer g c =
    sym (pointer_is (record { table = c.self.inside.store.table; contents = c.self.inside.store.contents; trees = c.self.inside.forest; tags = c.self.inside.tags; frames = c.self.inside.frames }) c.args.size c.args.align c.args.kind c.args.made c.allocate.new.self.table c.table.result.now c.in-Ok-allocate.alloc c.base_at-addr.result
    c.in-Ok-allocate.ensures.table c.table.ensures c.in-Ok-allocate.ensures.number c.base_at-addr.ensures) ∙ ap (λ (m : RunMemory). made_pointer m c.args.align) c.self.view_is
