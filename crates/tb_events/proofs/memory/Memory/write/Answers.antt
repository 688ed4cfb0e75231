use Rattle.std.proofs.Common.{◌≡◌, sym, ◌∙◌, ap, subst, ◌+◌, ◌≤◌, true, List, length}
use Rattle.tb_bytes.specs.declared.byte_val.ByteVal.{ByteVal}
use Rattle.tb_alloc.specs.declared.allocation.Allocation.{Allocation}
use Rattle.tb_value.specs.Provs.{all_pass}
use Rattle.tb_events.specs.Memory.{RunMemory, size_at, knows, reaches}
use Rattle.tb_events.specs.Sound.{IsSound}
use Rattle.tb_events.proofs.Keeping.{gone_is, kept_splice}
use Rattle.tb_events.proofs.memory.Memory.write.Goals as goal

pub invariant_of-self : goal.invariant_of-self
invariant_of-self g c =
    let memory : RunMemory = record { table = c.self.inside.store.table; contents = c.self.inside.store.contents; trees = c.self.inside.forest; tags = c.self.inside.tags; frames = c.self.inside.frames } in
    subst (λ (t : List Allocation). IsSound (record memory { table = t; contents = c.write.new.self.contents })) (sym c.in-Ok.ensures.table)
    (subst (λ (b : List (List ByteVal)). IsSound (record memory { contents = b })) (sym c.in-Ok.ensures.contents)
    (kept_splice memory c.args.prov c.args.lo c.args.bytes.now c.self.invariant (ap (λ (m : RunMemory). reaches m c.args.prov) c.self.view_is ∙ c.requires.prov)
    (subst (λ (m : RunMemory). c.args.lo + length c.args.bytes.now ≤ size_at m c.args.prov.alloc.0) (sym c.self.view_is) c.requires.within)
    (subst (λ (m : RunMemory). all_pass (knows m) c.args.bytes.now ≡ true) (sym c.self.view_is) c.requires.known)))

pub invariant_of-self-in-Err : goal.invariant_of-self-in-Err
invariant_of-self-in-Err g c = gone_is (record { table = c.self.inside.store.table; contents = c.self.inside.store.contents; trees = c.self.inside.forest; tags = c.self.inside.tags; frames = c.self.inside.frames }) c.args.prov.alloc.0 c.write.new.self.table c.write.new.self.contents c.clear.new.self c.self.invariant c.in-Err.ensures.dead c.in-Err.ensures.gone c.clear.ensures
