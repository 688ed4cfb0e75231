use Rattle.std.proofs.Common.{◌≡◌, ◌∙◌, ap, subst, sym, true, ◌≤◌, length}
use Rattle.tb_value.specs.Provs.{all_pass}
use Rattle.tb_events.specs.Memory.{RunMemory, size_at, knows, reaches}
use Rattle.tb_events.proofs.Keeping.{if_ok, read_size, read_known}
use Rattle.tb_events.proofs.memory.Memory.read.Goals as goal

pub returns-clause-size : goal.returns-clause-size
returns-clause-size g c =
    let memory : RunMemory = record { table = c.self.inside.store.table; contents = c.self.inside.store.contents; trees = c.self.inside.forest; tags = c.self.inside.tags; frames = c.self.inside.frames } in
    if_ok c.read.result (λ bytes e. ap length e ∙ read_size memory c.args.prov c.args.lo c.args.hi c.self.invariant (ap (λ (m : RunMemory). reaches m c.args.prov) c.self.view_is ∙ c.requires.prov)
    (subst (λ (m : RunMemory). c.args.hi ≤ size_at m c.args.prov.alloc.0) (sym c.self.view_is) c.requires.within)) c.read.ensures

pub returns-clause-known : goal.returns-clause-known
returns-clause-known g c =
    let memory : RunMemory = record { table = c.self.inside.store.table; contents = c.self.inside.store.contents; trees = c.self.inside.forest; tags = c.self.inside.tags; frames = c.self.inside.frames } in
    if_ok c.read.result (λ bytes e. subst (λ (m : RunMemory). all_pass (knows m) bytes.items ≡ true) c.self.view_is (ap (all_pass (knows memory)) e ∙ read_known memory c.args.prov c.args.lo c.args.hi c.self.invariant)) c.read.ensures
