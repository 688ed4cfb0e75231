use Rattle.std.proofs.Common.{◌<◌, ◌+◌, ◌^◌, length, ap, subst, arith}
use Rattle.std.specs.List.{splice}
use Rattle.tb_ranges.specs.Runs.{AreRuns}
use Rattle.tb_ranges.proofs.Values.{size_of, sized}
use Rattle.tb_ranges.proofs.runs.Runs.overwrite.Goals as goal

pub overflow_add-lo : goal.overflow_add-lo
overflow_add-lo g c =
    let size = c.self.inside.size in
    let few : c.args.lo + c.end_of_runs-count.result < 2 ^ 32 = omega (arith, c.end_of_runs-count.ensures, c.requires.within, size_of size c.self.inside.runs.items c.self.invariant, ap length c.self.view_is) in
    omega (arith, few)

pub make_overwrite-requires-clause-runs : goal.make_overwrite-requires-clause-runs
make_overwrite-requires-clause-runs g c = rw c.deref.ensures.value (sized c.self.inside.size c.self.inside.runs.items c.self.invariant)

pub invariant_of-self-2 : goal.invariant_of-self-2
invariant_of-self-2 g c =
    let runs = c.self.inside.runs.items in
    let patch = c.in_ok-patch.patch in
    let patched = rw c.deref.ensures.value at c.in_ok-patch.ensures.runs in
    rw c.in_ok-apply.ensures.ok (subst (λ n. AreRuns n (splice runs patch.start patch.end patch.runs.items)) (size_of c.self.inside.size runs c.self.invariant) patched)
