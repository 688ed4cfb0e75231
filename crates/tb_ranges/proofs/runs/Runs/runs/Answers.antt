use Rattle.std.proofs.Common.{length, ap, sym, ◌∙◌, subst}
use Rattle.tb_ranges.specs.Runs.{AreRuns}
use Rattle.tb_ranges.proofs.Values.{size_of}
use Rattle.tb_ranges.proofs.runs.Runs.runs.Goals as goal

pub returns-clause-runs : goal.returns-clause-runs
returns-clause-runs g c =
    let many = sym (size_of c.self.inside.size c.self.inside.runs.items c.self.invariant) ∙ ap length c.self.view_is in
    rw c.deref.ensures.value (subst (λ n. AreRuns n c.self.inside.runs.items) many c.self.invariant)
