use Rattle.std.proofs.Common.{take, drop, append_assoc, ◌∙◌}
use Rattle.tb_ranges.specs.Runs.{expanded}
use Rattle.tb_ranges.proofs.patch.make_patch.Goals as goal

pub returns-clause-patches : goal.returns-clause-patches
returns-clause-patches g c =
    let runs = c.args.runs.now in
    let start = c.in_ok-first.field-0.start in
    let mapped = c.in_ok-past.ensures.adds (take start runs) _ c.in_ok-first.ensures.values in
    let done = c.in_ok-end.ensures.completes (take start runs) _ mapped.1 in
    (done.0, (mapped.0, done.1 ∙ append_assoc (take c.args.lo (expanded runs)) mapped.0 (drop c.args.hi (expanded runs)), mapped.2))
