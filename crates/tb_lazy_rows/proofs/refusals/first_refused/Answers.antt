use Rattle.std.proofs.Common.{arith, None, length}
use Rattle.tb_lazy_rows.proofs.Changes.{run_stands}
use Rattle.tb_lazy_rows.proofs.Firsts.{first_more, first_here, first_nowhere}
use Rattle.tb_lazy_rows.proofs.refusals.first_refused.Goals as goal

pub refused_in-requires-clause-order : goal.refused_in-requires-clause-order
refused_in-requires-clause-order c =
    let stands = run_stands (length c.args.kinds.now) c.loop-run.run-index c.runs-runs.result.now (record { lo = 0; hi = 0; value = None }) c.runs-runs.ensures.runs (omega arith) in
    omega (arith, stands.some)

pub refused_in-requires-clause-within : goal.refused_in-requires-clause-within
refused_in-requires-clause-within c =
    let stands = run_stands (length c.args.kinds.now) c.loop-run.run-index c.runs-runs.result.now (record { lo = 0; hi = 0; value = None }) c.runs-runs.ensures.runs (omega arith) in
    omega (arith, stands.within, c.requires)

pub returns-in-Some : goal.returns-in-Some
returns-in-Some c =
    first_here c.args.kinds.now c.args.protected c.args.rel c.args.states.now c.runs-runs.result.now c.loop-run.run-index (record { lo = 0; hi = 0; value = None }) c.in-Some.byte c.requires c.runs-runs.ensures.runs c.runs-runs.ensures.values (omega arith) (c.in-Some.ensures c.args.kinds.now) c.loop-run.invariant

pub loop-run-preserved : goal.loop-run-preserved
loop-run-preserved c =
    first_more c.args.kinds.now c.args.protected c.args.rel c.args.states.now c.runs-runs.result.now c.loop-run.run-index (record { lo = 0; hi = 0; value = None }) c.runs-runs.ensures.runs c.runs-runs.ensures.values (omega arith) (c.in_default.ensures c.args.kinds.now) c.loop-run.invariant

pub returns : goal.returns
returns c =
    first_nowhere c.args.kinds.now c.args.protected c.args.rel c.args.states.now c.runs-runs.result.now c.loop-run.run-index c.requires c.runs-runs.ensures.runs (omega arith) c.loop-run.invariant
