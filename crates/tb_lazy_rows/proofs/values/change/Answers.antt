use Rattle.std.proofs.Common.{◌∙◌, ap, arith, None, length, take}
use Rattle.std.specs.List.{slice_get}
use Rattle.tb_ranges.specs.Pieces.{end_of}
use Rattle.tb_lazy_rows.proofs.Changes.{run_stands, changed_more, changed_whole, on_err_from}
use Rattle.tb_lazy_rows.proofs.values.change.Goals as goal

pub change_run-requires-clause-order : goal.change_run-requires-clause-order
change_run-requires-clause-order g c =
    let stands = run_stands (length c.args.kinds.now) c.loop-run.run-index c.runs-runs.result.now (record { lo = 0; hi = 0; value = None }) c.runs-runs.ensures.runs (omega arith) in
    omega (arith, stands.some)

pub change_run-requires-clause-within : goal.change_run-requires-clause-within
change_run-requires-clause-within g c =
    let stands = run_stands (length c.args.kinds.now) c.loop-run.run-index c.runs-runs.result.now (record { lo = 0; hi = 0; value = None }) c.runs-runs.ensures.runs (omega arith) in
    omega (arith, stands.within, c.requires.bytes, c.loop-run.invariant.bytes)

pub returns-in_err-change_run-clause-torn : goal.returns-in_err-change_run-clause-torn
returns-in_err-change_run-clause-torn g c =
    on_err_from c.from_residual.result
    (end_of 0 (take c.loop-run.run-index c.runs-runs.result.now), λ byte. ap (λ xs. slice_get xs byte) c.in_err-change_run.ensures.unchanged ∙ c.loop-run.invariant.changed byte)

pub loop-run-preserved : goal.loop-run-preserved
loop-run-preserved g c = record {
  changed = changed_more (g.B.ByKind.by c.args.by.now) c.args.kinds.now c.runs-runs.result.now c.loop-run.run-index (record { lo = 0; hi = 0; value = None }) c.args.values.now c.loop-run.values c.change_run.new.values c.runs-runs.ensures.runs c.runs-runs.ensures.values (omega arith) (c.in_ok-change_run.ensures.changed c.args.kinds.now c.args.values.now) c.loop-run.invariant.changed;
  bytes = c.change_run.ensures.bytes ∙ c.loop-run.invariant.bytes;
}

pub returns-clause-changed : goal.returns-clause-changed
returns-clause-changed g c =
    changed_whole (g.B.ByKind.by c.args.by.now) c.args.kinds.now c.runs-runs.result.now c.loop-run.run-index c.args.values.now c.loop-run.values c.runs-runs.ensures.runs c.requires.bytes (omega arith) c.loop-run.invariant.changed
