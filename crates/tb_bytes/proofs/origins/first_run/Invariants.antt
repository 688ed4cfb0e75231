use Rattle.std.proofs.Common.{◌≡◌, drop}
use Rattle.tb_bytes.specs.Parts.{first_with}
use Rattle.tb_bytes.proofs.origins.first_run.Given as goal

abbrev pub invariant-loop-run : goal.invariant-loop-run
invariant-loop-run l = first_with (drop l.run-index l.runs) ≡ first_with l.runs
