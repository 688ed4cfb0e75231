use Rattle.std.proofs.Common.{◌≡◌, ◌++◌, drop}
use Rattle.tb_bytes.specs.Parts.{listed}
use Rattle.tb_bytes.proofs.origins.collect_provs.Given as goal

abbrev pub invariant-loop-run : goal.invariant-loop-run
invariant-loop-run l = l.list.items ++ listed (drop l.run-index l.runs) ≡ listed l.runs
