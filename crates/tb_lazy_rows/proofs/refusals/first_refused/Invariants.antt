use Rattle.std.proofs.Common.{None, take}
use Rattle.tb_ranges.specs.Pieces.{end_of}
use Rattle.tb_lazy_rows.specs.Kinds.{IsFirstIn, refuses_at}
use Rattle.tb_lazy_rows.proofs.refusals.first_refused.Given as goal

abbrev pub invariant-loop-run : goal.invariant-loop-run
invariant-loop-run l = IsFirstIn (refuses_at l.kinds l.protected l.rel l.states) 0 (end_of 0 (take l.run-index l.runs)) None
