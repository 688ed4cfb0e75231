use Rattle.std.proofs.Common.{length, ◌-◌, ◌≡◌, ◌≤◌, take}
use Rattle.tb_base.proofs.put.put_all.Given as goal
use Rattle.tb_base.specs.Growth.{Grew}

-- the front that was put so far went out, and no put failed
abbrev pub invariant-loop-done : goal.invariant-loop-done
invariant-loop-done g l = record {
  within : l.done ≤ length l.piece;
  told : Grew (g.S.Sink.bytes l.fn.sink) (g.S.Sink.bytes l.sink) (take l.done l.piece);
  count : g.S.Sink.faults l.sink ≡ g.S.Sink.faults l.fn.sink;
}

abbrev pub decreases-loop-done : goal.decreases-loop-done
decreases-loop-done g l = length l.piece - l.done
