use Rattle.std.proofs.Common.{◌≡◌, length, take}
use Rattle.tb_ranges.specs.Pieces.{end_of}
use Rattle.tb_lazy_rows.specs.Kinds.{AreChangedBelow}
use Rattle.tb_lazy_rows.proofs.values.change.Given as goal

abbrev pub invariant-loop-run : goal.invariant-loop-run
invariant-loop-run g l = record {
  changed : AreChangedBelow (g.B.ByKind.by l.by) l.kinds (end_of 0 (take l.run-index l.runs)) l.initial.values l.values;
  bytes : length l.values ≡ length l.initial.values;
}
