use Rattle.std.proofs.Common.{◌≡◌, ◌++◌, drop}
use Rattle.std.specs.List.{AllByRecursion}
use Rattle.tb_new_tag.specs.NewTags.{shifted}
use Rattle.tb_new_tag.proofs.Repeats.{IsWithin}
use Rattle.tb_new_tag.proofs.cells.put_shifted.Given as goal

abbrev pub invariant-loop-cell : goal.invariant-loop-cell
invariant-loop-cell l =
    (l.ranges.items ++ shifted l.by (drop l.cell-index l.cells) ≡ l.fn.ranges.items ++ shifted l.by l.cells)
    × AllByRecursion (IsWithin l.size) (drop l.cell-index l.cells)
