use Rattle.std.proofs.Common.{◌≤◌, drop}
use Rattle.tb_perm.specs.Reborrow.{AreCells}
use Rattle.tb_borrow_cases.proofs.play.are_cells.Given as goal

abbrev pub invariant-loop-cell : goal.invariant-loop-cell
invariant-loop-cell l = (l.lo ≤ l.bytes.hi) × (AreCells l.lo l.bytes.hi (drop l.cell-index l.cells) → AreCells l.bytes.lo l.bytes.hi l.cells)
