use Rattle.std.proofs.Common.{◌≡◌, drop}
use Rattle.tb_perm.specs.Reborrow.{is_in_cells}
use Rattle.tb_plain.proofs.bytes.is_cell_byte.Given as goal

abbrev pub invariant-loop-cell : goal.invariant-loop-cell
invariant-loop-cell l = is_in_cells (drop l.cell-index l.cells) l.byte ≡ is_in_cells l.cells l.byte
