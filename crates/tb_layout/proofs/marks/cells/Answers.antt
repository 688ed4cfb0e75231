use Rattle.std.proofs.Common.{sym, ◌∙◌, ap, subst, List}
use Rattle.tb_perm.specs.declared.new_tag.CellRange.{CellRange}
use Rattle.tb_perm.specs.Reborrow.{is_in_cells, AreCells}
use Rattle.tb_types.specs.Extent.{extent_of}
use Rattle.tb_layout.specs.Cells.{marks_of, with_marks, AreLongest}
use Rattle.tb_layout.proofs.Ranges.{ranges_mark, ranges_longest, ranges_cells}
use Rattle.tb_layout.proofs.Marking.{all_ranges, length_marks}
use Rattle.tb_layout.proofs.marks.cells.Goals as goal

pub returns-clause-ranges : goal.returns-clause-ranges
returns-clause-ranges c =
    c.in_ok-put_cells.ensures ∙ ap (λ (ranges : List CellRange). with_marks ranges 0 (marks_of c.args.types.now c.args.ty)) c.new-ranges.ensures.items ∙ all_ranges (marks_of c.args.types.now c.args.ty)

pub returns-clause-bytes : goal.returns-clause-bytes
returns-clause-bytes c = λ byte. ap (λ (ranges : List CellRange). is_in_cells ranges byte) (returns-clause-ranges c) ∙ ranges_mark (marks_of c.args.types.now c.args.ty) byte

pub returns-clause-longest : goal.returns-clause-longest
returns-clause-longest c = subst AreLongest (sym (returns-clause-ranges c)) (ranges_longest (marks_of c.args.types.now c.args.ty))

pub returns-clause-cells : goal.returns-clause-cells
returns-clause-cells c =
    subst (AreCells 0 (extent_of c.args.types.now c.args.ty).size) (sym (returns-clause-ranges c))
    (ranges_cells (marks_of c.args.types.now c.args.ty) (extent_of c.args.types.now c.args.ty).size (length_marks c.args.types.now c.law_types.ensures.types c.args.ty c.requires.ty))
