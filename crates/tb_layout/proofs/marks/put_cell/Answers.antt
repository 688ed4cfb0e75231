use Rattle.std.proofs.Common.{◌∙◌, ◌≤◌, arith}
use Rattle.tb_types.specs.Extent.{extent_of}
use Rattle.tb_layout.proofs.Marking.{on_ok, cell_run}
use Rattle.tb_layout.proofs.marks.put_cell.Goals as goal

pub returns : goal.returns
returns c =
    let some : 1 ≤ (extent_of c.args.types.now c.args.part).size = (let z = c.if-size-eq0.false in let e = c.size_align-size.ensures.size in omega arith) in
    on_ok c.put_range.result (λ e. e ∙ cell_run c.size_align-size.result.0 (extent_of c.args.types.now c.args.part).size c.args.ranges.now.items c.args.at c.size_align-size.ensures.size some) c.put_range.ensures
