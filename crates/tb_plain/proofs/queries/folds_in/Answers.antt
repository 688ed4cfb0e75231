use Rattle.std.proofs.Common.{◌∙◌, sym, ap, length}
use Rattle.tb_plain.proofs.Fitting.{HasPlain_there, row_sized}
use Rattle.tb_plain.proofs.Pruned.{folds_tells}
use Rattle.tb_plain.proofs.queries.folds_in.Goals as goal

pub row_at-upper-requires : goal.row_at-upper-requires
row_at-upper-requires c = HasPlain_there c.args.shape.now c.args.rows.now c.args.tag.0 c.requires.tag

pub row_at-lower-requires : goal.row_at-lower-requires
row_at-lower-requires c = HasPlain_there c.args.shape.now c.args.rows.now c.args.child.0 c.requires.child

pub folds_over-requires : goal.folds_over-requires
folds_over-requires c =
    ap length c.as_slice.ensures ∙ row_sized c.args.shape.now c.args.rows.now c.args.size c.args.tag.0 _ c.requires.plain c.row_at-upper.ensures
    ∙ sym (ap length c.as_slice-2.ensures ∙ row_sized c.args.shape.now c.args.rows.now c.args.size c.args.child.0 _ c.requires.plain c.row_at-lower.ensures)

pub returns : goal.returns
returns c =
    folds_tells c.args.shape.now c.args.rows.now c.args.size c.args.tag.0 c.args.child.0 c.args.guarded c.folds_over.result _ _ _ _ c.requires.plain c.row_at-upper.ensures c.row_at-lower.ensures c.as_slice.ensures c.as_slice-2.ensures c.folds_over.ensures.0 c.folds_over.ensures.1
