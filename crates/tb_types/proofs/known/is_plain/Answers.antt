use Rattle.std.proofs.Common.{sym, ◌∙◌, ap, List, []}
use Rattle.tb_types.specs.declared.shape.Ty.{Ty}
use Rattle.tb_types.specs.declared.shape.TyShape.{TyShape}
use Rattle.tb_types.specs.Trees.{trees_by, tree_in, tree_of, is_plain, are_plain}
use Rattle.tb_types.specs.Kept.{table_of}
use Rattle.tb_types.proofs.known.is_plain.Goals as goal

pub returns-in-Tuple : goal.returns-in-Tuple
returns-in-Tuple c =
    c.are_plain.ensures ∙ ap (λ (parts : List Ty). are_plain (trees_by (tree_of (table_of c.args.shapes.now [])) parts)) c.as_slice.ensures
    ∙ sym (ap (λ (shape : TyShape). is_plain (tree_in shape (tree_of (table_of c.args.shapes.now [])))) c.in-Tuple.is)
