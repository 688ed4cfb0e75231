use Rattle.std.proofs.Common.{sym, ap, ◌∙◌, ◌++◌}
use Rattle.tb_types.specs.Trees.{tree_of}
use Rattle.tb_fields.specs.Held.{structs_in}
use Rattle.tb_fields.proofs.Making.{on_ok, tuple_structs}
use Rattle.tb_fields.proofs.held.+holding.Goals as goal

pub add_shape-returns-in-Tuple : goal.add_shape-returns-in-Tuple
add_shape-returns-in-Tuple t c =
    on_ok c.add_parts.result (λ e. e ∙ ap (λ numbers. c.args.list.now.items ++ numbers) (tuple_structs (tree_of c.args.types.now) c.args.shape.now _ c.as_slice.result.now c.in-Tuple.is c.as_slice.ensures)) c.add_parts.ensures

pub add_type-returns : goal.add_type-returns
add_type-returns t c =
    on_ok c.add_shape.result (λ e. e ∙ ap (λ tree. c.args.list.now.items ++ structs_in tree) (sym (c.law_types.ensures.trees c.args.ty c.shape.result.now c.shape.ensures))) c.add_shape.ensures
