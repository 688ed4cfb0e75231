use Rattle.std.proofs.Common.{sym, subst, List, Some, IfOk}
use Rattle.std.specs.List.{AllByRecursion}
use Rattle.tb_types.specs.declared.shape.Ty.{Ty}
use Rattle.tb_types.specs.Table.{IsType}
use Rattle.tb_types.specs.Trees.{TupleTree, trees_by, tree_of}
use Rattle.tb_written.specs.Kept.{IsFound}
use Rattle.tb_written.proofs.Keeping.{tuple_then}
use Rattle.tb_written.proofs.made.tuple_of.Goals as goal

pub returns : goal.returns
returns c =
    subst (λ (list : List Ty). IfOk c.intern.result (λ ty. IsFound c.args.types.now c.intern.new.types (Some ty) (Some (TupleTree (trees_by (tree_of c.args.types.now) list))))) c.from_vec.ensures
    (tuple_then c.args.types.now c.intern.new.types c.from_vec.result c.intern.result (subst (AllByRecursion (IsType c.args.types.now)) (sym c.from_vec.ensures) c.requires) c.intern.ensures.kept c.intern.ensures.is_type c.intern.ensures.tree)
