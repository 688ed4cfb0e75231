use Rattle.std.proofs.Common.{◌≡◌, subst, map, Some}
use Rattle.tb_types.specs.declared.shape.Ty.{Ty}
use Rattle.tb_types.specs.declared.shape.TyShape.{TyShape}
use Rattle.tb_types.specs.Table.{TypeTable, IsType, shape_at}
use Rattle.tb_types.specs.Trees.{tree_in, tree_of, IsSameType}
use Rattle.tb_types.specs.Folded.{node_of}
use Rattle.tb_types.specs.Facts.{facts_by, facts_of}
use Rattle.tb_types.specs.Extent.{extent_by, extent_of}
use Rattle.tb_types.specs.Kept.{table_of}
use Rattle.tb_types.proofs.Folding.{folded_is}
use Rattle.tb_types.proofs.Trees.{tree_step}
use Rattle.tb_types.proofs.Numbers.{same_number}
use Rattle.tb_types.proofs.types.Types.law_types.Goals as goal

pub returns-clause-facts : goal.returns-clause-facts
returns-clause-facts c =
    let kept = table_of c.self.inside.shapes.keys c.self.inside.items.items in
    subst (λ (types : TypeTable). (ty : Ty) → IsType types ty → facts_of types ty ≡ facts_by (node_of types ty) (map (facts_of types) (node_of types ty).parts)) c.self.view_is
    (λ ty h. folded_is facts_by kept ty (c.self.invariant.sound.ends ty h))

pub returns-clause-extents : goal.returns-clause-extents
returns-clause-extents c =
    let kept = table_of c.self.inside.shapes.keys c.self.inside.items.items in
    subst (λ (types : TypeTable). (ty : Ty) → IsType types ty → extent_of types ty ≡ extent_by (node_of types ty) (map (extent_of types) (node_of types ty).parts)) c.self.view_is
    (λ ty h. folded_is extent_by kept ty (c.self.invariant.sound.ends ty h))

pub returns-clause-trees : goal.returns-clause-trees
returns-clause-trees c =
    subst (λ (types : TypeTable). (ty : Ty) (shape : TyShape) → shape_at types ty ≡ Some shape → tree_of types ty ≡ tree_in shape (tree_of types)) c.self.view_is
    (λ ty shape e. tree_step c.self.inside.shapes.keys c.self.invariant.sound.names ty shape e)

pub returns-clause-numbers : goal.returns-clause-numbers
returns-clause-numbers c =
    subst (λ (types : TypeTable). (one other : Ty) → IsType types one → IsType types other → IsSameType types one types other → one ≡ other) c.self.view_is
    (same_number (table_of c.self.inside.shapes.keys c.self.inside.items.items) c.self.invariant.sound)
