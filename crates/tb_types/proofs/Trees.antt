-- Trees of types.
use Rattle.std.proofs.Common.{◌≡◌, refl, sym, ◌∙◌, ap, ℕ, suc, zero, ◌<◌, List, [], ◌∷◌, length, Option, Some, None, slice_get, arith}
use Rattle.std.specs.List.{AllByRecursion}
use Rattle.tb_types.specs.declared.shape.Ty.{Ty}
use Rattle.tb_types.specs.declared.shape.TyShape.{TyShape}
use Rattle.tb_types.specs.declared.shape.TyShape.TheVariants.{Tuple, Array, Ref, Raw, Boxed, Cell, UnsafeCell, Slice}
use Rattle.tb_types.specs.Table.{AreNamed, named_in}
use Rattle.tb_types.specs.Trees.{TypeTree, TupleTree, ArrayTree, RefTree, RawTree, BoxedTree, CellTree, UnsafeCellTree, SliceTree, MoreTrees, trees_by, tree_in, tree_found, tree_at, tree_among}
use Rattle.tb_types.proofs.Within.{all_to, get_found}

trees_same : (f g : Ty → TypeTree) (parts : List Ty) → AllByRecursion (λ part. f part ≡ g part) parts → trees_by f parts ≡ trees_by g parts
trees_same f g [] h = refl
trees_same f g (part ∷ parts) h = ap (λ tree. MoreTrees tree (trees_by f parts)) h.0 ∙ ap (MoreTrees (g part)) (trees_same f g parts h.1)

-- the tree of a shape depends on those of the types that it names alone
pub tree_same : (f g : Ty → TypeTree) (shape : TyShape) → AllByRecursion (λ part. f part ≡ g part) (named_in shape) → tree_in shape f ≡ tree_in shape g
tree_same f g (Tuple parts) h = ap TupleTree (trees_same f g parts h)
tree_same f g (Array part n) h = ap (λ tree. ArrayTree tree n) h.0
tree_same f g (Ref mutable to) h = ap (RefTree mutable) h.0
tree_same f g (Raw mutable to) h = ap (RawTree mutable) h.0
tree_same f g (Boxed part) h = ap BoxedTree h.0
tree_same f g (Cell part) h = ap CellTree h.0
tree_same f g (UnsafeCell part) h = ap UnsafeCellTree h.0
tree_same f g (Slice part) h = ap SliceTree h.0
tree_same f g shape h = refl

module _ (shapes : List TyShape) (named : AreNamed shapes) where
  found_same : (found : Option TyShape) (f g : Ty → TypeTree) → ((shape : TyShape) → found ≡ Some shape → AllByRecursion (λ part. f part ≡ g part) (named_in shape)) → tree_found found f ≡ tree_found found g
  found_same None f g h = refl
  found_same (Some shape) f g h = tree_same f g shape (h shape refl)

  -- going down further than the number says changes nothing
  enough : (depth more : ℕ) (ty : Ty) → ty.0 < depth → ty.0 < more → tree_at shapes depth ty ≡ tree_at shapes more ty
  unfolding tree_at
  enough zero more ty h k = absurd (omega arith)
  enough (suc depth) zero ty h k = absurd (omega arith)
  enough (suc depth) (suc more) ty h k =
      found_same (slice_get shapes ty.0) (tree_at shapes depth) (tree_at shapes more)
      (λ shape e. all_to (named_in shape) (named ty shape e) (λ part lower. enough depth more part (omega arith) (omega arith)))

  -- the tree of a type is that of its shape
  pub tree_step : (ty : Ty) (shape : TyShape) → slice_get shapes ty.0 ≡ Some shape → tree_among shapes ty ≡ tree_in shape (tree_among shapes)
  unfolding tree_among tree_at
  tree_step ty shape e =
      ap (λ (found : Option TyShape). tree_found found (tree_at shapes ty.0)) e
      ∙ tree_same (tree_at shapes ty.0) (tree_among shapes) shape (all_to (named_in shape) (named ty shape e) (λ part lower. enough ty.0 (suc part.0) part lower (omega arith)))

  -- and keeps where the types keep their shapes
  module _ (more : List TyShape) (kept : (ty : Ty) (shape : TyShape) → slice_get shapes ty.0 ≡ Some shape → slice_get more ty.0 ≡ Some shape) where
    kept_at : (depth : ℕ) (ty : Ty) → ty.0 < length shapes → tree_at more depth ty ≡ tree_at shapes depth ty
    unfolding tree_at
    kept_at zero ty h = refl
    kept_at (suc depth) ty h =
        let found : (shape : TyShape) × (slice_get shapes ty.0 ≡ Some shape) = get_found shapes ty.0 h in
        ap (λ (shape : Option TyShape). tree_found shape (tree_at more depth)) (kept ty found.0 found.1)
        ∙ tree_same (tree_at more depth) (tree_at shapes depth) found.0 (all_to (named_in found.0) (named ty found.0 found.1) (λ part lower. kept_at depth part (omega arith)))
        ∙ sym (ap (λ (shape : Option TyShape). tree_found shape (tree_at shapes depth)) found.1)

    pub tree_kept : (ty : Ty) → ty.0 < length shapes → tree_among more ty ≡ tree_among shapes ty
    unfolding tree_among
    tree_kept ty h = kept_at (suc ty.0) ty h
