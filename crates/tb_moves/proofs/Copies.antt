-- A number that is no type counts as `()`, which copies.
use Rattle.std.proofs.Common.{◌≡◌, ℕ, zero, suc, true, [], map, None, refl, subst, sym}
use Rattle.tb_types.specs.declared.shape.Ty.{Ty}
use Rattle.tb_types.specs.Table.{TypeTable, shape_at}
use Rattle.tb_types.specs.Folded.{node_by, folded_at, folded, depth_of}
use Rattle.tb_types.specs.Facts.{is_copy, facts_by}

unit_copy_at : (types : TypeTable) (ty : Ty) (depth : ℕ) → shape_at types ty ≡ None → (folded_at facts_by types depth ty).copy ≡ true
unfolding folded_at
unit_copy_at types ty zero none = subst (λ s. (facts_by (node_by types s) []).copy ≡ true) (sym none) refl
unit_copy_at types ty (suc depth) none =
    subst (λ s. (facts_by (node_by types s) (map (folded_at facts_by types depth) (node_by types s).parts)).copy ≡ true) (sym none) refl

pub no_type_copies : (types : TypeTable) (ty : Ty) → shape_at types ty ≡ None → is_copy types ty ≡ true
unfolding folded
no_type_copies types ty none = unit_copy_at types ty (depth_of types) none
