-- Types in which each struct is defined.
use Rattle.std.proofs.Common.{◌≡◌, refl, sym, ◌∙◌, ap, subst, Bool, true, List, [], ◌∷◌, map, Option, Some, is_some}
use Rattle.std.specs.List.{AllByRecursion, list_all}
use Rattle.std.specs.Cmp.{first_so, second_so}
use Rattle.tb_types.specs.declared.shape.Ty.{Ty}
use Rattle.tb_types.specs.declared.shape.TyShape.{TyShape}
use Rattle.tb_types.specs.declared.shape.TyShape.TheVariants.{Struct}
use Rattle.tb_types.specs.declared.item.Item.{Item}
use Rattle.tb_types.specs.declared.facts.Facts.{Facts}
use Rattle.tb_types.specs.Table.{TypeTable, IsType, shape_at, fields_of}
use Rattle.tb_types.specs.Folded.{Node, node_of, item_in, is_known}
use Rattle.tb_types.specs.Trees.{is_plain}
use Rattle.tb_types.specs.Facts.{beside, facts_in, facts_by, facts_of, is_complete}
use Rattle.tb_types.specs.Sound.{AreTypes}
use Rattle.tb_types.proofs.Folding.{folded_is}
use Rattle.tb_types.proofs.Within.{all_both, parts_types, node_found}

abbrev pub IsReady : TypeTable → Ty → Type 0
IsReady types ty = IsType types ty × (is_complete types ty ≡ true)

by_shape : (shape : TyShape) (item : Option Item) (plain : Bool) (below : Facts) → (facts_in shape item plain below).complete ≡ true → (is_known shape item ≡ true) × (below.complete ≡ true)
by_shape (Struct number) item plain below h = (first_so (is_some (fields_of item)) below.complete h, second_so (is_some (fields_of item)) below.complete h)
by_shape shape item plain below h = (refl, h)

each_complete : (types : TypeTable) (parts : List Ty) → list_all (λ (fact : Facts). fact.complete) (map (facts_of types) parts) ≡ true → AllByRecursion (λ part. is_complete types part ≡ true) parts
each_complete types [] h = tt
each_complete types (part ∷ parts) h = (
  first_so (is_complete types part) (list_all (λ (fact : Facts). fact.complete) (map (facts_of types) parts)) h,
  each_complete types parts (second_so (is_complete types part) (list_all (λ (fact : Facts). fact.complete) (map (facts_of types) parts)) h),
)

module _ (types : TypeTable) (sound : AreTypes types) where
  complete_here : (ty : Ty) → IsReady types ty → (is_known (node_of types ty).shape (node_of types ty).item ≡ true) × ((beside (map (facts_of types) (node_of types ty).parts)).complete ≡ true)
  complete_here ty h =
      by_shape (node_of types ty).shape (node_of types ty).item (is_plain (node_of types ty).tree) (beside (map (facts_of types) (node_of types ty).parts))
      (ap (λ (fact : Facts). fact.complete) (sym (folded_is facts_by types ty (sound.ends ty h.0))) ∙ h.1)

  -- its own struct is defined
  pub struct_known : (ty : Ty) (shape : TyShape) → shape_at types ty ≡ Some shape → IsReady types ty → is_known shape (item_in types.items shape) ≡ true
  struct_known ty shape e h = subst (λ (node : Node). is_known node.shape node.item ≡ true) (node_found types ty shape e) (complete_here ty h).0

  -- and those in its parts
  pub parts_ready : (ty : Ty) → IsReady types ty → AllByRecursion (IsReady types) (node_of types ty).parts
  parts_ready ty h =
      all_both (IsType types) (λ part. is_complete types part ≡ true) (node_of types ty).parts (parts_types types sound ty h.0)
      (each_complete types (node_of types ty).parts (complete_here ty h).1)
