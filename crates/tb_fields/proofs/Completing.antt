-- A type is complete where the structs that lie in it are defined, and those are declared.
use Rattle.std.proofs.Common.{◌≡◌, ℕ, true, ◌&&◌, List, [], ◌∷◌, ◌++◌, map, Option, Some, None, is_some, refl, sym, ◌∙◌, ap, subst, IfSome}
use Rattle.std.specs.List.{AllByRecursion, list_all}
use Rattle.tb_types.specs.declared.shape.Ty.{Ty}
use Rattle.tb_types.specs.declared.shape.TyShape.{TyShape}
use Rattle.tb_types.specs.declared.shape.TyShape.TheVariants as shape
use Rattle.tb_types.specs.declared.item.Field.{Field}
use Rattle.tb_types.specs.declared.facts.Facts.{Facts}
use Rattle.tb_types.specs.Table.{TypeTable, IsType, IsDeclared, shape_at, fields_at, is_defined, item_named}
use Rattle.tb_types.specs.Trees.{TypeTree, trees_by, tree_in, tree_of, is_plain}
use Rattle.tb_types.specs.Folded.{node_in, item_in, types_in, types_of}
use Rattle.tb_types.specs.Facts.{beside, facts_in, facts_by, facts_of, is_complete}
use Rattle.tb_types.specs.Sound.{AreTypes, IsField}
use Rattle.tb_types.proofs.CallerLemmas.{type_induction, folded_step, tree_step}
use Rattle.tb_fields.specs.Held.{structs_in, structs_in_all}
use Rattle.tb_fields.specs.Defined.{AreHeld}

-- what holds of two lists holds of each
pub all_left : {X : Type 0} (P : X → Type 0) (xs ys : List X) → AllByRecursion P (xs ++ ys) → AllByRecursion P xs
all_left P [] ys h = tt
all_left P (x ∷ xs) ys h = (h.0, all_left P xs ys h.1)

pub all_right : {X : Type 0} (P : X → Type 0) (xs ys : List X) → AllByRecursion P (xs ++ ys) → AllByRecursion P ys
all_right P [] ys h = h
all_right P (x ∷ xs) ys h = all_right P xs ys h.1

pub all_both : {X : Type 0} (P : X → Type 0) (xs ys : List X) → AllByRecursion P xs → AllByRecursion P ys → AllByRecursion P (xs ++ ys)
all_both P [] ys h k = k
all_both P (x ∷ xs) ys h k = (h.0, all_both P xs ys h.1 k)

module _ (types : TypeTable) (sound : AreTypes types) where
  IsWhole : Ty → Type 0
  IsWhole ty = AreHeld types (structs_in (tree_of types ty)) → is_complete types ty ≡ true

  beside_whole : (parts : List Ty) → AllByRecursion (λ part. is_complete types part ≡ true) parts → list_all (λ (fact : Facts). fact.complete) (map (facts_of types) parts) ≡ true
  beside_whole [] h = refl
  beside_whole (part ∷ parts) h = ap (λ b. b && list_all (λ (fact : Facts). fact.complete) (map (facts_of types) parts)) h.0 ∙ beside_whole parts h.1

  parts_whole : (parts : List Ty) → AllByRecursion IsWhole parts → AreHeld types (structs_in_all (trees_by (tree_of types) parts)) → AllByRecursion (λ part. is_complete types part ≡ true) parts
  unfolding IsWhole
  parts_whole [] h held = tt
  parts_whole (part ∷ parts) h held =
      let first : List ℕ = structs_in (tree_of types part) in
      let rest : List ℕ = structs_in_all (trees_by (tree_of types) parts) in
      (h.0 (all_left (λ number. is_defined types number ≡ true) first rest held), parts_whole parts h.1 (all_right (λ number. is_defined types number ≡ true) first rest held))

  fields_whole : (fields : List Field) → AllByRecursion (IsField types) fields → AllByRecursion (λ part. is_complete types part ≡ true) (types_in fields)
  fields_whole [] h = tt
  fields_whole (field ∷ fields) h = (h.0.complete, fields_whole fields h.1)

  item_whole : (number : ℕ) (found : Option (List Field)) → fields_at types number ≡ found → is_some found ≡ true → AllByRecursion (λ part. is_complete types part ≡ true) (types_of found)
  item_whole number None e h = cc
  item_whole number (Some fields) e h = fields_whole fields (sound.fields number fields e)

  one_whole : (part : Ty) → is_complete types part ≡ true → list_all (λ (fact : Facts). fact.complete) (map (facts_of types) (part ∷ [])) ≡ true
  one_whole part h = beside_whole (part ∷ []) (h, tt)

  by_shape : (shape : TyShape) → AllByRecursion IsWhole (node_in types shape).parts → AreHeld types (structs_in (tree_in shape (tree_of types)))
      → (facts_in shape (item_in types.items shape) (is_plain (tree_in shape (tree_of types))) (beside (map (facts_of types) (node_in types shape).parts))).complete ≡ true
  unfolding IsWhole
  by_shape (shape.Tuple parts) below held = beside_whole parts (parts_whole parts below held)
  by_shape (shape.Array part n) below held = one_whole part (below.0 held)
  by_shape (shape.Boxed part) below held = one_whole part (below.0 held)
  by_shape (shape.Cell part) below held = one_whole part (below.0 held)
  by_shape (shape.UnsafeCell part) below held = one_whole part (below.0 held)
  by_shape (shape.Slice part) below held = one_whole part (below.0 held)
  by_shape (shape.Struct number) below held =
      let fields : Option (List Field) = fields_at types number in
      ap (λ b. b && list_all (λ (fact : Facts). fact.complete) (map (facts_of types) (types_of fields))) held.0 ∙ beside_whole (types_of fields) (item_whole number fields refl held.0)
  by_shape (shape.Int kind) below held = refl
  by_shape shape.Bool below held = refl
  by_shape shape.Char below held = refl
  by_shape shape.Unit below held = refl
  by_shape (shape.Ref mutable to) below held = refl
  by_shape (shape.Raw mutable to) below held = refl

  whole_step : (ty : Ty) (shape : TyShape) → IsType types ty → shape_at types ty ≡ Some shape → AllByRecursion IsWhole (node_in types shape).parts → IsWhole ty
  unfolding IsWhole
  whole_step ty shape h e below held =
      ap (λ (fact : Facts). fact.complete) (folded_step facts_by types sound ty shape h e)
      ∙ by_shape shape below (subst (λ (tree : TypeTree). AreHeld types (structs_in tree)) (tree_step types.shapes sound.names ty shape e) held)

  -- a type in which each struct is defined is complete
  pub complete_where : (ty : Ty) → IsType types ty → AreHeld types (structs_in (tree_of types ty)) → is_complete types ty ≡ true
  unfolding IsWhole
  complete_where ty h = type_induction types sound IsWhole whole_step ty h

  -- the structs that lie in a type are declared
  AreIn : Ty → Type 0
  AreIn ty = AllByRecursion (IsDeclared types) (structs_in (tree_of types ty))

  parts_in : (parts : List Ty) → AllByRecursion AreIn parts → AllByRecursion (IsDeclared types) (structs_in_all (trees_by (tree_of types) parts))
  unfolding AreIn
  parts_in [] h = tt
  parts_in (part ∷ parts) h = all_both (IsDeclared types) (structs_in (tree_of types part)) (structs_in_all (trees_by (tree_of types) parts)) h.0 (parts_in parts h.1)

  shape_in : (shape : TyShape) → IfSome (item_named shape) (IsDeclared types) → AllByRecursion AreIn (node_in types shape).parts → AllByRecursion (IsDeclared types) (structs_in (tree_in shape (tree_of types)))
  unfolding AreIn
  shape_in (shape.Tuple parts) named below = parts_in parts below
  shape_in (shape.Array part n) named below = below.0
  shape_in (shape.Boxed part) named below = below.0
  shape_in (shape.Cell part) named below = below.0
  shape_in (shape.UnsafeCell part) named below = below.0
  shape_in (shape.Slice part) named below = below.0
  shape_in (shape.Struct number) named below = (named, tt)
  shape_in (shape.Int kind) named below = tt
  shape_in shape.Bool named below = tt
  shape_in shape.Char named below = tt
  shape_in shape.Unit named below = tt
  shape_in (shape.Ref mutable to) named below = tt
  shape_in (shape.Raw mutable to) named below = tt

  in_step : (ty : Ty) (shape : TyShape) → IsType types ty → shape_at types ty ≡ Some shape → AllByRecursion AreIn (node_in types shape).parts → AreIn ty
  unfolding AreIn
  in_step ty shape h e below = subst (λ (tree : TypeTree). AllByRecursion (IsDeclared types) (structs_in tree)) (sym (tree_step types.shapes sound.names ty shape e)) (shape_in shape (sound.declared ty shape e) below)

  pub declared_in : (ty : Ty) → IsType types ty → AllByRecursion (IsDeclared types) (structs_in (tree_of types ty))
  unfolding AreIn
  declared_in ty h = type_induction types sound AreIn in_step ty h
