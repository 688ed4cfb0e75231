-- Going down a type, and what is kept of types.
use Rattle.std.proofs.Common.{◌≡◌, refl, sym, ◌∙◌, ap, subst, ℕ, suc, zero, ◌<◌, true, List, [], ◌∷◌, length, map, nat_eq, Some, arith}
use Rattle.std.specs.List.{AllByRecursion, list_all}
use Rattle.std.specs.Cmp.{first_so, second_so}
use Rattle.std.proofs.lemmas.Option.{get_or_from_slice_get}
use Rattle.tb_types.specs.declared.shape.Ty.{Ty}
use Rattle.tb_types.specs.declared.shape.TyShape.{TyShape}
use Rattle.tb_types.specs.declared.facts.Facts.{Facts}
use Rattle.tb_types.specs.declared.extent.Extent.{Extent}
use Rattle.tb_types.specs.declared.known.Known.{Known}
use Rattle.tb_types.specs.Table.{TypeTable, IsType, shape_at}
use Rattle.tb_types.specs.Trees.{is_plain, tree_of}
use Rattle.tb_types.specs.Folded.{Node, node_in, node_of, folded_at, folded, depth_of, fits_by}
use Rattle.tb_types.specs.Facts.{facts_by, facts_of}
use Rattle.tb_types.specs.Extent.{extent_in, extent_by, extent_of}
use Rattle.tb_types.specs.Capped.{capped, IsSmall}
use Rattle.tb_types.specs.Known.{facts_in_all, extents_in_all, known_by, known_of, known_at, none_known, ArePlain, AreSmall}
use Rattle.tb_types.specs.Sound.{AreTypes, AreKnown}
use Rattle.tb_types.proofs.Folding.{nothing, folded_is}
use Rattle.tb_types.proofs.Within.{get_found, node_found, all_to, all_both, true_all, parts_types}
use Rattle.tb_types.proofs.Trees.{tree_step}
use Rattle.tb_types.proofs.Extents.{some_extent, aligned, small_capped, extent_capped}

module _ (types : TypeTable) (sound : AreTypes types) (P : Ty → Type 0)
    (step : (ty : Ty) (shape : TyShape) → IsType types ty → shape_at types ty ≡ Some shape → AllByRecursion P (node_in types shape).parts → P ty) where
  by_node : (ty : Ty) → IsType types ty → AllByRecursion P (node_of types ty).parts → P ty
  by_node ty h below =
      let found : (shape : TyShape) × (shape_at types ty ≡ Some shape) = get_found types.shapes ty.0 h in
      step ty found.0 h found.1 (subst (λ (node : Node). AllByRecursion P node.parts) (node_found types ty found.0 found.1) below)

  at_depth : (depth : ℕ) (ty : Ty) → IsType types ty → folded_at fits_by types depth ty ≡ true → P ty
  unfolding folded_at
  at_depth zero ty h fits =
      let none : (node_of types ty).parts ≡ [] = nothing (node_of types ty).parts [] (first_so (nat_eq (length (node_of types ty).parts) 0) true fits)
      in by_node ty h (subst (AllByRecursion P) (sym none) tt)
  at_depth (suc depth) ty h fits =
      by_node ty h (all_to (node_of types ty).parts
      (all_both (IsType types) (λ part. folded_at fits_by types depth part ≡ true) (node_of types ty).parts (parts_types types sound ty h)
      (true_all (folded_at fits_by types depth) (node_of types ty).parts
      (second_so (nat_eq (length (node_of types ty).parts) (length (map (folded_at fits_by types depth) (node_of types ty).parts))) (list_all (λ b. b) (map (folded_at fits_by types depth) (node_of types ty).parts)) fits)))
      (λ part p. at_depth depth part p.0 p.1))

  -- what holds of a type where it holds of all that lies in it holds of every type
  pub type_induction : (ty : Ty) → IsType types ty → P ty
  type_induction ty h = at_depth (depth_of types) ty h (sound.ends ty h)

facts_below : (types : TypeTable) (parts : List Ty) → AllByRecursion (λ part. (known_of types part).facts ≡ facts_of types part) parts → facts_in_all (map (known_of types) parts) ≡ map (facts_of types) parts
facts_below types [] h = refl
facts_below types (part ∷ parts) h = ap (λ (fact : Facts). fact ∷ facts_in_all (map (known_of types) parts)) h.0 ∙ ap (λ (rest : List Facts). facts_of types part ∷ rest) (facts_below types parts h.1)

extents_below : (types : TypeTable) (parts : List Ty) → AllByRecursion (λ part. (known_of types part).extent ≡ capped (extent_of types part)) parts → extents_in_all (map (known_of types) parts) ≡ map capped (map (extent_of types) parts)
extents_below types [] h = refl
extents_below types (part ∷ parts) h = ap (λ (extent : Extent). extent ∷ extents_in_all (map (known_of types) parts)) h.0 ∙ ap (λ (rest : List Extent). capped (extent_of types part) ∷ rest) (extents_below types parts h.1)

module _ (types : TypeTable) (sound : AreTypes types) where
  is_step : {A : Type 0} (step : Node → List A → A) (ty : Ty) (shape : TyShape) → IsType types ty → shape_at types ty ≡ Some shape → folded step types ty ≡ step (node_in types shape) (map (folded step types) (node_in types shape).parts)
  is_step step ty shape h e = folded_is step types ty (sound.ends ty h) ∙ ap (λ (node : Node). step node (map (folded step types) node.parts)) (node_found types ty shape e)

  -- the facts that are kept are those of the type
  pub known_facts : (ty : Ty) → IsType types ty → (known_of types ty).facts ≡ facts_of types ty
  known_facts = type_induction types sound (λ ty. (known_of types ty).facts ≡ facts_of types ty) (λ ty shape h e below.
      ap (λ (known : Known). known.facts) (is_step known_by ty shape h e)
      ∙ ap (facts_by (node_in types shape)) (facts_below types (node_in types shape).parts below)
      ∙ sym (is_step facts_by ty shape h e))

  -- and the extent that is kept is the type's, where that is below the top
  pub known_extent : (ty : Ty) → IsType types ty → (known_of types ty).extent ≡ capped (extent_of types ty)
  known_extent = type_induction types sound (λ ty. (known_of types ty).extent ≡ capped (extent_of types ty)) (λ ty shape h e below.
      ap (λ (known : Known). known.extent) (is_step known_by ty shape h e)
      ∙ ap (λ (extents : List Extent). capped (extent_in (node_in types shape).tree extents)) (extents_below types (node_in types shape).parts below)
      ∙ extent_capped (node_in types shape).tree (map (extent_of types) (node_in types shape).parts) (aligned types (node_in types shape).parts)
      ∙ ap capped (sym (is_step extent_by ty shape h e)))

  pub known_plain : (ty : Ty) → IsType types ty → (known_of types ty).plain ≡ is_plain (tree_of types ty)
  known_plain ty h =
      let found : (shape : TyShape) × (shape_at types ty ≡ Some shape) = get_found types.shapes ty.0 h in
      ap (λ (known : Known). known.plain) (is_step known_by ty found.0 h found.1) ∙ ap is_plain (sym (tree_step types.shapes sound.names ty found.0 found.1))

  pub found_known : (known : List Known) → AreKnown types known → (ty : Ty) → IsType types ty → known_at known ty ≡ known_of types ty
  found_known known are ty h = get_or_from_slice_get known ty.0 (known_of types ty) none_known (are.each ty h)

  pub plain_known : (known : List Known) → AreKnown types known → ArePlain types known
  plain_known known are ty h = ap (λ (k : Known). k.plain) (found_known known are ty h) ∙ known_plain ty h

  pub small_known : (known : List Known) → AreKnown types known → AreSmall known
  small_known known are ty within =
      let h : ty.0 < length types.shapes = (let e : length known ≡ length types.shapes = are.len in omega arith) in
      subst IsSmall (sym (ap (λ (k : Known). k.extent) (found_known known are ty h) ∙ known_extent ty h)) (small_capped (extent_of types ty) (some_extent types ty).align)
