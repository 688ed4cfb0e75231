-- One more shape changes no type that was there.
use Rattle.std.proofs.Common.{◌≡◌, refl, sym, ◌∙◌, ap, subst, ℕ, suc, zero, ◌+◌, ◌-◌, ◌*◌, ◌^◌, ◌<◌, ◌≤◌, Bool, true, false, ◌&&◌, List, [], ◌∷◌, ◌++◌, length, map, Some, slice_get, arith, IfSome, if◌then◌else◌, inl, inr, ◌⊎◌}
use Rattle.std.specs.List.{AllByRecursion, list_all, list_any, IsDistinct}
use Rattle.std.specs.Cmp.{unsigned_Decides}
use Rattle.std.proofs.lemmas.List.{length-append, length-map}
use Rattle.std.proofs.lemmas.Option.{get_or_from_slice_get, slice_get_within}
use Rattle.std.proofs.lemmas.Bool.{cases_lt}
use Rattle.std.proofs.Math.Nat.{mul-suc, pow-suc}
use Rattle.tb_types.specs.declared.shape.Ty.{Ty}
use Rattle.tb_types.specs.declared.shape.TyShape.{TyShape}
use Rattle.tb_types.specs.declared.item.Field.{Field}
use Rattle.tb_types.specs.declared.facts.Facts.{Facts}
use Rattle.tb_types.specs.declared.known.Known.{Known}
use Rattle.tb_types.specs.Shapes.{shape_eq}
use Rattle.tb_types.specs.Table.{TypeTable, IsType, IsDeclared, shape_at, named_in, item_named, with_shape, Extends}
use Rattle.tb_types.specs.Folded.{Node, node_in, node_of, item_in, parts_in, folded_at, folded, depth_of, defined_in, fits_by}
use Rattle.tb_types.specs.Trees.{TypeTree, tree_of}
use Rattle.tb_types.specs.Facts.{facts_by}
use Rattle.tb_types.specs.Known.{known_by, known_of, known_at, none_known}
use Rattle.tb_types.specs.Sound.{IsField, AreTypes, AreKnown}
use Rattle.tb_types.proofs.Folding.{same_at, same_folded, folded_is, fits_within, map_all}
use Rattle.tb_types.proofs.Within.{get_left, get_seam, get_found, node_found, all_to, all_true, parts_all, items_all, parts_types}
use Rattle.tb_types.proofs.Trees.{tree_same, tree_kept}

pub power : (n : ℕ) → 1 ≤ 3 ^ n
power zero = omega arith
power (suc n) = let h : 1 ≤ 3 ^ n = power n in let e : 3 ^ suc n ≡ 3 ^ n * 3 = pow-suc 3 n in omega arith

-- a node fits where all of its parts do
pub fits_node : (node : Node) (f : Ty → Bool) → AllByRecursion (λ part. f part ≡ true) node.parts → fits_by node (map f node.parts) ≡ true
fits_node node f h =
    ap (λ b. b && list_all (λ c. c) (map f node.parts)) ((unsigned_Decides (length node.parts) (length (map f node.parts))).1 (sym (length-map node.parts f)))
    ∙ all_true f node.parts h

-- what is kept of a type
pub known_found : (known : List Known) (ty : Ty) (found : Known) → slice_get known ty.0 ≡ Some found → known_at known ty ≡ found
known_found known ty found e = get_or_from_slice_get known ty.0 found none_known e

pub extends_itself : (types : TypeTable) → Extends types types
extends_itself types = record {
  shapes = λ ty shape e. e;
  items = λ number item e. (item, e, record { name = refl; copy = refl; fields = λ fields f. f });
}

module _ (types : TypeTable) (sound : AreTypes types) (shape : TyShape) where
  abbrev pushed : TypeTable
  pushed = record types { shapes = types.shapes ++ shape ∷ [] }

  keeps_shapes : (ty : Ty) (other : TyShape) → slice_get types.shapes ty.0 ≡ Some other → slice_get pushed.shapes ty.0 ≡ Some other
  keeps_shapes ty other e = get_left types.shapes (shape ∷ []) ty.0 (slice_get_within types.shapes ty.0 other e) ∙ e

  -- what names types that were there is made of the same
  same_node : (other : TyShape) → AllByRecursion (IsType types) (named_in other) → node_in pushed other ≡ node_in types other
  same_node other h =
      ap (λ (tree : TypeTree). record { shape = other; item = item_in types.items other; parts = parts_in other (item_in types.items other); tree = tree })
      (tree_same (tree_of pushed) (tree_of types) other (all_to (named_in other) h (tree_kept types.shapes sound.names pushed.shapes keeps_shapes)))

  same_pushed : (ty : Ty) → IsType types ty → node_of pushed ty ≡ node_of types ty
  same_pushed ty h =
      let found : (other : TyShape) × (shape_at types ty ≡ Some other) = get_found types.shapes ty.0 h in
      node_found pushed ty found.0 (keeps_shapes ty found.0 found.1)
      ∙ same_node found.0 (all_to (named_in found.0) (sound.names ty found.0 found.1) (λ part lower. omega arith))
      ∙ sym (node_found types ty found.0 found.1)

  fits_pushed : (depth : ℕ) (ty : Ty) → IsType types ty → folded_at fits_by types depth ty ≡ true → folded_at fits_by pushed depth ty ≡ true
  fits_pushed depth ty h f = same_at types pushed (IsType types) same_pushed (parts_types types sound) fits_by depth ty h ∙ f

  deep_pushed : depth_of pushed ≡ 3 ^ defined_in types.items + depth_of types
  unfolding depth_of
  deep_pushed =
      ap (λ n. 3 ^ defined_in types.items * n) (length-append types.shapes (shape ∷ []) ∙ (let e : length types.shapes + 1 ≡ suc (length types.shapes) = omega arith in e))
      ∙ mul-suc (3 ^ defined_in types.items) (length types.shapes)
      ∙ (let c : 3 ^ defined_in types.items * length types.shapes + 3 ^ defined_in types.items ≡ 3 ^ defined_in types.items + 3 ^ defined_in types.items * length types.shapes = omega arith in c)

  raise : (ty : Ty) (depth : ℕ) → depth ≤ 3 ^ defined_in types.items + depth_of types → folded_at fits_by pushed depth ty ≡ true → folded_at fits_by pushed (depth_of pushed) ty ≡ true
  raise ty depth h f =
      subst (λ n. folded_at fits_by pushed n ty ≡ true) ((let e : (3 ^ defined_in types.items + depth_of types - depth) + depth ≡ 3 ^ defined_in types.items + depth_of types = omega arith in e) ∙ sym deep_pushed)
      (fits_within pushed depth (3 ^ defined_in types.items + depth_of types - depth) ty f)

  ends_old : (ty : Ty) → IsType types ty → folded_at fits_by pushed (depth_of pushed) ty ≡ true
  ends_old ty h = raise ty (depth_of types) (omega arith) (fits_pushed (depth_of types) ty h (sound.ends ty h))

  -- what a type is, it stays
  pub kept_pushed : {A : Type 0} (step : Node → List A → A) (ty : Ty) → IsType types ty → folded step pushed ty ≡ folded step types ty
  kept_pushed step ty h = same_folded types pushed (IsType types) same_pushed (parts_types types sound) step ty h (sound.ends ty h) (ends_old ty h)

  module _ (named : AllByRecursion (IsType types) (named_in shape)) (declared : IfSome (item_named shape) (IsDeclared types)) where
    own_parts : AllByRecursion (IsType types) (node_in types shape).parts
    own_parts = parts_all (IsType types) types shape named (items_all (IsType types) types shape (λ item fields e. all_to fields (sound.fields item fields e) (λ field is. is.is_type)))

    own_node : (ty : Ty) → ty.0 ≡ length types.shapes → node_of pushed ty ≡ node_in types shape
    own_node ty e = node_found pushed ty shape (get_seam types.shapes shape ty.0 e) ∙ same_node shape named

    own_fits : (ty : Ty) → ty.0 ≡ length types.shapes → AllByRecursion (λ part. folded_at fits_by pushed (depth_of types) part ≡ true) (node_in types shape).parts → folded_at fits_by pushed (suc (depth_of types)) ty ≡ true
    unfolding folded_at
    own_fits ty e all = ap (λ (node : Node). fits_by node (map (folded_at fits_by pushed (depth_of types)) node.parts)) (own_node ty e) ∙ fits_node (node_in types shape) (folded_at fits_by pushed (depth_of types)) all

    own_ends : (ty : Ty) → ty.0 ≡ length types.shapes → folded_at fits_by pushed (depth_of pushed) ty ≡ true
    own_ends ty e =
        let all : AllByRecursion (λ part. folded_at fits_by pushed (depth_of types) part ≡ true) (node_in types shape).parts =
        all_to (node_in types shape).parts own_parts (λ part h. fits_pushed (depth_of types) part h (sound.ends part h)) in
        let one : 1 ≤ 3 ^ defined_in types.items = power (defined_in types.items) in
        raise ty (suc (depth_of types)) (omega arith) (own_fits ty e all)

    pushed_length : length pushed.shapes ≡ length types.shapes + 1
    pushed_length = length-append types.shapes (shape ∷ [])

    old_or_own : (ty : Ty) → IsType pushed ty → (IsType types ty) ⊎ (ty.0 ≡ length types.shapes)
    old_or_own ty h =
        let e : length pushed.shapes ≡ length types.shapes + 1 = pushed_length in
        elim (cases_lt ty.0 (length types.shapes)) [ inl old ↦ inl old | inr own ↦ inr (omega arith) ]

    own_shape : (ty : Ty) (other : TyShape) → ty.0 ≡ length types.shapes → shape_at pushed ty ≡ Some other → shape ≡ other
    own_shape ty other own e = let f : shape_at pushed ty ≡ Some shape = get_seam types.shapes shape ty.0 own in cc

    old_shape : (ty : Ty) (other : TyShape) → IsType types ty → shape_at pushed ty ≡ Some other → shape_at types ty ≡ Some other
    old_shape ty other old e = sym (get_left types.shapes (shape ∷ []) ty.0 old) ∙ e

    names_pushed : (ty : Ty) (other : TyShape) → shape_at pushed ty ≡ Some other → AllByRecursion (λ (part : Ty). part.0 < ty.0) (named_in other)
    names_pushed ty other e =
        elim (old_or_own ty (slice_get_within pushed.shapes ty.0 other e)) [
          | inl old ↦ sound.names ty other (old_shape ty other old e)
          | inr own ↦ subst (λ (s : TyShape). AllByRecursion (λ (part : Ty). part.0 < ty.0) (named_in s)) (own_shape ty other own e) (all_to (named_in shape) named (λ part h. omega arith))
        ]

    declared_pushed : (ty : Ty) (other : TyShape) → shape_at pushed ty ≡ Some other → IfSome (item_named other) (IsDeclared pushed)
    declared_pushed ty other e =
        elim (old_or_own ty (slice_get_within pushed.shapes ty.0 other e)) [
          | inl old ↦ sound.declared ty other (old_shape ty other old e)
          | inr own ↦ subst (λ (s : TyShape). IfSome (item_named s) (IsDeclared types)) (own_shape ty other own e) declared
        ]

    field_pushed : (field : Field) → IsField types field → IsField pushed field
    field_pushed field is = record {
      is_type = let e : length pushed.shapes ≡ length types.shapes + 1 = pushed_length in let h : field.ty.0 < length types.shapes = is.is_type in omega arith;
      complete = ap (λ (fact : Facts). fact.complete) (kept_pushed facts_by field.ty is.is_type) ∙ is.complete;
    }

    ends_pushed : (ty : Ty) → IsType pushed ty → folded_at fits_by pushed (depth_of pushed) ty ≡ true
    ends_pushed ty h = elim (old_or_own ty h) [ inl old ↦ ends_old ty old | inr own ↦ own_ends ty own ]

    pub sound_pushed : IsDistinct shape_eq pushed.shapes → AreTypes pushed
    sound_pushed distinct = record {
      one_number = distinct;
      names = names_pushed;
      declared = declared_pushed;
      fields = λ item fields e. all_to fields (sound.fields item fields e) field_pushed;
      ends = ends_pushed;
    }

    own_known : (known : List Known) → AreKnown types known → (ty : Ty) → ty.0 ≡ length types.shapes → known_of pushed ty ≡ known_by (node_in types shape) (map (known_at known) (node_in types shape).parts)
    own_known known are ty own =
        folded_is known_by pushed ty (own_ends ty own)
        ∙ ap (λ (node : Node). known_by node (map (known_of pushed) node.parts)) (own_node ty own)
        ∙ ap (known_by (node_in types shape)) (map_all (IsType types) (known_of pushed) (known_at known) (node_in types shape).parts own_parts
        (λ part h. kept_pushed known_by part h ∙ sym (known_found known part (known_of types part) (are.each part h))))

    pub known_pushed : (known : List Known) → AreKnown types known → AreKnown pushed (known ++ known_by (node_in types shape) (map (known_at known) (node_in types shape).parts) ∷ [])
    known_pushed known are = record {
      len = length-append known (known_by (node_in types shape) (map (known_at known) (node_in types shape).parts) ∷ []) ∙ ap (λ n. n + 1) are.len ∙ sym pushed_length;
      each = λ ty h. elim (old_or_own ty h) [
        | inl old ↦ get_left known (known_by (node_in types shape) (map (known_at known) (node_in types shape).parts) ∷ []) ty.0 (let e : length known ≡ length types.shapes = are.len in omega arith)
            ∙ are.each ty old ∙ ap Some (sym (kept_pushed known_by ty old))
        | inr own ↦ get_seam known (known_by (node_in types shape) (map (known_at known) (node_in types shape).parts)) ty.0 (own ∙ sym are.len) ∙ ap Some (sym (own_known known are ty own))
      ];
    }

  pub extends_pushed : Extends types pushed
  extends_pushed = record {
    shapes = λ ty other e. get_left types.shapes (shape ∷ []) ty.0 (slice_get_within types.shapes ty.0 other e) ∙ e;
    items = λ number item e. (item, e, record { name = refl; copy = refl; fields = λ fields f. f });
  }

-- with a shape that may have been there
module _ (types : TypeTable) (sound : AreTypes types) (shape : TyShape) where
  abbrev given : Bool → TypeTable
  given there = record types { shapes = if there then types.shapes else types.shapes ++ shape ∷ [] }

  extends_given : (there : Bool) → Extends types (given there)
  extends_given true = extends_itself types
  extends_given false = extends_pushed types sound shape

  pub extends_with : Extends types (with_shape types shape)
  extends_with = extends_given (list_any (shape_eq shape) types.shapes)

  module _ (named : AllByRecursion (IsType types) (named_in shape)) (declared : IfSome (item_named shape) (IsDeclared types)) where
    sound_given : (there : Bool) → IsDistinct shape_eq (given there).shapes → AreTypes (given there)
    sound_given true distinct = sound
    sound_given false distinct = sound_pushed types sound shape named declared distinct

    pub sound_with : IsDistinct shape_eq (with_shape types shape).shapes → AreTypes (with_shape types shape)
    sound_with = sound_given (list_any (shape_eq shape) types.shapes)

    known_given : (there : Bool) (known : List Known) → AreKnown types known → AreKnown (given there) (if there then known else known ++ known_by (node_in types shape) (map (known_at known) (node_in types shape).parts) ∷ [])
    known_given true known are = are
    known_given false known are = known_pushed types sound shape named declared known are

    pub known_with : (known : List Known) → AreKnown types known → AreKnown (with_shape types shape) (if list_any (shape_eq shape) types.shapes then known else known ++ known_by (node_in types shape) (map (known_at known) (node_in types shape).parts) ∷ [])
    known_with = known_given (list_any (shape_eq shape) types.shapes)
