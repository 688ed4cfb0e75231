-- What the fields of a `Types` keep.
use Rattle.std.proofs.Common.{◌≡◌, sym, ◌∙◌, ap, subst, ℕ, ◌+◌, ◌^◌, ◌<◌, ◌≤◌, Bool, true, false, List, [], ◌∷◌, ◌++◌, length, map, Some, None, slice_get, slice_set, slice_index_or, arith, IfSome, if◌then◌else◌, Result, Ok, Err, OnOk, OnErr, inl, inr, ◌⊎◌}
use Rattle.std.specs.List.{AllByRecursion, list_any, position_or_len, IsDistinct}
use Rattle.std.proofs.lemmas.List.{length-append}
use Rattle.tb_types.specs.declared.shape.Ty.{Ty}
use Rattle.tb_types.specs.declared.shape.TyShape.{TyShape}
use Rattle.tb_types.specs.declared.item.Field.{Field}
use Rattle.tb_types.specs.declared.item.Item.{Item}
use Rattle.tb_types.specs.declared.known.Known.{Known}
use Rattle.tb_types.specs.Shapes.{shape_eq}
use Rattle.tb_types.specs.Table.{TypeTable, IsType, IsDeclared, shape_at, fields_of, fields_at, named_in, item_named, with_shape, defining, with_fields, Extends}
use Rattle.tb_types.specs.Folded.{node_in}
use Rattle.tb_types.specs.Facts.{facts_of}
use Rattle.tb_types.specs.Extent.{extent_of}
use Rattle.tb_types.specs.Capped.{capped}
use Rattle.tb_types.specs.Known.{known_by, known_of, known_at, fact_at, IsWithin, ArePlain, AreSmall}
use Rattle.tb_types.specs.Sound.{IsField, AreTypes, AreKnown}
use Rattle.tb_types.specs.Kept.{IsKeptSound, table_of}
use Rattle.tb_types.proofs.Within.{get_found, all_to, parts_all, items_all}
use Rattle.tb_types.proofs.Interned.{sound_with, known_with, extends_with, extends_itself}
use Rattle.tb_types.proofs.Declared.{sound_declared, known_declared, extends_declared}
use Rattle.tb_types.proofs.Defined.{sound_defined, fields_known, ready_known, extends_defined}
use Rattle.tb_types.proofs.Places.{at_place, one_place}
use Rattle.tb_types.proofs.Knowing.{plain_known, small_known, known_facts, known_extent, found_known}
use Rattle.tb_types.proofs.Plain.{same_read}

-- the known of what lies in a new shape are there
pub own_within : (shapes : List TyShape) (items : List Item) (known : List Known) → IsKeptSound shapes items known → (shape : TyShape) → AllByRecursion (IsType (table_of shapes items)) (named_in shape) → AllByRecursion (IsWithin known) (node_in (table_of shapes items) shape).parts
own_within shapes items known kept shape named =
    let e : length known ≡ length shapes = kept.known_are.len in
    parts_all (IsWithin known) (table_of shapes items) shape (all_to (named_in shape) named (λ part h. omega arith))
    (items_all (IsWithin known) (table_of shapes items) shape (λ item fields f. all_to fields (kept.sound.fields item fields f) (λ field is. let h : field.ty.0 < length shapes = is.is_type in omega arith)))

few_with : (known : Bool) (shapes : List TyShape) (shape : TyShape) → length shapes < 2 ^ 31 → length (if known then shapes else shapes ++ shape ∷ []) ≤ 2 ^ 31
few_with true shapes shape room = omega arith
few_with false shapes shape room = let e : length (shapes ++ shape ∷ []) ≡ length shapes + 1 = length-append shapes (shape ∷ []) in omega arith

pub kept_with : (shapes : List TyShape) (items : List Item) (known : List Known) → IsKeptSound shapes items known → (shape : TyShape) → AllByRecursion (IsType (table_of shapes items)) (named_in shape) → IfSome (item_named shape) (IsDeclared (table_of shapes items))
    → (more : List TyShape) (now : List Known) → more ≡ (if list_any (shape_eq shape) shapes then shapes else shapes ++ shape ∷ [])
    → now ≡ (if list_any (shape_eq shape) shapes then known else known ++ known_by (node_in (table_of shapes items) shape) (map (known_at known) (node_in (table_of shapes items) shape).parts) ∷ [])
    → IsDistinct shape_eq more → length shapes < 2 ^ 31 → IsKeptSound more items now
kept_with shapes items known kept shape named declared more now e f distinct room = record {
  few = subst (λ (list : List TyShape). length list ≤ 2 ^ 31) (sym e) (few_with (list_any (shape_eq shape) shapes) shapes shape room);
  sound = subst (λ (list : List TyShape). AreTypes (table_of list items)) (sym e) (sound_with (table_of shapes items) kept.sound shape named declared (subst (IsDistinct shape_eq) e distinct));
  known_are = subst (λ (list : List TyShape). AreKnown (table_of list items) now) (sym e) (subst (AreKnown (with_shape (table_of shapes items) shape)) (sym f) (known_with (table_of shapes items) kept.sound shape named declared known kept.known_are));
}

pub extends_to : (shapes more : List TyShape) (items : List Item) (known : List Known) → IsKeptSound shapes items known → (shape : TyShape) → more ≡ (if list_any (shape_eq shape) shapes then shapes else shapes ++ shape ∷ []) → Extends (table_of shapes items) (table_of more items)
extends_to shapes more items known kept shape e = subst (λ (list : List TyShape). Extends (table_of shapes items) (table_of list items)) (sym e) (extends_with (table_of shapes items) kept.sound shape)

pub extends_same : (shapes more : List TyShape) (items : List Item) → more ≡ shapes → Extends (table_of shapes items) (table_of more items)
extends_same shapes more items e = subst (λ (list : List TyShape). Extends (table_of shapes items) (table_of list items)) (sym e) (extends_itself (table_of shapes items))

pub placed : (shapes more : List TyShape) (shape : TyShape) (place : ℕ) → more ≡ (if list_any (shape_eq shape) shapes then shapes else shapes ++ shape ∷ []) → place ≡ position_or_len (shape_eq shape) shapes → slice_get more place ≡ Some shape
placed shapes more shape place e f = ap (slice_get more) f ∙ ap (λ (list : List TyShape). slice_get list (position_or_len (shape_eq shape) shapes)) e ∙ at_place shapes shape

pub only_place : (shapes : List TyShape) (items : List Item) (known : List Known) → IsKeptSound shapes items known → (place : ℕ) (shape : TyShape) → slice_get shapes place ≡ Some shape → (other : Ty) → shape_at (table_of shapes items) other ≡ Some shape → other ≡ record { 0 = place }
only_place shapes items known kept place shape e other f = ap (λ n. record { 0 = n }) (one_place shapes other.0 place shape kept.sound.one_number f e)

-- what is kept says whether trees are plain, and can be counted on
pub kept_plain : (shapes : List TyShape) (items : List Item) (known : List Known) → IsKeptSound shapes items known → ArePlain (table_of shapes items) known
kept_plain shapes items known kept = plain_known (table_of shapes items) kept.sound known kept.known_are

pub kept_small : (shapes : List TyShape) (items : List Item) (known : List Known) → IsKeptSound shapes items known → AreSmall known
kept_small shapes items known kept = small_known (table_of shapes items) kept.sound known kept.known_are

-- one more declared struct
module _ (shapes : List TyShape) (items : List Item) (known : List Known) (kept : IsKeptSound shapes items known) (name : List ℕ) (copy : Bool) (more : List Item) (e : more ≡ items ++ record { name = name; copy = copy; fields = None } ∷ []) where
  pub kept_declared : IsKeptSound shapes more known
  kept_declared = subst (λ (list : List Item). IsKeptSound shapes list known) (sym e) (record {
    sound = sound_declared (table_of shapes items) kept.sound name copy;
    known_are = known_declared (table_of shapes items) kept.sound name copy known kept.known_are;
    few = kept.few;
  })

  pub extends_one_more : Extends (table_of shapes items) (table_of shapes more)
  extends_one_more = subst (λ (list : List Item). Extends (table_of shapes items) (table_of shapes list)) (sym e) (extends_declared (table_of shapes items) kept.sound name copy)

pub extends_same_items : (shapes : List TyShape) (items more : List Item) → more ≡ items → Extends (table_of shapes items) (table_of shapes more)
extends_same_items shapes items more e = subst (λ (list : List Item). Extends (table_of shapes items) (table_of shapes list)) (sym e) (extends_itself (table_of shapes items))

-- a struct that gets its fields
module _ (shapes : List TyShape) (items : List Item) (known : List Known) (kept : IsKeptSound shapes items known) (number : ℕ) (declared : number < length items) (once : fields_at (table_of shapes items) number ≡ None)
    (fields : List Field) (are : AllByRecursion (IsField (table_of shapes items)) fields) (more : List Item) (given : (item : Item) → slice_get items number ≡ Some item → more ≡ slice_set items number (record item { fields = Some fields })) where
  the_item : (item : Item) × (slice_get items number ≡ Some item)
  the_item = get_found items number declared

  unset : the_item.0.fields ≡ None
  unset = ap fields_of (sym the_item.1) ∙ once

  is_more : more ≡ slice_set items number (record the_item.0 { fields = Some fields })
  is_more = given the_item.0 the_item.1

  pub defined_sound : AreTypes (table_of shapes more)
  defined_sound = subst (λ (list : List Item). AreTypes (table_of shapes list)) (sym is_more) (sound_defined (table_of shapes items) kept.sound number the_item.0 the_item.1 unset fields are)

  pub defined_known : (other : ℕ) (others : List Field) → fields_at (table_of shapes more) other ≡ Some others → AllByRecursion (λ (field : Field). slice_get known field.ty.0 ≡ Some (known_of (table_of shapes more) field.ty)) others
  defined_known = subst (λ (list : List Item). (other : ℕ) (others : List Field) → fields_at (table_of shapes list) other ≡ Some others → AllByRecursion (λ (field : Field). slice_get known field.ty.0 ≡ Some (known_of (table_of shapes list) field.ty)) others) (sym is_more)
      (fields_known (table_of shapes items) kept.sound number the_item.0 the_item.1 unset fields are known kept.known_are)

  pub defined_kept : (now : List Known) → length now ≡ length known → ((ty : Ty) → IsType (table_of shapes more) ty → slice_get now ty.0 ≡ Some (known_of (table_of shapes more) ty)) → IsKeptSound shapes more now
  defined_kept now len each = record { sound = defined_sound; known_are = record { len = len ∙ kept.known_are.len; each = each }; few = kept.few }

  pub defined_ready : (ty : Ty) → IsType (table_of shapes more) ty → (fact_at known ty).complete ≡ true → slice_get known ty.0 ≡ Some (known_of (table_of shapes more) ty)
  defined_ready = subst (λ (list : List Item). (ty : Ty) → IsType (table_of shapes list) ty → (fact_at known ty).complete ≡ true → slice_get known ty.0 ≡ Some (known_of (table_of shapes list) ty)) (sym is_more)
      (ready_known (table_of shapes items) kept.sound number the_item.0 the_item.1 unset fields are known kept.known_are)

  pub defined_types : table_of shapes more ≡ with_fields (table_of shapes items) number fields
  defined_types = ap (table_of shapes) is_more ∙ sym (ap (defining (table_of shapes items) number fields) the_item.1)

  pub defined_extends : Extends (table_of shapes items) (table_of shapes more)
  defined_extends = subst (λ (list : List Item). Extends (table_of shapes items) (table_of shapes list)) (sym is_more) (extends_defined (table_of shapes items) kept.sound number the_item.0 the_item.1 unset fields are)

-- what a result says in both cases
pub either : {T E : Type 0} {A B : Type 0} (result : Result T E) → OnOk result A → OnErr result B → A ⊎ B
either (Ok x) a b = inl a
either (Err e) a b = inr b

-- what is read of a type says what the type is
pub known_read : (shapes : List TyShape) (items : List Item) (known : List Known) → IsKeptSound shapes items known → (now : TypeTable) → table_of shapes items ≡ now → (ty : Ty) → IsType now ty → (read : Known) → read ≡ slice_index_or known ty.0 read
    → (read.facts ≡ facts_of now ty) × (read.extent ≡ capped (extent_of now ty))
known_read shapes items known kept now e ty =
    subst (λ (types : TypeTable). IsType types ty → (read : Known) → read ≡ slice_index_or known ty.0 read → (read.facts ≡ facts_of types ty) × (read.extent ≡ capped (extent_of types ty))) e
    (λ h read is.
    let types = table_of shapes items in
    let len : length known ≡ length shapes = kept.known_are.len in
    let f : read ≡ known_of types ty = is ∙ same_read known ty read (omega arith) ∙ found_known types kept.sound known kept.known_are ty h in
    (ap (λ (k : Known). k.facts) f ∙ known_facts types kept.sound ty h, ap (λ (k : Known). k.extent) f ∙ known_extent types kept.sound ty h))
