-- What a caller's proof may cite of types. `Types::law_types` gives `AreTypes` of any `Types`.
use Rattle.std.proofs.Common.{◌≡◌, refl, sym, ◌∙◌, ap, ℕ, true, List, map, Option, Some, None, slice_get, is_some, arith}
use Rattle.std.specs.List.{AllByRecursion}
use Rattle.tb_types.specs.declared.shape.Ty.{Ty}
use Rattle.tb_types.specs.declared.shape.TyShape.{TyShape}
use Rattle.tb_types.specs.declared.shape.TyShape.TheVariants.{Struct}
use Rattle.tb_types.specs.declared.item.Field.{Field}
use Rattle.tb_types.specs.declared.item.Item.{Item}
use Rattle.tb_types.specs.Table.{TypeTable, IsType, AreNamed, shape_at, item_at, fields_of, named_in, IsKept, Extends}
use Rattle.tb_types.specs.Trees.{TypeTree, StructTree, tree_in, tree_of, IsSameType}
use Rattle.tb_types.specs.Folded.{Node, node_in, node_of, item_in, parts_in, folded, is_known}
use Rattle.tb_types.specs.Facts.{is_complete}
use Rattle.tb_types.specs.Sound.{AreTypes}
use Rattle.tb_types.proofs.Folding.{folded_is, same_folded}
use Rattle.tb_types.proofs.Within.{get_found, node_found, all_to}
use Rattle.tb_types.proofs.Trees.{tree_same, tree_kept}
use Rattle.tb_types.proofs.Places.{one_place}
use Rattle.tb_types.proofs.Complete.{IsReady, struct_known, parts_ready}
pub use Rattle.tb_types.proofs.Interned.{extends_itself}
pub use Rattle.tb_types.proofs.Within.{parts_types, all_snoc}
pub use Rattle.tb_types.proofs.Knowing.{type_induction}
pub use Rattle.tb_types.proofs.Trees.{tree_step}

-- what was extended twice was extended
pub extends_twice : (a b c : TypeTable) → Extends a b → Extends b c → Extends a c
extends_twice a b c x y = record {
  shapes = λ ty shape e. y.shapes ty shape (x.shapes ty shape e);
  items = λ number item e.
      let m : (now : Item) × (item_at b number ≡ Some now) × IsKept item now = x.items number item e in
      let n : (now : Item) × (item_at c number ≡ Some now) × IsKept m.0 now = y.items number m.0 m.1 in
      (n.0, n.1, record { name = n.2.name ∙ m.2.name; copy = n.2.copy ∙ m.2.copy; fields = λ fields f. n.2.fields fields (m.2.fields fields f) });
}

-- a shape has one number
pub one_number : (types : TypeTable) → AreTypes types → (a b : Ty) (shape : TyShape) → shape_at types a ≡ Some shape → shape_at types b ≡ Some shape → a ≡ b
one_number types sound a b shape e f = ap (λ n. record { 0 = n }) (one_place types.shapes a.0 b.0 shape sound.one_number e f)

-- the value of a type, by its shape and the values of what lies in it
pub folded_step : {A : Type 0} (step : Node → List A → A) (types : TypeTable) → AreTypes types → (ty : Ty) (shape : TyShape) → IsType types ty → shape_at types ty ≡ Some shape
    → folded step types ty ≡ step (node_in types shape) (map (folded step types) (node_in types shape).parts)
folded_step step types sound ty shape h e =
    folded_is step types ty (sound.ends ty h) ∙ ap (λ (node : Node). step node (map (folded step types) node.parts)) (node_found types ty shape e)

same_item : (old now : Item) (fields : List Field) → IsKept old now → old.fields ≡ Some fields → now ≡ old
same_item old now fields kept e i = let f : now.fields ≡ old.fields = kept.fields fields e ∙ sym e in record { name = kept.name i; copy = kept.copy i; fields = f i }

module _ (old new : TypeTable) (extends : Extends old new) where
  found_item : (number : ℕ) (found : Option Item) → slice_get old.items number ≡ found → is_some (fields_of found) ≡ true → slice_get new.items number ≡ slice_get old.items number
  found_item number None e h = cc
  found_item number (Some item) e h =
      let m : (now : Item) × (item_at new number ≡ Some now) × IsKept item now = extends.items number item e in
      m.1 ∙ ap Some (by_fields item.fields refl h m.0 m.2) ∙ sym e
    where
      by_fields : (fields : Option (List Field)) → item.fields ≡ fields → is_some fields ≡ true → (now : Item) → IsKept item now → now ≡ item
      by_fields None f h now kept = cc
      by_fields (Some fields) f h now kept = same_item item now fields kept f

  same_tree : AreNamed old.shapes → (shape : TyShape) → AllByRecursion (IsType old) (named_in shape) → tree_in shape (tree_of new) ≡ tree_in shape (tree_of old)
  same_tree named shape h = tree_same (tree_of new) (tree_of old) shape (all_to (named_in shape) h (tree_kept old.shapes named new.shapes extends.shapes))

  same_known : (shape : TyShape) → is_known shape (item_in old.items shape) ≡ true → tree_in shape (tree_of new) ≡ tree_in shape (tree_of old) → node_in new shape ≡ node_in old shape
  same_known (Struct number) h tree = ap (λ (item : Option Item). record { shape = Struct number; item = item; parts = parts_in (Struct number) item; tree = StructTree number }) (found_item number (slice_get old.items number) refl h)
  same_known shape h tree = ap (λ (t : TypeTree). record { shape = shape; item = item_in old.items shape; parts = parts_in shape (item_in old.items shape); tree = t }) tree

  module _ (old_sound : AreTypes old) (new_sound : AreTypes new) where
    same_ready : (ty : Ty) → IsReady old ty → node_of new ty ≡ node_of old ty
    same_ready ty h =
        let found : (shape : TyShape) × (shape_at old ty ≡ Some shape) = get_found old.shapes ty.0 h.0 in
        node_found new ty found.0 (extends.shapes ty found.0 found.1)
        ∙ same_known found.0 (struct_known old old_sound ty found.0 found.1 h) (same_tree old_sound.names found.0 (all_to (named_in found.0) (old_sound.names ty found.0 found.1) (λ part lower. omega arith)))
        ∙ sym (node_found old ty found.0 found.1)

    -- what a number means never changes: a type in which each struct is defined keeps its value
    pub folded_kept : {A : Type 0} (step : Node → List A → A) (ty : Ty) → IsType old ty → is_complete old ty ≡ true → IsType new ty → folded step new ty ≡ folded step old ty
    folded_kept step ty h complete now = same_folded old new (IsReady old) same_ready (parts_ready old old_sound) step ty (h, complete) (old_sound.ends ty h) (new_sound.ends ty now)

  -- and a type means the same, whatever is defined later
  pub same_type : AreTypes old → (ty : Ty) → IsType old ty → IsSameType new ty old ty
  same_type sound ty h = tree_kept old.shapes sound.names new.shapes extends.shapes ty h
