-- Parts within the limits, placed one after another.
use Rattle.std.proofs.Common.{◌≡◌, refl, sym, ◌∙◌, ap, subst, ℕ, ◌+◌, ◌≤◌, Bool, true, ◌&&◌, List, [], ◌∷◌, ◌++◌, map, drop, Some, Option, slice_get, arith, add-one, suc, zero}
use Rattle.std.specs.Prelude.{nat_le}
use Rattle.std.specs.List.{AllByRecursion}
use Rattle.std.specs.Cmp.{first_so, second_so}
use Rattle.std.proofs.lemmas.Bool.{leb-true, le-leb}
use Rattle.std.proofs.lemmas.List.{append_assoc}
use Rattle.tb_types.specs.declared.shape.Ty.{Ty}
use Rattle.tb_types.specs.declared.shape.TyShape.{TyShape}
use Rattle.tb_types.specs.declared.shape.TyShape.TheVariants.{Tuple, Struct}
use Rattle.tb_types.specs.Table.{TypeTable, IsType, shape_at, named_in}
use Rattle.tb_types.specs.Folded.{Node, node_in}
use Rattle.tb_types.specs.Pieces.{side_by_side}
use Rattle.tb_types.specs.Sound.{AreTypes}
use Rattle.tb_types.specs.declared.extent.Extent.{Extent}
use Rattle.tb_types.specs.declared.extent.Row.{Row}
use Rattle.tb_types.specs.Extent.{rounded, nothing, with_part, laid, together, extent_in, extent_by, extent_of, is_within, fits}
use Rattle.tb_layout.specs.Layout.{places}
use Rattle.tb_layout.specs.LaysOut.{AreLaidOut, AreRoomy}
use Rattle.tb_types.proofs.Capping.{AreAligned, rounded_above, laid_align, laid_levels}
use Rattle.tb_types.proofs.Extents.{some_extent, aligned}
use Rattle.tb_types.proofs.CallerLemmas.{folded_step, parts_types}
use Rattle.tb_types.proofs.Within.{get_found, all_to, node_found}

abbrev pub row_at : ℕ → Row
row_at end = record nothing { end = end }

-- the extent of a type by its shape
pub extent_is : (types : TypeTable) → AreTypes types → (ty : Ty) (shape : TyShape) → IsType types ty → shape_at types ty ≡ Some shape
    → extent_of types ty ≡ extent_in (node_in types shape).tree (map (extent_of types) (node_in types shape).parts)
extent_is types sound ty shape h e = folded_step extent_by types sound ty shape h e

-- what a shape names, and what lies in it, are types
pub named_types : (types : TypeTable) → AreTypes types → (ty : Ty) (shape : TyShape) → IsType types ty → shape_at types ty ≡ Some shape → AllByRecursion (IsType types) (named_in shape)
named_types types sound ty shape h e = all_to (named_in shape) (sound.names ty shape e) (λ part lower. omega arith)

pub own_parts : (types : TypeTable) → AreTypes types → (ty : Ty) (shape : TyShape) → IsType types ty → shape_at types ty ≡ Some shape → AllByRecursion (IsType types) (node_in types shape).parts
own_parts types sound ty shape h e = subst (λ (node : Node). AllByRecursion (IsType types) node.parts) (node_found types ty shape e) (parts_types types sound ty h)

pub end_grows : (row : Row) (parts : List Extent) → AreAligned parts → row.end ≤ (laid row parts).end
end_grows row [] h = omega arith
end_grows row (part ∷ parts) h =
    let a : row.end ≤ rounded row.end part.align = rounded_above row.end part.align h.0 in
    let b : (with_part row part).end ≤ (laid (with_part row part) parts).end = end_grows (with_part row part) parts h.1 in
    omega arith

parts_grow : (row : Row) (parts : List Extent) → row.parts ≤ (laid row parts).parts
parts_grow row [] = omega arith
parts_grow row (part ∷ parts) = let h : (with_part row part).parts ≤ (laid (with_part row part) parts).parts = parts_grow (with_part row part) parts in omega arith

-- where parts end depends on where they begin alone
pub same_end : (a b : Row) (parts : List Extent) → a.end ≡ b.end → (laid a parts).end ≡ (laid b parts).end
same_end a b [] e = e
same_end a b (part ∷ parts) e = same_end (with_part a part) (with_part b part) parts (ap (λ n. rounded n part.align + part.size) e)

pub record HasRoom (end : ℕ) (part : Extent) (parts : List Extent) : Type 0 where
  pub end_fits : end ≤ 1048576
  pub part_fits : rounded end part.align + part.size ≤ 1048576
  pub rest_fits : (laid (row_at (rounded end part.align + part.size)) parts).end ≤ 1048576

pub has_room : (end : ℕ) (part : Extent) (parts : List Extent) → AreAligned (part ∷ parts) → (laid (row_at end) (part ∷ parts)).end ≤ 1048576 → HasRoom end part parts
has_room end part parts h room =
    let a : end ≤ rounded end part.align = rounded_above end part.align h.0 in
    let b : rounded end part.align + part.size ≤ (laid (with_part (row_at end) part) parts).end = end_grows (with_part (row_at end) part) parts h.1 in
    let e : (laid (row_at (rounded end part.align + part.size)) parts).end ≡ (laid (with_part (row_at end) part) parts).end = same_end (row_at (rounded end part.align + part.size)) (with_part (row_at end) part) parts refl in
    record { end_fits = omega arith; part_fits = omega arith; rest_fits = omega arith }

-- one step over parts that are left
module _ (types : TypeTable) (rest : List Ty) (part : Ty) (more : List Ty) (is : rest ≡ part ∷ more) where
  pub types_step : (P : Ty → Type 0) → AllByRecursion P rest → P part × AllByRecursion P more
  types_step P h = subst (AllByRecursion P) is h

  pub room_step : (end : ℕ) → (laid (row_at end) (map (extent_of types) rest)).end ≤ 1048576 → HasRoom end (extent_of types part) (map (extent_of types) more)
  room_step end room = has_room end (extent_of types part) (map (extent_of types) more) (aligned types (part ∷ more)) (subst (λ (list : List Ty). (laid (row_at end) (map (extent_of types) list)).end ≤ 1048576) is room)

  pub places_step : (end next : ℕ) (old new total : List ℕ) → next ≡ rounded end (extent_of types part).align + (extent_of types part).size → new ≡ old ++ rounded end (extent_of types part).align ∷ []
      → old ++ places end (map (extent_of types) rest) ≡ total → new ++ places next (map (extent_of types) more) ≡ total
  places_step end next old new total e f told =
      ap (λ (list : List ℕ). list ++ places next (map (extent_of types) more)) f
      ∙ ap (λ n. (old ++ rounded end (extent_of types part).align ∷ []) ++ places n (map (extent_of types) more)) e
      ∙ append_assoc old (rounded end (extent_of types part).align ∷ []) (places (rounded end (extent_of types part).align + (extent_of types part).size) (map (extent_of types) more))
      ∙ ap (λ (list : List Ty). old ++ places end (map (extent_of types) list)) (sym is) ∙ told

-- and none
append_none : (list : List ℕ) → list ++ [] ≡ list
append_none [] = refl
append_none (x ∷ list) = ap (λ (rest : List ℕ). x ∷ rest) (append_none list)

pub places_end : (types : TypeTable) (rest : List Ty) (end : ℕ) (offsets total : List ℕ) → rest ≡ [] → offsets ++ places end (map (extent_of types) rest) ≡ total → offsets ≡ total
places_end types rest end offsets total is told = sym (append_none offsets) ∙ sym (ap (λ (list : List Ty). offsets ++ places end (map (extent_of types) list)) is) ∙ told

-- what is left of parts, by a look-up
next_is : {X : Type 0} (xs : List X) (i : ℕ) (x : X) → slice_get xs i ≡ Some x → drop i xs ≡ x ∷ drop (suc i) xs
next_is [] i x e = cc
next_is (y ∷ xs) zero x e = let f : y ≡ x = cc in ap (λ z. z ∷ xs) f
next_is (y ∷ xs) (suc i) x e = next_is xs i x e

none_left : {X : Type 0} (xs : List X) (i : ℕ) → ((x : X) → slice_get xs i ≡ Some x → ⊥) → drop i xs ≡ []
none_left [] zero h = refl
none_left [] (suc i) h = refl
none_left (x ∷ xs) zero h = absurd (h x refl)
none_left (x ∷ xs) (suc i) h = none_left xs i h

pub part_is : (types : TypeTable) (ty : Ty) (place : ℕ) (found : Option Ty) (part : Ty) → found ≡ slice_get (side_by_side types (shape_at types ty)) place → found ≡ Some part
    → drop place (side_by_side types (shape_at types ty)) ≡ part ∷ drop (place + 1) (side_by_side types (shape_at types ty))
part_is types ty place found part e f = next_is (side_by_side types (shape_at types ty)) place part (sym e ∙ f) ∙ ap (λ n. part ∷ drop n (side_by_side types (shape_at types ty))) (sym (add-one place))

pub no_part : (types : TypeTable) (ty : Ty) (place : ℕ) (found : Option Ty) → found ≡ slice_get (side_by_side types (shape_at types ty)) place → ((part : Ty) → found ≡ Some part → ⊥) → drop place (side_by_side types (shape_at types ty)) ≡ []
no_part types ty place found e h = none_left (side_by_side types (shape_at types ty)) place (λ part f. h part (e ∙ f))

-- each part is no larger than all of them
pub record IsNoLarger (row : Row) (part : Extent) : Type 0 where
  pub size : part.size ≤ row.end
  pub parts : part.parts ≤ row.parts
  pub levels : part.levels ≤ row.levels

pub no_larger : (row : Row) (parts : List Extent) → AreAligned parts → AllByRecursion (IsNoLarger (laid row parts)) parts
no_larger row [] h = tt
no_larger row (part ∷ parts) h =
    let a : row.end ≤ rounded row.end part.align = rounded_above row.end part.align h.0 in
    let b : (with_part row part).end ≤ (laid (with_part row part) parts).end = end_grows (with_part row part) parts h.1 in
    let c : (with_part row part).parts ≤ (laid (with_part row part) parts).parts = parts_grow (with_part row part) parts in
    let d : (with_part row part).levels ≤ (laid (with_part row part) parts).levels = laid_levels (with_part row part) parts in
    (record { size = omega arith; parts = omega arith; levels = omega arith }, no_larger (with_part row part) parts h.1)

pub both_true : (a b : Bool) → a ≡ true → b ≡ true → (a && b) ≡ true
both_true a b e f = ap (λ x. x && b) e ∙ f

within_is : (extent : Extent) → extent.size ≤ 1048576 → extent.parts ≤ 4194304 → extent.levels ≤ 1024 → is_within extent ≡ true
within_is extent a b c = both_true (nat_le extent.size 1048576) (nat_le extent.parts 4194304 && nat_le extent.levels 1024) (le-leb extent.size 1048576 a) (both_true (nat_le extent.parts 4194304) (nat_le extent.levels 1024) (le-leb extent.parts 4194304 b) (le-leb extent.levels 1024 c))

each_within : (types : TypeTable) (row : Row) (parts : List Ty) → row.end ≤ 1048576 → row.parts ≤ 4194304 → row.levels ≤ 1024 → AllByRecursion (IsNoLarger row) (map (extent_of types) parts) → AllByRecursion (λ part. fits types part ≡ true) parts
each_within types row [] a b c h = tt
each_within types row (part ∷ parts) a b c h =
    let s : (extent_of types part).size ≤ row.end = h.0.size in
    let p : (extent_of types part).parts ≤ row.parts = h.0.parts in
    let l : (extent_of types part).levels ≤ row.levels = h.0.levels in
    (within_is (extent_of types part) (omega arith) (omega arith) (omega arith), each_within types row parts a b c h.1)

pub laid_out : (types : TypeTable) (parts : List Ty) → is_within (together (map (extent_of types) parts)) ≡ true → AreLaidOut types parts
laid_out types parts h =
    let row : Row = laid nothing (map (extent_of types) parts) in
    let align : 1 ≤ row.align = laid_align nothing (map (extent_of types) parts) in
    let up : row.end ≤ rounded row.end row.align = rounded_above row.end row.align align in
    let size : rounded row.end row.align ≤ 1048576 = leb-true (rounded row.end row.align) 1048576 (first_so (nat_le (rounded row.end row.align) 1048576) (nat_le (row.parts + 1) 4194304 && nat_le (row.levels + 1) 1024) h) in
    let rest : (nat_le (row.parts + 1) 4194304 && nat_le (row.levels + 1) 1024) ≡ true = second_so (nat_le (rounded row.end row.align) 1048576) (nat_le (row.parts + 1) 4194304 && nat_le (row.levels + 1) 1024) h in
    let count : row.parts + 1 ≤ 4194304 = leb-true (row.parts + 1) 4194304 (first_so (nat_le (row.parts + 1) 4194304) (nat_le (row.levels + 1) 1024) rest) in
    let levels : row.levels + 1 ≤ 1024 = leb-true (row.levels + 1) 1024 (second_so (nat_le (row.parts + 1) 4194304) (nat_le (row.levels + 1) 1024) rest) in
    record {
      each = each_within types row parts (omega arith) (omega arith) (omega arith) (no_larger nothing (map (extent_of types) parts) (aligned types parts));
      room = omega arith;
    }

by_shape : (types : TypeTable) (shape : TyShape) → is_within (extent_in (node_in types shape).tree (map (extent_of types) (node_in types shape).parts)) ≡ true → AreLaidOut types (side_by_side types (Some shape))
by_shape types (Tuple parts) h = laid_out types parts h
by_shape types (Struct item) h = laid_out types (node_in types (Struct item)).parts h
by_shape types shape h = record { each = tt; room = omega arith }

-- the parts of a type that is not too large have offsets
pub lays_out : (types : TypeTable) → AreTypes types → (ty : Ty) → IsType types ty → fits types ty ≡ true → AreLaidOut types (side_by_side types (shape_at types ty))
lays_out types sound ty h layout =
    let found : (shape : TyShape) × (shape_at types ty ≡ Some shape) = get_found types.shapes ty.0 h in
    subst (λ (shape : Option TyShape). AreLaidOut types (side_by_side types shape)) (sym found.1) (by_shape types found.0 (subst (λ (extent : Extent). is_within extent ≡ true) (extent_is types sound ty found.0 h found.1) layout))

-- and are types
own_sides : (types : TypeTable) (shape : TyShape) → AllByRecursion (IsType types) (node_in types shape).parts → AllByRecursion (IsType types) (side_by_side types (Some shape))
own_sides types (Tuple parts) h = h
own_sides types (Struct item) h = h
own_sides types shape h = tt

pub sides_types : (types : TypeTable) → AreTypes types → (ty : Ty) → IsType types ty → AllByRecursion (IsType types) (side_by_side types (shape_at types ty))
sides_types types sound ty h =
    let found : (shape : TyShape) × (shape_at types ty ≡ Some shape) = get_found types.shapes ty.0 h in
    subst (λ (shape : Option TyShape). AllByRecursion (IsType types) (side_by_side types shape)) (sym found.1) (own_sides types found.0 (own_parts types sound ty found.0 h found.1))

pub room_next : (end next : ℕ) (part : Extent) (parts : List Extent) → HasRoom end part parts → next ≡ rounded end part.align + part.size → (laid (row_at next) parts).end ≤ 1048576
room_next end next part parts room e = subst (λ n. (laid (row_at n) parts).end ≤ 1048576) (sym e) room.rest_fits

levels_by : (types : TypeTable) (row : Row) (parts : List Ty) (left : ℕ) → row.levels + 1 ≤ left → AllByRecursion (IsNoLarger row) (map (extent_of types) parts) → AllByRecursion (λ part. (extent_of types part).levels + 1 ≤ left) parts
levels_by types row [] left h k = tt
levels_by types row (part ∷ parts) left h k = (let l : (extent_of types part).levels ≤ row.levels = k.0.levels in omega arith, levels_by types row parts left h k.1)

-- the parts of a type that is not too large are laid in time
pub are_roomy : (types : TypeTable) (at left : ℕ) (parts : List Ty) → AllByRecursion (IsType types) parts → is_within (together (map (extent_of types) parts)) ≡ true → (together (map (extent_of types) parts)).levels ≤ left
    → at + (together (map (extent_of types) parts)).size ≤ 1048576 → AreRoomy types at left 0 parts
are_roomy types at left parts are within levels room =
    let row : Row = laid nothing (map (extent_of types) parts) in
    let align : 1 ≤ row.align = laid_align nothing (map (extent_of types) parts) in
    let up : row.end ≤ rounded row.end row.align = rounded_above row.end row.align align in
    record {
      types = are;
      each = (laid_out types parts within).each;
      levels = levels_by types row parts left levels (no_larger nothing (map (extent_of types) parts) (aligned types parts));
      room = omega arith;
    }

pub record IsRoomy (types : TypeTable) (at left end : ℕ) (part : Ty) (more : List Ty) : Type 0 where
  pub ty : IsType types part
  pub fits_limits : fits types part ≡ true
  pub levels : (extent_of types part).levels + 1 ≤ left
  pub end_small : end ≤ 1048576
  pub room : at + (rounded end (extent_of types part).align + (extent_of types part).size) ≤ 1048576
  pub rest : (to : ℕ) → to ≡ rounded end (extent_of types part).align + (extent_of types part).size → AreRoomy types at left to more

pub roomy_step : (types : TypeTable) (at left end : ℕ) (rest : List Ty) (part : Ty) (more : List Ty) → rest ≡ part ∷ more → AreRoomy types at left end rest → IsRoomy types at left end part more
roomy_step types at left end rest part more is roomy =
    let now : AreRoomy types at left end (part ∷ more) = subst (AreRoomy types at left end) is roomy in
    let next : Row = with_part (row_at end) (extent_of types part) in
    let up : end ≤ rounded end (extent_of types part).align = rounded_above end (extent_of types part).align (some_extent types part).align.0 in
    let grows : rounded end (extent_of types part).align + (extent_of types part).size ≤ (laid next (map (extent_of types) more)).end = end_grows next (map (extent_of types) more) (aligned types more) in
    let room : at + (laid next (map (extent_of types) more)).end ≤ 1048576 = now.room in
    record {
      ty = now.types.0;
      fits_limits = now.each.0;
      levels = now.levels.0;
      end_small = omega arith;
      room = omega arith;
      rest = λ to e. record {
        types = now.types.1;
        each = now.each.1;
        levels = now.levels.1;
        room = (let s : (laid (row_at to) (map (extent_of types) more)).end ≡ (laid next (map (extent_of types) more)).end = same_end (row_at to) next (map (extent_of types) more) e in omega arith);
      };
    }

-- the parts of a shape that is not too large are laid in time
roomy_shape : (types : TypeTable) (at left : ℕ) (shape : TyShape) → AllByRecursion (IsType types) (node_in types shape).parts → is_within (extent_in (node_in types shape).tree (map (extent_of types) (node_in types shape).parts)) ≡ true
    → (extent_in (node_in types shape).tree (map (extent_of types) (node_in types shape).parts)).levels ≤ left → at + (extent_in (node_in types shape).tree (map (extent_of types) (node_in types shape).parts)).size ≤ 1048576
    → AreRoomy types at left 0 (side_by_side types (Some shape))
roomy_shape types at left (Tuple parts) are within levels room = are_roomy types at left parts are within levels room
roomy_shape types at left (Struct item) are within levels room = are_roomy types at left (node_in types (Struct item)).parts are within levels room
roomy_shape types at left shape are within levels room = record { types = tt; each = tt; levels = tt; room = omega arith }

pub roomy_parts : (types : TypeTable) (at left : ℕ) (ty : Ty) (shape : TyShape) → shape_at types ty ≡ Some shape → AllByRecursion (IsType types) (node_in types shape).parts
    → is_within (extent_in (node_in types shape).tree (map (extent_of types) (node_in types shape).parts)) ≡ true
    → (extent_in (node_in types shape).tree (map (extent_of types) (node_in types shape).parts)).levels ≤ left → at + (extent_in (node_in types shape).tree (map (extent_of types) (node_in types shape).parts)).size ≤ 1048576
    → AreRoomy types at left 0 (side_by_side types (shape_at types ty))
roomy_parts types at left ty shape e are within levels room = subst (λ (found : Option TyShape). AreRoomy types at left 0 (side_by_side types found)) (sym e) (roomy_shape types at left shape are within levels room)
