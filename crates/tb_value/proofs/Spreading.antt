-- The leaves of a type stand one after another, and lie within its bytes.
use Rattle.std.proofs.Common.{◌≡◌, refl, sym, ◌∙◌, ap, subst, ℕ, zero, suc, ◌+◌, ◌*◌, ◌<◌, ◌≤◌, Bool, true, false, cond, List, [], ◌∷◌, ◌++◌, length, map, drop, get_or, drop-cons, Option, Some, arith}
use Rattle.std.specs.List.{AllByRecursion}
use Rattle.tb_types.specs.declared.shape.Ty.{Ty}
use Rattle.tb_types.specs.declared.shape.TyShape.{TyShape}
use Rattle.tb_types.specs.declared.shape.TyShape.TheVariants.{Int, Bool as BoolShape, Char, Unit, Tuple, Array, Struct, Ref, Raw, Boxed, Cell, UnsafeCell, Slice}
use Rattle.tb_types.specs.declared.extent.Extent.{Extent}
use Rattle.tb_types.specs.declared.extent.Row.{Row}
use Rattle.tb_types.specs.Table.{TypeTable, IsType, shape_at}
use Rattle.tb_types.specs.Folded.{node_in}
use Rattle.tb_types.specs.Trees.{TypeTree, tree_in, tree_of}
use Rattle.tb_types.specs.Extent.{rounded, nothing, with_part, laid, together, int_bytes, pointer_to, extent_by, extent_of}
use Rattle.tb_types.specs.Sound.{AreTypes}
use Rattle.tb_types.proofs.Capping.{rounded_above, laid_align}
use Rattle.tb_types.proofs.Extents.{some_extent}
use Rattle.tb_types.proofs.Within.{get_found}
use Rattle.tb_types.proofs.CallerLemmas.{folded_step, type_induction, tree_step}
use Rattle.tb_layout.specs.declared.leaf.Leaf.{Leaf}
use Rattle.tb_layout.specs.declared.leaf.LeafShape.{LeafShape}
use Rattle.tb_layout.specs.declared.leaf.LeafShape.TheVariants.{Int as IntLeaf, Bool as BoolLeaf, Char as CharLeaf, Ref as RefLeaf, Raw as RawLeaf, Boxed as BoxedLeaf}
use Rattle.tb_layout.specs.Leaves.{moved, leaves_from, repeated_leaves, leaves_in, leaves_of}
use Rattle.tb_layout.proofs.Marking.{times_suc}
use Rattle.tb_layout.proofs.Walking.{leaves_is}
use Rattle.tb_value.specs.declared.kind.ScalarKind.TheVariants.{Thin, Wide}
use Rattle.tb_value.specs.Kinds.{is_slice, pointer_kind, kind_of, width}
use Rattle.tb_value.specs.Copies.{leaf_end}
use Rattle.tb_value.specs.Spread.{AreSpread}

spread_moved : (types : TypeTable) (by lo hi : ℕ) (leaves : List Leaf) → AreSpread types lo hi leaves → AreSpread types (by + lo) (by + hi) (moved by leaves)
spread_moved types by lo hi [] h = omega arith
spread_moved types by lo hi (leaf ∷ leaves) h =
    let begin : lo ≤ leaf.at = h.0 in (
      (let up : by + lo ≤ by + leaf.at = omega arith in up),
      subst (λ n. AreSpread types n (by + hi) (moved by leaves))
          (let e : by + (leaf.at + width (kind_of types leaf.shape)) ≡ by + leaf.at + width (kind_of types leaf.shape) = omega arith in e)
          (spread_moved types by (leaf_end types leaf) hi leaves h.1),
    )

spread_up : (types : TypeTable) (lo hi top : ℕ) (leaves : List Leaf) → AreSpread types lo hi leaves → hi ≤ top → AreSpread types lo top leaves
spread_up types lo hi top [] h up = omega arith
spread_up types lo hi top (leaf ∷ leaves) h up = (h.0, spread_up types (leaf_end types leaf) hi top leaves h.1 up)

spread_down : (types : TypeTable) (low lo hi : ℕ) (leaves : List Leaf) → low ≤ lo → AreSpread types lo hi leaves → AreSpread types low hi leaves
spread_down types low lo hi [] down h = omega arith
spread_down types low lo hi (leaf ∷ leaves) down h = let begin : lo ≤ leaf.at = h.0 in ((let low_begin : low ≤ leaf.at = omega arith in low_begin), h.1)

spread_both : (types : TypeTable) (lo mid hi : ℕ) (a b : List Leaf) → AreSpread types lo mid a → AreSpread types mid hi b → AreSpread types lo hi (a ++ b)
spread_both types lo mid hi [] b h k = spread_down types lo mid hi b h k
spread_both types lo mid hi (leaf ∷ a) b h k = (h.0, spread_both types (leaf_end types leaf) mid hi a b h.1 k)

spread_repeated : (types : TypeTable) (n size : ℕ) (leaves : List Leaf) → AreSpread types 0 size leaves → AreSpread types 0 (n * size) (repeated_leaves n size leaves)
spread_repeated types zero size leaves h = omega arith
spread_repeated types (suc n) size leaves h =
    subst (λ hi. AreSpread types 0 hi (leaves ++ moved size (repeated_leaves n size leaves))) (sym (times_suc n size))
    (spread_both types 0 size (size + n * size) leaves (moved size (repeated_leaves n size leaves)) h
    (subst (λ lo. AreSpread types lo (size + n * size) (moved size (repeated_leaves n size leaves))) (let e : size + 0 ≡ size = omega arith in e)
    (spread_moved types size 0 (n * size) (repeated_leaves n size leaves) (spread_repeated types n size leaves h))))

abbrev IsSpread : TypeTable → Ty → Type 0
IsSpread types ty = AreSpread types 0 (extent_of types ty).size (leaves_of true types ty)

spread_from : (types : TypeTable) (row : Row) (parts : List Ty) → AllByRecursion (IsSpread types) parts → AreSpread types row.end (laid row (map (extent_of types) parts)).end (leaves_from types row.end parts (map (leaves_of true types) parts))
spread_from types row [] h = omega arith
spread_from types row (part ∷ parts) h =
    let extent : Extent = extent_of types part in
    let begin : ℕ = rounded row.end extent.align in
    let up : row.end ≤ rounded row.end extent.align = rounded_above row.end extent.align (some_extent types part).align.0 in
    spread_both types row.end (begin + extent.size) (laid (with_part row extent) (map (extent_of types) parts)).end
    (moved begin (leaves_of true types part)) (leaves_from types (begin + extent.size) parts (map (leaves_of true types) parts))
    (spread_down types row.end (begin + 0) (begin + extent.size) (moved begin (leaves_of true types part)) (let low : row.end ≤ begin + 0 = omega arith in low) (spread_moved types begin 0 extent.size (leaves_of true types part) h.0))
    (spread_from types (with_part row extent) parts h.1)

spread_together : (types : TypeTable) (parts : List Ty) → AllByRecursion (IsSpread types) parts → AreSpread types 0 (together (map (extent_of types) parts)).size (leaves_from types 0 parts (map (leaves_of true types) parts))
spread_together types parts h =
    let row : Row = laid nothing (map (extent_of types) parts) in
    spread_up types 0 row.end (rounded row.end row.align) (leaves_from types 0 parts (map (leaves_of true types) parts)) (spread_from types nothing parts h)
    (rounded_above row.end row.align (laid_align nothing (map (extent_of types) parts)))

-- a pointer has as many bytes as its layout says
pointer_width : (types : TypeTable) → AreTypes types → (to : Ty) → IsType types to → (null : Bool) → width (pointer_kind types to null) ≡ (pointer_to (tree_of types to)).size
pointer_width types sound to h null =
    let found : (shape : TyShape) × (shape_at types to ≡ Some shape) = get_found types.shapes to.0 h in
    ap (λ (shape : Option TyShape). width (cond (is_slice shape) (Wide null) (Thin null))) found.1 ∙ by_shape found.0
    ∙ ap (λ (tree : TypeTree). (pointer_to tree).size) (sym (tree_step types.shapes sound.names to found.0 found.1))
  where
    by_shape : (shape : TyShape) → width (cond (is_slice (Some shape)) (Wide null) (Thin null)) ≡ (pointer_to (tree_in shape (tree_of types))).size
    by_shape (Slice part) = refl
    by_shape shape = refl

one_leaf : (types : TypeTable) (shape : LeafShape) (size : ℕ) → width (kind_of types shape) ≡ size → AreSpread types 0 size (record { at = 0; shape = shape } ∷ [])
one_leaf types shape size e = ((let low : 0 ≤ 0 = omega arith in low), (let high : 0 + width (kind_of types shape) ≤ size = omega arith in high))

pub spread : (types : TypeTable) → AreTypes types → (ty : Ty) → IsType types ty → AreSpread types 0 (extent_of types ty).size (leaves_of true types ty)
spread types sound = type_induction types sound (IsSpread types) (λ ty shape h e below.
    subst (λ (n : ℕ). AreSpread types 0 n (leaves_of true types ty)) (ap (λ (extent : Extent). extent.size) (sym (folded_step extent_by types sound ty shape h e)))
    (subst (λ (leaves : List Leaf). AreSpread types 0 (extent_by (node_in types shape) (map (extent_of types) (node_in types shape).parts)).size leaves) (sym (leaves_is true types sound ty shape h e))
    (by_shape ty h shape e below)))
  where
    by_shape : (ty : Ty) → IsType types ty → (shape : TyShape) → shape_at types ty ≡ Some shape → AllByRecursion (IsSpread types) (node_in types shape).parts
        → AreSpread types 0 (extent_by (node_in types shape) (map (extent_of types) (node_in types shape).parts)).size (leaves_in true types shape (node_in types shape).parts (map (leaves_of true types) (node_in types shape).parts))
    by_shape ty h (Int kind) e below = one_leaf types (IntLeaf kind) (int_bytes kind) refl
    by_shape ty h BoolShape e below = one_leaf types BoolLeaf 1 refl
    by_shape ty h Char e below = one_leaf types CharLeaf 4 refl
    by_shape ty h Unit e below = omega arith
    by_shape ty h (Tuple parts) e below = spread_together types parts below
    by_shape ty h (Array part n) e below = spread_repeated types n (extent_of types part).size (leaves_of true types part) below.0
    by_shape ty h (Struct item) e below = spread_together types (node_in types (Struct item)).parts below
    by_shape ty h (Ref mutable to) e below =
        let less : to.0 < ty.0 = (sound.names ty (Ref mutable to) e).0 in
        one_leaf types (RefLeaf mutable to) (pointer_to (tree_of types to)).size (pointer_width types sound to (let is_type : to.0 < length types.shapes = omega arith in is_type) false)
    by_shape ty h (Raw mutable to) e below =
        let less : to.0 < ty.0 = (sound.names ty (Raw mutable to) e).0 in
        one_leaf types (RawLeaf mutable to) (pointer_to (tree_of types to)).size (pointer_width types sound to (let is_type : to.0 < length types.shapes = omega arith in is_type) true)
    by_shape ty h (Boxed part) e below = one_leaf types (BoxedLeaf part) 8 refl
    by_shape ty h (Cell part) e below = below.0
    by_shape ty h (UnsafeCell part) e below = below.0
    by_shape ty h (Slice part) e below = omega arith

-- moved by nothing, they stand where they stood
pub not_moved : (leaves : List Leaf) → moved 0 leaves ≡ leaves
not_moved [] = refl
not_moved (leaf ∷ leaves) = ap (λ n. record leaf { at = n } ∷ moved 0 leaves) (let e : 0 + leaf.at ≡ leaf.at = omega arith in e) ∙ ap (λ (rest : List Leaf). leaf ∷ rest) (not_moved leaves)

pub spread_order : (types : TypeTable) (lo hi : ℕ) (leaves : List Leaf) → AreSpread types lo hi leaves → lo ≤ hi
spread_order types lo hi [] h = h
spread_order types lo hi (leaf ∷ leaves) h =
    let begin : lo ≤ leaf.at = h.0 in
    let rest : leaf.at + width (kind_of types leaf.shape) ≤ hi = spread_order types (leaf_end types leaf) hi leaves h.1 in
    omega arith

-- a leaf of those from a place on ends in time
pub leaf_within : (types : TypeTable) (lo hi : ℕ) (leaves : List Leaf) (i : ℕ) (d : Leaf) → i < length leaves → AreSpread types lo hi (drop i leaves) → leaf_end types (get_or leaves i d) ≤ hi
leaf_within types lo hi leaves i d within h =
    spread_order types (leaf_end types (get_or leaves i d)) hi (drop (suc i) leaves) (subst (AreSpread types lo hi) (drop-cons leaves i d within) h).1

-- those behind it stand one after another
pub leaves_after : (types : TypeTable) (hi : ℕ) (leaves : List Leaf) (i : ℕ) (d : Leaf) → i < length leaves → AreSpread types 0 hi (drop i leaves) → AreSpread types 0 hi (drop (i + 1) leaves)
leaves_after types hi leaves i d within h =
    subst (λ n. AreSpread types 0 hi (drop n leaves)) (let e : suc i ≡ i + 1 = omega arith in e)
    (spread_down types 0 (leaf_end types (get_or leaves i d)) hi (drop (suc i) leaves) (omega arith) (subst (AreSpread types 0 hi) (drop-cons leaves i d within) h).1)
