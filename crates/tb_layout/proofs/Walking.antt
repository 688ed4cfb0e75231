-- Leaves that are put one after another.
use Rattle.std.proofs.Common.{◌≡◌, refl, sym, ◌∙◌, ap, ℕ, zero, suc, ◌+◌, ◌-◌, ◌*◌, ◌<◌, ◌≤◌, Bool, true, false, List, [], ◌∷◌, ◌++◌, map, Some, arith}
use Rattle.std.specs.List.{AllByRecursion}
use Rattle.std.proofs.lemmas.List.{append_assoc}
use Rattle.tb_types.specs.declared.shape.Ty.{Ty}
use Rattle.tb_types.specs.declared.shape.IntKind.{IntKind}
use Rattle.tb_types.specs.declared.shape.IntKind.TheVariants.{I8, I16, I32, I64, Isize, U8, U16, U32, U64, Usize}
use Rattle.tb_types.specs.declared.shape.TyShape.{TyShape}
use Rattle.tb_types.specs.declared.shape.TyShape.TheVariants.{Int, Bool as BoolShape, Char, Unit, Tuple, Array, Struct, Ref, Raw, Boxed, Cell, UnsafeCell, Slice}
use Rattle.tb_types.specs.declared.extent.Extent.{Extent}
use Rattle.tb_types.specs.declared.extent.Row.{Row}
use Rattle.tb_types.specs.Table.{TypeTable, IsType, shape_at}
use Rattle.tb_types.specs.Folded.{node_in}
use Rattle.tb_types.specs.Trees.{TypeTree, SliceTree, tree_of}
use Rattle.tb_types.specs.Extent.{rounded, nothing, laid, together, int_bytes, pointer_to, extent_by, extent_of}
use Rattle.tb_types.specs.Sound.{AreTypes}
use Rattle.tb_types.proofs.Capping.{rounded_above, laid_align}
use Rattle.tb_types.proofs.Extents.{aligned}
use Rattle.tb_types.proofs.CallerLemmas.{folded_step, type_induction}
use Rattle.tb_layout.specs.declared.leaf.Leaf.{Leaf}
use Rattle.tb_layout.specs.Leaves.{moved, leaves_from, repeated_leaves, if_all, leaves_in, leaves_by, leaves_of}
use Rattle.tb_layout.proofs.Marking.{times_suc}
use Rattle.tb_layout.proofs.Placing.{IsNoLarger, no_larger}

-- the leaves of a type by its shape
pub leaves_is : (all : Bool) (types : TypeTable) → AreTypes types → (ty : Ty) (shape : TyShape) → IsType types ty → shape_at types ty ≡ Some shape
    → leaves_of all types ty ≡ leaves_in all types shape (node_in types shape).parts (map (leaves_of all types) (node_in types shape).parts)
leaves_is all types sound ty shape h e = folded_step (leaves_by all types) types sound ty shape h e

moved_both : (by : ℕ) (a b : List Leaf) → moved by (a ++ b) ≡ moved by a ++ moved by b
moved_both by [] b = refl
moved_both by (leaf ∷ a) b = ap (λ (rest : List Leaf). record leaf { at = by + leaf.at } ∷ rest) (moved_both by a b)

moved_twice : (a b : ℕ) (leaves : List Leaf) → moved a (moved b leaves) ≡ moved (a + b) leaves
moved_twice a b [] = refl
moved_twice a b (leaf ∷ leaves) =
    ap (λ n. record leaf { at = n } ∷ moved a (moved b leaves)) (let e : a + (b + leaf.at) ≡ a + b + leaf.at = omega arith in e)
    ∙ ap (λ (rest : List Leaf). record leaf { at = a + b + leaf.at } ∷ rest) (moved_twice a b leaves)

append_nothing : (leaves : List Leaf) → leaves ++ [] ≡ leaves
append_nothing [] = refl
append_nothing (x ∷ leaves) = ap (λ (rest : List Leaf). x ∷ rest) (append_nothing leaves)

pub nothing_more : (leaves total : List Leaf) → leaves ++ [] ≡ total → leaves ≡ total
nothing_more leaves total e = sym (append_nothing leaves) ∙ e

pub none_put : (leaves : List Leaf) → leaves ≡ leaves ++ []
none_put leaves = sym (append_nothing leaves)

-- one more element, and one more part
pub element_step : (n at : ℕ) (leaves : List Leaf) (place size : ℕ) (old new total : List Leaf) → at < n → new ≡ old ++ moved place leaves
    → old ++ moved place (repeated_leaves (n - at) size leaves) ≡ total → new ++ moved (place + size) (repeated_leaves (n - (at + 1)) size leaves) ≡ total
element_step n at leaves place size old new total h is told =
    ap (λ (list : List Leaf). list ++ moved (place + size) (repeated_leaves (n - (at + 1)) size leaves)) is
    ∙ append_assoc old (moved place leaves) (moved (place + size) (repeated_leaves (n - (at + 1)) size leaves))
    ∙ ap (λ (list : List Leaf). old ++ (moved place leaves ++ list)) (sym (moved_twice place size (repeated_leaves (n - (at + 1)) size leaves)))
    ∙ ap (λ (list : List Leaf). old ++ list) (sym (moved_both place leaves (moved size (repeated_leaves (n - (at + 1)) size leaves))))
    ∙ ap (λ k. old ++ moved place (repeated_leaves k size leaves)) (let f : suc (n - (at + 1)) ≡ n - at = omega arith in f) ∙ told

pub leaf_step : (all : Bool) (types : TypeTable) (at end to : ℕ) (rest : List Ty) (part : Ty) (more : List Ty) → rest ≡ part ∷ more → to ≡ rounded end (extent_of types part).align + (extent_of types part).size
    → (old new total : List Leaf) → new ≡ old ++ moved (at + rounded end (extent_of types part).align) (leaves_of all types part)
    → old ++ moved at (leaves_from types end rest (map (leaves_of all types) rest)) ≡ total → new ++ moved at (leaves_from types to more (map (leaves_of all types) more)) ≡ total
leaf_step all types at end to rest part more is e old new total n told =
    let begin : ℕ = rounded end (extent_of types part).align in
    let later : List Leaf = leaves_from types (begin + (extent_of types part).size) more (map (leaves_of all types) more) in
    ap (λ k. new ++ moved at (leaves_from types k more (map (leaves_of all types) more))) e
    ∙ ap (λ (list : List Leaf). list ++ moved at later) n
    ∙ append_assoc old (moved (at + begin) (leaves_of all types part)) (moved at later)
    ∙ ap (λ (list : List Leaf). old ++ (list ++ moved at later)) (sym (moved_twice at begin (leaves_of all types part)))
    ∙ ap (λ (list : List Leaf). old ++ list) (sym (moved_both at (moved begin (leaves_of all types part)) later))
    ∙ ap (λ (list : List Ty). old ++ moved at (leaves_from types end list (map (leaves_of all types) list))) (sym is) ∙ told

pub parts_end : (all : Bool) (types : TypeTable) (rest : List Ty) (at end : ℕ) (leaves total : List Leaf) → rest ≡ [] → leaves ++ moved at (leaves_from types end rest (map (leaves_of all types) rest)) ≡ total → leaves ≡ total
parts_end all types rest at end leaves total is told = nothing_more leaves total (sym (ap (λ (list : List Ty). leaves ++ moved at (leaves_from types end list (map (leaves_of all types) list))) is) ∙ told)

-- a type of no bytes has no leaf
IsBare : Bool → TypeTable → Ty → Type 0
IsBare all types ty = (extent_of types ty).size ≡ 0 → leaves_of all types ty ≡ []

none_from : (all : Bool) (types : TypeTable) (row : Row) (end : ℕ) (parts : List Ty) → row.end ≡ 0 → AllByRecursion (IsNoLarger row) (map (extent_of types) parts) → AllByRecursion (IsBare all types) parts
    → leaves_from types end parts (map (leaves_of all types) parts) ≡ []
unfolding IsBare
none_from all types row end [] e small h = refl
none_from all types row end (part ∷ parts) e small h =
    let s : (extent_of types part).size ≤ row.end = small.0.size in
    let begin : ℕ = rounded end (extent_of types part).align in
    ap (λ (list : List Leaf). moved begin list ++ leaves_from types (begin + (extent_of types part).size) parts (map (leaves_of all types) parts)) (h.0 (omega arith))
    ∙ none_from all types row (begin + (extent_of types part).size) parts e small.1 h.1

none_together : (all : Bool) (types : TypeTable) (parts : List Ty) → AllByRecursion (IsBare all types) parts → (together (map (extent_of types) parts)).size ≡ 0 → leaves_from types 0 parts (map (leaves_of all types) parts) ≡ []
none_together all types parts h e =
    let row : Row = laid nothing (map (extent_of types) parts) in
    let up : row.end ≤ rounded row.end row.align = rounded_above row.end row.align (laid_align nothing (map (extent_of types) parts)) in
    none_from all types row 0 parts (omega arith) (no_larger nothing (map (extent_of types) parts) (aligned types parts)) h

none_repeated : (n size : ℕ) (leaves : List Leaf) → leaves ≡ [] → repeated_leaves n size leaves ≡ []
none_repeated zero size leaves e = refl
none_repeated (suc n) size leaves e = ap (λ (list : List Leaf). list ++ moved size (repeated_leaves n size leaves)) e ∙ ap (moved size) (none_repeated n size leaves e)

none_if : (all : Bool) (leaves : List Leaf) → leaves ≡ [] → if_all all leaves ≡ []
none_if true leaves e = e
none_if false leaves e = refl

elements_none : (all : Bool) (types : TypeTable) (n : ℕ) (part : Ty) → IsBare all types part → n * (extent_of types part).size ≡ 0 → repeated_leaves n (extent_of types part).size (leaves_of all types part) ≡ []
unfolding IsBare
elements_none all types zero part h e = refl
elements_none all types (suc n) part h e =
    none_repeated (suc n) (extent_of types part).size (leaves_of all types part) (h (let m : suc n * (extent_of types part).size ≡ (extent_of types part).size + n * (extent_of types part).size = times_suc n (extent_of types part).size in omega arith))

some_bytes : (kind : IntKind) → 1 ≤ int_bytes kind
some_bytes I8 = omega arith
some_bytes I16 = omega arith
some_bytes I32 = omega arith
some_bytes I64 = omega arith
some_bytes Isize = omega arith
some_bytes U8 = omega arith
some_bytes U16 = omega arith
some_bytes U32 = omega arith
some_bytes U64 = omega arith
some_bytes Usize = omega arith

some_pointer : (to : TypeTree) → 1 ≤ (pointer_to to).size
some_pointer (SliceTree part) = omega arith
some_pointer to = omega arith

pub bare : (all : Bool) (types : TypeTable) → AreTypes types → (ty : Ty) → IsType types ty → (extent_of types ty).size ≡ 0 → leaves_of all types ty ≡ []
unfolding IsBare
bare all types sound = type_induction types sound (IsBare all types) (λ ty shape h e below none.
    leaves_is all types sound ty shape h e ∙ by_shape shape below (ap (λ (extent : Extent). extent.size) (sym (folded_step extent_by types sound ty shape h e)) ∙ none))
  where
    by_shape : (shape : TyShape) → AllByRecursion (IsBare all types) (node_in types shape).parts → (extent_by (node_in types shape) (map (extent_of types) (node_in types shape).parts)).size ≡ 0
        → leaves_in all types shape (node_in types shape).parts (map (leaves_of all types) (node_in types shape).parts) ≡ []
    by_shape (Int kind) below none = absurd (let some : 1 ≤ int_bytes kind = some_bytes kind in omega arith)
    by_shape BoolShape below none = absurd (omega arith)
    by_shape Char below none = absurd (omega arith)
    by_shape Unit below none = refl
    by_shape (Tuple parts) below none = none_together all types parts below none
    by_shape (Array part n) below none = none_if all (repeated_leaves n (extent_of types part).size (leaves_of all types part)) (elements_none all types n part below.0 none)
    by_shape (Struct item) below none = none_together all types (node_in types (Struct item)).parts below none
    by_shape (Ref mutable to) below none = absurd (let some : 1 ≤ (pointer_to (tree_of types to)).size = some_pointer (tree_of types to) in omega arith)
    by_shape (Raw mutable to) below none = absurd (let some : 1 ≤ (pointer_to (tree_of types to)).size = some_pointer (tree_of types to) in omega arith)
    by_shape (Boxed part) below none = absurd (omega arith)
    by_shape (Cell part) below none = none_if all (leaves_of all types part) (below.0 none)
    by_shape (UnsafeCell part) below none = none_if all (leaves_of all types part) (below.0 none)
    by_shape (Slice part) below none = refl

-- elements of no bytes have no leaf
pub no_elements : (all : Bool) (types : TypeTable) → AreTypes types → (part : Ty) → IsType types part → (extent_of types part).size ≡ 0 → (n at : ℕ) (leaves : List Leaf)
    → leaves ≡ leaves ++ moved at (if_all all (repeated_leaves n (extent_of types part).size (leaves_of all types part)))
no_elements all types sound part h e n at leaves =
    none_put leaves
    ∙ ap (λ (list : List Leaf). leaves ++ moved at list) (sym (none_if all (repeated_leaves n (extent_of types part).size (leaves_of all types part)) (none_repeated n (extent_of types part).size (leaves_of all types part) (bare all types sound part h e))))
