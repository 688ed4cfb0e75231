-- Extents of types.
use Rattle.std.proofs.Common.{◌≡◌, refl, sym, ◌∙◌, ap, ℕ, suc, zero, ◌≤◌, List, [], ◌∷◌, map, arith}
use Rattle.std.specs.List.{AllByRecursion}
use Rattle.tb_types.specs.declared.shape.Ty.{Ty}
use Rattle.tb_types.specs.declared.shape.IntKind.{IntKind}
use Rattle.tb_types.specs.declared.shape.IntKind.TheVariants.{I8, I16, I32, I64, Isize, U8, U16, U32, U64, Usize}
use Rattle.tb_types.specs.declared.extent.Extent.{Extent}
use Rattle.tb_types.specs.declared.extent.Row.{Row}
use Rattle.tb_types.specs.Table.{TypeTable}
use Rattle.tb_types.specs.Trees.{TypeTree, IntTree, UnitTree, TupleTree, ArrayTree, StructTree, RefTree, RawTree, CellTree, UnsafeCellTree, SliceTree}
use Rattle.tb_types.specs.Folded.{node_of, folded_at, folded, depth_of}
use Rattle.tb_types.specs.Extent.{nothing, with_part, laid, closed, together, int_bytes, pointer_to, first_of, extent_in, extent_by, extent_of}
use Rattle.tb_types.specs.Capped.{capped, IsAlign, IsSmall}
use Rattle.tb_types.proofs.Capping.{AreAligned, laid_align, laid_same, closed_capped, repeated_capped, wrapped_capped}

-- a type has an alignment from 1 to 8 and a level at least
pub record IsPositive (extent : Extent) : Type 0 where
  pub align : IsAlign extent.align
  pub levels : 1 ≤ extent.levels

of_kind : (kind : IntKind) → IsAlign (int_bytes kind)
of_kind I8 = (omega arith, omega arith)
of_kind I16 = (omega arith, omega arith)
of_kind I32 = (omega arith, omega arith)
of_kind I64 = (omega arith, omega arith)
of_kind Isize = (omega arith, omega arith)
of_kind U8 = (omega arith, omega arith)
of_kind U16 = (omega arith, omega arith)
of_kind U32 = (omega arith, omega arith)
of_kind U64 = (omega arith, omega arith)
of_kind Usize = (omega arith, omega arith)

of_pointer : (to : TypeTree) → IsPositive (pointer_to to)
of_pointer (SliceTree part) = record { align = (omega arith, omega arith); levels = omega arith }
of_pointer to = record { align = (omega arith, omega arith); levels = omega arith }

of_first : (below : List Extent) → AllByRecursion IsPositive below → IsAlign (first_of below).align
of_first [] h = (omega arith, omega arith)
of_first (part ∷ parts) h = h.0.align

laid_most : (row : Row) (parts : List Extent) → row.align ≤ 8 → AllByRecursion IsPositive parts → (laid row parts).align ≤ 8
laid_most row [] h k = h
laid_most row (part ∷ parts) h k = let a : part.align ≤ 8 = k.0.align.1 in laid_most (with_part row part) parts (omega arith) k.1

of_together : (below : List Extent) → AllByRecursion IsPositive below → IsPositive (together below)
of_together below h =
    let a : 1 ≤ (laid nothing below).align = laid_align nothing below in
    record { align = (a, laid_most nothing below (omega arith) h); levels = omega arith }

of_step : (tree : TypeTree) (below : List Extent) → AllByRecursion IsPositive below → IsPositive (extent_in tree below)
of_step (IntTree kind) below h = record { align = of_kind kind; levels = omega arith }
of_step (TupleTree parts) below h = of_together below h
of_step (ArrayTree part n) below h = record { align = of_first below h; levels = omega arith }
of_step (StructTree item) below h = of_together below h
of_step (RefTree mutable to) below h = of_pointer to
of_step (RawTree mutable to) below h = of_pointer to
of_step (CellTree part) below h = record { align = of_first below h; levels = omega arith }
of_step (UnsafeCellTree part) below h = record { align = of_first below h; levels = omega arith }
of_step (SliceTree part) below h = record { align = of_first below h; levels = omega arith }
of_step tree below h = record { align = (omega arith, omega arith); levels = omega arith }

each : {X Y : Type 0} (P : Y → Type 0) (f : X → Y) (xs : List X) → ((x : X) → P (f x)) → AllByRecursion P (map f xs)
each P f [] h = tt
each P f (x ∷ xs) h = (h x, each P f xs h)

at_depth : (types : TypeTable) (depth : ℕ) (ty : Ty) → IsPositive (folded_at extent_by types depth ty)
unfolding folded_at
at_depth types zero ty = of_step (node_of types ty).tree [] tt
at_depth types (suc depth) ty = of_step (node_of types ty).tree (map (folded_at extent_by types depth) (node_of types ty).parts) (each IsPositive (folded_at extent_by types depth) (node_of types ty).parts (at_depth types depth))

pub some_extent : (types : TypeTable) (ty : Ty) → IsPositive (extent_of types ty)
unfolding folded
some_extent types ty = at_depth types (depth_of types) ty

pub aligned : (types : TypeTable) (parts : List Ty) → AreAligned (map (extent_of types) parts)
aligned types parts = each (λ (part : Extent). 1 ≤ part.align) (extent_of types) parts (λ part. (some_extent types part).align.0)

-- what stands still can be counted on
pub small_capped : (extent : Extent) → IsAlign extent.align → IsSmall (capped extent)
small_capped extent h = record { size = omega arith; align = h; parts = omega arith; levels = omega arith }

together_capped : (below : List Extent) → AreAligned below → capped (together (map capped below)) ≡ capped (together below)
together_capped below h =
    sym (closed_capped (laid nothing (map capped below)) (laid_align nothing (map capped below)))
    ∙ ap (λ (row : Row). capped (closed row)) (laid_same nothing below h)
    ∙ closed_capped (laid nothing below) (laid_align nothing below)

repeated_first : (n : ℕ) (below : List Extent) → capped (extent_in (ArrayTree UnitTree n) (map capped below)) ≡ capped (extent_in (ArrayTree UnitTree n) below)
repeated_first n [] = refl
repeated_first n (part ∷ parts) = repeated_capped n part

wrapped_first : (below : List Extent) → capped (extent_in (CellTree UnitTree) (map capped below)) ≡ capped (extent_in (CellTree UnitTree) below)
wrapped_first [] = refl
wrapped_first (part ∷ parts) = wrapped_capped part

-- extents whose counts stand still tell the same
pub extent_capped : (tree : TypeTree) (below : List Extent) → AreAligned below → capped (extent_in tree (map capped below)) ≡ capped (extent_in tree below)
extent_capped (TupleTree parts) below h = together_capped below h
extent_capped (ArrayTree part n) below h = repeated_first n below
extent_capped (StructTree item) below h = together_capped below h
extent_capped (CellTree part) below h = wrapped_first below
extent_capped (UnsafeCellTree part) below h = wrapped_first below
extent_capped (SliceTree part) below h = repeated_first 0 below
extent_capped tree below h = refl
