-- Whether a type is plain, from what is kept of the types that it names; and rows of parts.
use Rattle.std.proofs.Common.{◌≡◌, refl, sym, ◌∙◌, ap, subst, ℕ, ◌+◌, ◌<◌, Bool, ◌&&◌, List, [], ◌∷◌, length, map, drop, Some, slice_get, slice_index_or, Option, arith}
use Rattle.std.specs.List.{AllByRecursion}
use Rattle.std.proofs.lemmas.Option.{slice_get_within, slice_get-get_or, get_or_from_slice_get}
use Rattle.tb_types.specs.declared.shape.Ty.{Ty}
use Rattle.tb_types.specs.declared.shape.TyShape.{TyShape}
use Rattle.tb_types.specs.declared.shape.TyShape.TheVariants.{Slice}
use Rattle.tb_types.specs.declared.facts.Facts.{Facts}
use Rattle.tb_types.specs.declared.item.Field.{Field}
use Rattle.tb_types.specs.declared.extent.Extent.{Extent}
use Rattle.tb_types.specs.declared.extent.Row.{Row}
use Rattle.tb_types.specs.declared.known.Known.{Known}
use Rattle.tb_types.specs.Table.{TypeTable, AreNamed, named_in}
use Rattle.tb_types.specs.Trees.{TypeTree, RefTree, RawTree, SliceTree, tree_in, tree_found, tree_at, tree_of, tree_among, is_plain, is_pointee}
use Rattle.tb_types.specs.Folded.{node_in, item_in, types_in}
use Rattle.tb_types.specs.Facts.{beside, facts_in}
use Rattle.tb_types.specs.Extent.{with_part, laid, pointer, pointer_to, extent_in}
use Rattle.tb_types.specs.Capped.{capped, capped_row}
use Rattle.tb_types.specs.Known.{facts_in_all, extents_in_all, known_by, known_at, none_known, fact_at, extent_at, IsWithin, ArePlain, AreSmall}
use Rattle.tb_types.specs.Kept.{table_of}
use Rattle.tb_types.proofs.Trees.{tree_step}
use Rattle.tb_types.proofs.FactsLemmas.{and_again, drop_here}
use Rattle.tb_types.proofs.Capping.{AreAligned, laid_again}

-- the facts and the extents of what is kept of parts
pub facts_each : (known : List Known) (parts : List Ty) → facts_in_all (map (known_at known) parts) ≡ map (fact_at known) parts
facts_each known [] = refl
facts_each known (part ∷ parts) = ap (λ (rest : List Facts). fact_at known part ∷ rest) (facts_each known parts)

pub extents_each : (known : List Known) (parts : List Ty) → extents_in_all (map (known_at known) parts) ≡ map (extent_at known) parts
extents_each known [] = refl
extents_each known (part ∷ parts) = ap (λ (rest : List Extent). extent_at known part ∷ rest) (extents_each known parts)

module _ (shapes : List TyShape) (named : AreNamed shapes) (known : List Known) (plain : ArePlain (table_of shapes []) known) (to : Ty) (shape : TyShape) (here : slice_get shapes to.0 ≡ Some shape) where
  tree : tree_among shapes to ≡ tree_in shape (tree_among shapes)
  tree = tree_step shapes named to shape here

  -- a slice behind a pointer is as plain as its element
  pub of_slice : (part : Ty) → shape ≡ Slice part → is_pointee (tree_among shapes to) ≡ (known_at known part).plain
  of_slice part e =
      let h : to.0 < length shapes = slice_get_within shapes to.0 shape here in
      let lower : AllByRecursion (λ (p : Ty). p.0 < to.0) (named_in (Slice part)) = subst (λ (s : TyShape). AllByRecursion (λ (p : Ty). p.0 < to.0) (named_in s)) e (named to shape here) in
      let within : part.0 < length shapes = (let l : part.0 < to.0 = lower.0 in omega arith) in
      ap is_pointee (tree ∙ ap (λ (s : TyShape). tree_in s (tree_among shapes)) e) ∙ sym (plain part within)

-- a pointer is plain where its pointee may stand behind it
pub of_reference : (mutable : Bool) (to : TypeTree) → is_plain (RefTree mutable to) ≡ is_pointee to
of_reference mutable (SliceTree part) = refl
of_reference mutable to = refl

pub of_raw : (mutable : Bool) (to : TypeTree) → is_plain (RawTree mutable to) ≡ is_pointee to
of_raw mutable (SliceTree part) = refl
of_raw mutable to = refl

-- one more part is plain, or is not
pub plain_next : (known : List Known) (parts : List Ty) (i : ℕ) (part : Ty) (plain : Bool) (f : Ty → Bool) (all : List Ty → Bool) → ((x : Ty) (xs : List Ty) → all (x ∷ xs) ≡ (f x && all xs)) → (total : Bool) → slice_get parts i ≡ Some part
    → (plain && all (drop i parts)) ≡ total → ((plain && f part) && all (drop (i + 1) parts)) ≡ total
plain_next known parts i part plain f all step total here told =
    and_again plain (f part) (all (drop (i + 1) parts))
    ∙ ap (λ b. plain && b) (sym (step part (drop (i + 1) parts)) ∙ ap all (sym (drop_here parts i part here)))
    ∙ told

-- the parts that are kept have alignments
pub each_aligned : (known : List Known) → AreSmall known → (parts : List Ty) → AllByRecursion (IsWithin known) parts → AreAligned (map (extent_at known) parts)
each_aligned known small [] h = tt
each_aligned known small (part ∷ parts) h = ((small part h.0).align.0, each_aligned known small parts h.1)

-- one more part is laid
pub row_next : (row next : Row) (part : Extent) (parts : List Extent) (total : Row) → next ≡ capped_row (with_part row part) → AreAligned parts → capped_row (laid row (part ∷ parts)) ≡ total → capped_row (laid next parts) ≡ total
row_next row next part parts total is h told = ap (λ (r : Row). capped_row (laid r parts)) is ∙ laid_again (with_part row part) parts h ∙ told

-- one more part, and one more field, is laid
pub row_part : (known : List Known) → AreSmall known → (parts : List Ty) (i : ℕ) (part : Ty) (row next total : Row) → slice_get parts i ≡ Some part → next ≡ capped_row (with_part row (extent_at known part)) → AllByRecursion (IsWithin known) (drop (i + 1) parts)
    → capped_row (laid row (map (extent_at known) (drop i parts))) ≡ total → capped_row (laid next (map (extent_at known) (drop (i + 1) parts))) ≡ total
row_part known small parts i part row next total here is within told =
    row_next row next (extent_at known part) (map (extent_at known) (drop (i + 1) parts)) total is (each_aligned known small (drop (i + 1) parts) within)
    (ap (λ (rest : List Ty). capped_row (laid row (map (extent_at known) rest))) (sym (drop_here parts i part here)) ∙ told)

pub row_field : (known : List Known) → AreSmall known → (fields : List Field) (i : ℕ) (field : Field) (row next total : Row) → slice_get fields i ≡ Some field → next ≡ capped_row (with_part row (extent_at known field.ty)) → AllByRecursion (IsWithin known) (types_in (drop (i + 1) fields))
    → capped_row (laid row (map (extent_at known) (types_in (drop i fields)))) ≡ total → capped_row (laid next (map (extent_at known) (types_in (drop (i + 1) fields)))) ≡ total
row_field known small fields i field row next total here is within told =
    row_next row next (extent_at known field.ty) (map (extent_at known) (types_in (drop (i + 1) fields))) total is (each_aligned known small (types_in (drop (i + 1) fields)) within)
    (ap (λ (rest : List Field). capped_row (laid row (map (extent_at known) (types_in rest)))) (sym (drop_here fields i field here)) ∙ told)

-- what is kept of a type of a shape
pub known_made : (types : TypeTable) (shape : TyShape) (known : List Known) (facts : Facts) (plain : Bool) (extent : Extent) → plain ≡ is_plain (tree_in shape (tree_of types))
    → facts ≡ facts_in shape (item_in types.items shape) plain (beside (map (fact_at known) (node_in types shape).parts)) → extent ≡ capped (extent_in (tree_in shape (tree_of types)) (map (extent_at known) (node_in types shape).parts))
    → record { facts = facts; plain = plain; extent = extent } ≡ known_by (node_in types shape) (map (known_at known) (node_in types shape).parts)
known_made types shape known facts plain extent p f e i = record {
  facts = (f ∙ ap (λ b. facts_in shape (item_in types.items shape) b (beside (map (fact_at known) (node_in types shape).parts))) p
      ∙ ap (λ (below : List Facts). facts_in shape (item_in types.items shape) (is_plain (tree_in shape (tree_of types))) (beside below)) (sym (facts_each known (node_in types shape).parts))) i;
  plain = p i;
  extent = (e ∙ ap (λ (below : List Extent). capped (extent_in (tree_in shape (tree_of types)) below)) (sym (extents_each known (node_in types shape).parts))) i;
}

-- what is read of a type that is there, whatever else would be read
pub same_read : (known : List Known) (ty : Ty) (other : Known) → IsWithin known ty → slice_index_or known ty.0 other ≡ known_at known ty
same_read known ty other h = sym (get_or_from_slice_get known ty.0 (slice_index_or known ty.0 other) none_known (slice_get-get_or known ty.0 other h))

-- the element of a slice is a type
pub slice_within : (shapes : List TyShape) → AreNamed shapes → (to part : Ty) (shape : TyShape) → slice_get shapes to.0 ≡ Some shape → shape ≡ Slice part → part.0 < length shapes
slice_within shapes named to part shape here e =
    let h : to.0 < length shapes = slice_get_within shapes to.0 shape here in
    let lower : AllByRecursion (λ (p : Ty). p.0 < to.0) (named_in (Slice part)) = subst (λ (s : TyShape). AllByRecursion (λ (p : Ty). p.0 < to.0) (named_in s)) e (named to shape here) in
    let l : part.0 < to.0 = lower.0 in omega arith

no_slice : (f : Ty → TypeTree) (shape : TyShape) → ((part : Ty) → shape ≡ Slice part → ⊥) → is_pointee (tree_in shape f) ≡ is_plain (tree_in shape f)
no_slice f (Slice part) h = absurd (h part refl)
no_slice f shape h = refl

pub of_other : (shapes : List TyShape) → AreNamed shapes → (to : Ty) (shape : TyShape) → slice_get shapes to.0 ≡ Some shape → ((part : Ty) → shape ≡ Slice part → ⊥) → is_pointee (tree_among shapes to) ≡ is_plain (tree_among shapes to)
of_other shapes named to shape here h =
    ap is_pointee (tree_step shapes named to shape here) ∙ no_slice (tree_among shapes) shape h ∙ ap is_plain (sym (tree_step shapes named to shape here))

thin : (f : Ty → TypeTree) (shape : TyShape) → ((part : Ty) → shape ≡ Slice part → ⊥) → pointer_to (tree_in shape f) ≡ pointer 8
thin f (Slice part) h = absurd (h part refl)
thin f shape h = refl

head : (shapes : List TyShape) (to : Ty) (shape : TyShape) → slice_get shapes to.0 ≡ Some shape → pointer_to (tree_among shapes to) ≡ pointer_to (tree_in shape (tree_at shapes to.0))
unfolding tree_among tree_at
head shapes to shape here = ap (λ (found : Option TyShape). pointer_to (tree_found found (tree_at shapes to.0))) here

-- a pointer to a slice, and one to another type
pub wide_pointer : (shapes : List TyShape) (to part : Ty) (shape : TyShape) → slice_get shapes to.0 ≡ Some shape → shape ≡ Slice part → pointer_to (tree_among shapes to) ≡ pointer 16
wide_pointer shapes to part shape here e = head shapes to shape here ∙ ap (λ (s : TyShape). pointer_to (tree_in s (tree_at shapes to.0))) e

pub thin_pointer : (shapes : List TyShape) (to : Ty) (shape : TyShape) → slice_get shapes to.0 ≡ Some shape → ((part : Ty) → shape ≡ Slice part → ⊥) → pointer_to (tree_among shapes to) ≡ pointer 8
thin_pointer shapes to shape here h = head shapes to shape here ∙ thin (tree_at shapes to.0) shape h
