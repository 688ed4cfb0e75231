-- Counts that stand still at the top tell what the true ones tell.
use Rattle.std.proofs.Common.{◌≡◌, refl, sym, ◌∙◌, ap, subst, ℕ, suc, zero, ◌+◌, ◌-◌, ◌*◌, ◌/◌, ◌≤◌, min, max, List, [], ◌∷◌, map, Some, slice_get, arith, inl, inr}
use Rattle.std.specs.List.{AllByRecursion}
use Rattle.std.proofs.lemmas.Bool.{cases_lt}
use Rattle.std.proofs.Math.Nat.{mul_comm, mul-le-mul_right}
use Rattle.tb_types.specs.declared.extent.Extent.{Extent}
use Rattle.tb_types.specs.declared.extent.Row.{Row}
use Rattle.tb_types.specs.Extent.{rounded, with_part, laid, closed, repeated, wrapped}
use Rattle.tb_types.specs.Capped.{top, capped, capped_row}

pub rounded_above : (n align : ℕ) → 1 ≤ align → n ≤ rounded n align
rounded_above n align h =
    let e : (n + (align - 1)) / align * align ≡ align * ((n + (align - 1)) / align) = mul_comm ((n + (align - 1)) / align) align in
    omega arith

size_capped : (end align : ℕ) → 1 ≤ align → min (rounded (min end top) align) top ≡ min (rounded end align) top
size_capped end align h = elim (cases_lt end top) [
  | inl low ↦ let e : min end top ≡ end = omega arith in ap (λ n. min (rounded n align) top) e
  | inr high ↦
      let e : min end top ≡ top = omega arith in
      let a : top ≤ rounded top align = rounded_above top align h in
      let b : end ≤ rounded end align = rounded_above end align h in
      ap (λ n. min (rounded n align) top) e ∙ (let c : min (rounded top align) top ≡ min (rounded end align) top = omega arith in c)
]

times_capped : (n m : ℕ) → min (n * min m top) top ≡ min (n * m) top
times_capped zero m = let a : zero * min m top ≡ 0 = omega arith in let b : zero * m ≡ 0 = omega arith in ap (λ k. min k top) (a ∙ sym b)
times_capped (suc n) m = elim (cases_lt m top) [
  | inl low ↦ let e : min m top ≡ m = omega arith in ap (λ k. min (suc n * k) top) e
  | inr high ↦
      let e : min m top ≡ top = omega arith in
      let a : 1 * top ≤ suc n * top = mul-le-mul_right {m = 1} {n = suc n} top (omega arith) in
      let b : 1 * m ≤ suc n * m = mul-le-mul_right {m = 1} {n = suc n} m (omega arith) in
      ap (λ k. min (suc n * k) top) e ∙ (let c : min (suc n * top) top ≡ min (suc n * m) top = omega arith in c)
]

row_capped : (end align size : ℕ) → 1 ≤ align → min (rounded (min end top) align + size) top ≡ min (rounded end align + size) top
row_capped end align size h = elim (cases_lt end top) [
  | inl low ↦ let e : min end top ≡ end = omega arith in ap (λ n. min (rounded n align + size) top) e
  | inr high ↦
      let e : min end top ≡ top = omega arith in
      let a : top ≤ rounded top align = rounded_above top align h in
      let b : end ≤ rounded end align = rounded_above end align h in
      ap (λ n. min (rounded n align + size) top) e ∙ (let c : min (rounded top align + size) top ≡ min (rounded end align + size) top = omega arith in c)
]

-- one more part, where the row before it, and where the part stood still
pub with_row : (row : Row) (part : Extent) → 1 ≤ part.align → capped_row (with_part (capped_row row) part) ≡ capped_row (with_part row part)
with_row row part h i = record {
  end = row_capped row.end part.align part.size h i;
  align = max row.align part.align;
  parts = (let e : min (min row.parts top + part.parts) top ≡ min (row.parts + part.parts) top = omega arith in e) i;
  levels = (let e : min (max (min row.levels top) part.levels) top ≡ min (max row.levels part.levels) top = omega arith in e) i;
}

with_same : (row : Row) (part : Extent) → capped_row (with_part row (capped part)) ≡ capped_row (with_part row part)
with_same row part i = record {
  end = (let e : min (rounded row.end part.align + min part.size top) top ≡ min (rounded row.end part.align + part.size) top = omega arith in e) i;
  align = max row.align part.align;
  parts = (let e : min (row.parts + min part.parts top) top ≡ min (row.parts + part.parts) top = omega arith in e) i;
  levels = (let e : min (max row.levels (min part.levels top)) top ≡ min (max row.levels part.levels) top = omega arith in e) i;
}

abbrev pub AreAligned : List Extent → Type 0
AreAligned parts = AllByRecursion (λ (part : Extent). 1 ≤ part.align) parts

capped_again : (row : Row) → capped_row (capped_row row) ≡ capped_row row
capped_again row i = record {
  end = (let e : min (min row.end top) top ≡ min row.end top = omega arith in e) i;
  align = row.align;
  parts = (let e : min (min row.parts top) top ≡ min row.parts top = omega arith in e) i;
  levels = (let e : min (min row.levels top) top ≡ min row.levels top = omega arith in e) i;
}

-- a row that stood still before other parts tells the same
pub laid_again : (row : Row) (parts : List Extent) → AreAligned parts → capped_row (laid (capped_row row) parts) ≡ capped_row (laid row parts)
laid_again row [] h = capped_again row
laid_again row (part ∷ parts) h =
    sym (laid_again (with_part (capped_row row) part) parts h.1)
    ∙ ap (λ (r : Row). capped_row (laid r parts)) (with_row row part h.0)
    ∙ laid_again (with_part row part) parts h.1

-- and so do parts that stood still
pub laid_same : (row : Row) (parts : List Extent) → AreAligned parts → capped_row (laid row (map capped parts)) ≡ capped_row (laid row parts)
laid_same row [] h = refl
laid_same row (part ∷ parts) h =
    laid_same (with_part row (capped part)) parts h.1
    ∙ sym (laid_again (with_part row (capped part)) parts h.1)
    ∙ ap (λ (r : Row). capped_row (laid r parts)) (with_same row part)
    ∙ laid_again (with_part row part) parts h.1

pub laid_align : (row : Row) (parts : List Extent) → row.align ≤ (laid row parts).align
laid_align row [] = omega arith
laid_align row (part ∷ parts) = let h : (with_part row part).align ≤ (laid (with_part row part) parts).align = laid_align (with_part row part) parts in omega arith

pub laid_levels : (row : Row) (parts : List Extent) → row.levels ≤ (laid row parts).levels
laid_levels row [] = omega arith
laid_levels row (part ∷ parts) = let h : (with_part row part).levels ≤ (laid (with_part row part) parts).levels = laid_levels (with_part row part) parts in omega arith

-- a part has no more levels than all parts together
pub part_levels : (row : Row) (parts : List Extent) (i : ℕ) (part : Extent) → slice_get parts i ≡ Some part → part.levels ≤ (laid row parts).levels
part_levels row [] i part e = cc
part_levels row (x ∷ parts) zero part e =
    let f : x ≡ part = cc in
    let h : (with_part row x).levels ≤ (laid (with_part row x) parts).levels = laid_levels (with_part row x) parts in
    subst (λ (p : Extent). p.levels ≤ (laid row (x ∷ parts)).levels) f (omega arith)
part_levels row (x ∷ parts) (suc i) part e = part_levels (with_part row x) parts i part e

pub closed_capped : (row : Row) → 1 ≤ row.align → capped (closed (capped_row row)) ≡ capped (closed row)
closed_capped row h i = record {
  size = size_capped row.end row.align h i;
  align = row.align;
  parts = (let e : min (min row.parts top + 1) top ≡ min (row.parts + 1) top = omega arith in e) i;
  levels = (let e : min (min row.levels top + 1) top ≡ min (row.levels + 1) top = omega arith in e) i;
}

pub repeated_capped : (n : ℕ) (part : Extent) → capped (repeated n (capped part)) ≡ capped (repeated n part)
repeated_capped n part i = record {
  size = times_capped n part.size i;
  align = part.align;
  parts = (let t : min (n * min part.parts top) top ≡ min (n * part.parts) top = times_capped n part.parts in let e : min (n * min part.parts top + 1) top ≡ min (n * part.parts + 1) top = omega arith in e) i;
  levels = (let e : min (min part.levels top + 1) top ≡ min (part.levels + 1) top = omega arith in e) i;
}

pub wrapped_capped : (part : Extent) → capped (wrapped (capped part)) ≡ capped (wrapped part)
wrapped_capped part i = record {
  size = (let e : min (min part.size top) top ≡ min part.size top = omega arith in e) i;
  align = part.align;
  parts = (let e : min (min part.parts top + 1) top ≡ min (part.parts + 1) top = omega arith in e) i;
  levels = (let e : min (min part.levels top + 1) top ≡ min (part.levels + 1) top = omega arith in e) i;
}
