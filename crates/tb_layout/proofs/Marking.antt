-- Marks of types, and ranges that grow by them.
use Rattle.std.proofs.Common.{◌≡◌, refl, sym, ◌∙◌, ap, subst, ℕ, zero, suc, ◌+◌, ◌-◌, ◌*◌, ◌<◌, ◌≤◌, Bool, true, false, true≢false, List, [], ◌∷◌, ◌++◌, length, map, replicate, nat_eq, Some, None, slice_get, slice_set, arith, if◌then◌else◌, Result, Ok, Err, OnOk}
use Rattle.std.specs.List.{AllByRecursion, list_all}
use Rattle.std.specs.Cmp.{first_so, second_so, unsigned_Decides}
use Rattle.std.proofs.lemmas.List.{append_assoc, length-append, length-replicate}
use Rattle.std.proofs.Math.Nat.{mul_comm, mul-suc}
use Rattle.tb_perm.specs.declared.new_tag.CellRange.{CellRange}
use Rattle.tb_types.specs.declared.shape.Ty.{Ty}
use Rattle.tb_types.specs.declared.shape.TyShape.{TyShape}
use Rattle.tb_types.specs.declared.shape.TyShape.TheVariants.{Int, Tuple, Array, Struct, Ref, Raw, Cell, UnsafeCell, Slice}
use Rattle.tb_types.specs.declared.facts.Facts.{Facts}
use Rattle.tb_types.specs.declared.extent.Extent.{Extent}
use Rattle.tb_types.specs.declared.extent.Row.{Row}
use Rattle.tb_types.specs.Table.{TypeTable, IsType, shape_at}
use Rattle.tb_types.specs.Folded.{node_in}
use Rattle.tb_types.specs.Facts.{beside, facts_by, facts_of, is_freeze}
use Rattle.tb_types.specs.Extent.{rounded, nothing, with_part, laid, extent_by, extent_of}
use Rattle.tb_types.specs.Sound.{AreTypes}
use Rattle.tb_types.proofs.Capping.{rounded_above, laid_align}
use Rattle.tb_types.proofs.Extents.{some_extent}
use Rattle.tb_types.proofs.CallerLemmas.{folded_step, type_induction}
use Rattle.tb_layout.specs.Cells.{copies, marks_from, tail_of, marks_together, marks_in, marks_by, marks_of, ends_at, lengthened, with_range, with_marks, ranges_from, ranges_of}

-- the marks of a type by its shape
pub marks_is : (types : TypeTable) → AreTypes types → (ty : Ty) (shape : TyShape) → IsType types ty → shape_at types ty ≡ Some shape
    → marks_of types ty ≡ marks_in types (node_in types shape).tree (node_in types shape).parts (map (marks_of types) (node_in types shape).parts)
marks_is types sound ty shape h e = folded_step (marks_by types) types sound ty shape h e

-- there is a mark for each byte
pub times_suc : (n m : ℕ) → suc n * m ≡ m + n * m
times_suc n m = mul_comm (suc n) m ∙ mul-suc m n ∙ (let e : m * n + m ≡ m + m * n = omega arith in e) ∙ ap (λ k. m + k) (mul_comm m n)

length_copies : (n : ℕ) (marks : List Bool) (size : ℕ) → length marks ≡ size → length (copies n marks) ≡ n * size
length_copies zero marks size e = (let z : 0 ≡ 0 * size = omega arith in z)
length_copies (suc n) marks size e =
    length-append marks (copies n marks)
    ∙ ap (λ k. k + length (copies n marks)) e ∙ ap (λ k. size + k) (length_copies n marks size e) ∙ sym (times_suc n size)

AreMeasured : TypeTable → List Ty → Type 0
AreMeasured types parts = AllByRecursion (λ part. length (marks_of types part) ≡ (extent_of types part).size) parts

length_from : (types : TypeTable) (row : Row) (parts : List Ty) → AreMeasured types parts → length (marks_from types row.end parts (map (marks_of types) parts)) + row.end ≡ (laid row (map (extent_of types) parts)).end
unfolding AreMeasured
length_from types row [] h = (let z : 0 + row.end ≡ row.end = omega arith in z)
length_from types row (part ∷ parts) h =
    let extent = extent_of types part in
    let up : row.end ≤ rounded row.end extent.align = rounded_above row.end extent.align (some_extent types part).align.0 in
    let pad : List Bool = replicate (rounded row.end extent.align - row.end) false in
    let rest : List Bool = marks_from types (rounded row.end extent.align + extent.size) parts (map (marks_of types) parts) in
    let a : length (pad ++ (marks_of types part ++ rest)) ≡ length pad + length (marks_of types part ++ rest) = length-append pad (marks_of types part ++ rest) in
    let b : length (marks_of types part ++ rest) ≡ length (marks_of types part) + length rest = length-append (marks_of types part) rest in
    let c : length pad ≡ rounded row.end extent.align - row.end = length-replicate (rounded row.end extent.align - row.end) false in
    let d : length (marks_of types part) ≡ extent.size = h.0 in
    let e : length rest + (rounded row.end extent.align + extent.size) ≡ (laid (with_part row extent) (map (extent_of types) parts)).end = length_from types (with_part row extent) parts h.1 in
    omega arith

length_together : (types : TypeTable) (parts : List Ty) → AreMeasured types parts → length (marks_together types parts (map (marks_of types) parts)) ≡ rounded (laid nothing (map (extent_of types) parts)).end (laid nothing (map (extent_of types) parts)).align
length_together types parts h =
    let row : Row = laid nothing (map (extent_of types) parts) in
    let all : List Bool = marks_from types 0 parts (map (marks_of types) parts) in
    let a : length (all ++ tail_of row) ≡ length all + length (tail_of row) = length-append all (tail_of row) in
    let b : length all + 0 ≡ row.end = length_from types nothing parts h in
    let c : length (tail_of row) ≡ rounded row.end row.align - row.end = length-replicate (rounded row.end row.align - row.end) false in
    let d : row.end ≤ rounded row.end row.align = rounded_above row.end row.align (laid_align nothing (map (extent_of types) parts)) in
    omega arith

-- a type has as many marks as bytes
pub length_marks : (types : TypeTable) → AreTypes types → (ty : Ty) → IsType types ty → length (marks_of types ty) ≡ (extent_of types ty).size
unfolding AreMeasured
length_marks types sound = type_induction types sound (λ ty. length (marks_of types ty) ≡ (extent_of types ty).size) (λ ty shape h e below.
    ap length (marks_is types sound ty shape h e) ∙ by_shape shape below ∙ ap (λ (extent : Extent). extent.size) (sym (folded_step extent_by types sound ty shape h e)))
  where
    by_shape : (shape : TyShape) → AreMeasured types (node_in types shape).parts
        → length (marks_in types (node_in types shape).tree (node_in types shape).parts (map (marks_of types) (node_in types shape).parts)) ≡ (extent_by (node_in types shape) (map (extent_of types) (node_in types shape).parts)).size
    by_shape (Tuple parts) below = length_together types parts below
    by_shape (Struct item) below = length_together types (node_in types (Struct item)).parts below
    by_shape (Array part n) below = length_copies n (marks_of types part) (extent_of types part).size below.0
    by_shape (Cell part) below = length-replicate (extent_of types part).size true
    by_shape (UnsafeCell part) below = length-replicate (extent_of types part).size true
    by_shape (Ref mutable to) below = length-replicate (extent_by (node_in types (Ref mutable to)) []).size false
    by_shape (Raw mutable to) below = length-replicate (extent_by (node_in types (Raw mutable to)) []).size false
    by_shape (Int kind) below = length-replicate (extent_by (node_in types (Int kind)) []).size false
    by_shape (Slice part) below = (let z : 0 ≡ 0 * (extent_of types part).size = omega arith in z)
    by_shape shape below = refl

-- no byte is marked
abbrev pub AreUnmarked : List Bool → Type 0
AreUnmarked marks = AllByRecursion (λ mark. mark ≡ false) marks

unmarked_both : (a b : List Bool) → AreUnmarked a → AreUnmarked b → AreUnmarked (a ++ b)
unmarked_both [] b h k = k
unmarked_both (x ∷ a) b h k = (h.0, unmarked_both a b h.1 k)

unmarked_copies : (n : ℕ) (marks : List Bool) → AreUnmarked marks → AreUnmarked (copies n marks)
unmarked_copies zero marks h = tt
unmarked_copies (suc n) marks h = unmarked_both marks (copies n marks) h (unmarked_copies n marks h)

unmarked_run : (n : ℕ) → AreUnmarked (replicate n false)
unmarked_run zero = tt
unmarked_run (suc n) = (refl, unmarked_run n)

IsFree : TypeTable → Ty → Type 0
IsFree types ty = is_freeze types ty ≡ true → AreUnmarked (marks_of types ty)

unmarked_from : (types : TypeTable) (end : ℕ) (parts : List Ty) → AllByRecursion (IsFree types) parts → list_all (λ (fact : Facts). fact.freeze) (map (facts_of types) parts) ≡ true → AreUnmarked (marks_from types end parts (map (marks_of types) parts))
unfolding IsFree
unmarked_from types end [] h k = tt
unmarked_from types end (part ∷ parts) h k =
    unmarked_both (replicate (rounded end (extent_of types part).align - end) false) _ (unmarked_run (rounded end (extent_of types part).align - end))
    (unmarked_both (marks_of types part) _ (h.0 (first_so (is_freeze types part) (list_all (λ (fact : Facts). fact.freeze) (map (facts_of types) parts)) k))
    (unmarked_from types (rounded end (extent_of types part).align + (extent_of types part).size) parts h.1 (second_so (is_freeze types part) (list_all (λ (fact : Facts). fact.freeze) (map (facts_of types) parts)) k)))

unmarked_together : (types : TypeTable) (parts : List Ty) → AllByRecursion (IsFree types) parts → (beside (map (facts_of types) parts)).freeze ≡ true → AreUnmarked (marks_together types parts (map (marks_of types) parts))
unmarked_together types parts h k =
    let row : Row = laid nothing (map (extent_of types) parts) in
    unmarked_both (marks_from types 0 parts (map (marks_of types) parts)) (tail_of row) (unmarked_from types 0 parts h k) (unmarked_run (rounded row.end row.align - row.end))

-- a type that is free of cells has no marked byte
pub free_marks : (types : TypeTable) → AreTypes types → (ty : Ty) → IsType types ty → is_freeze types ty ≡ true → AreUnmarked (marks_of types ty)
unfolding IsFree
free_marks types sound = type_induction types sound (IsFree types) (λ ty shape h e below free.
    subst AreUnmarked (sym (marks_is types sound ty shape h e))
    (by_shape shape below (ap (λ (fact : Facts). fact.freeze) (sym (folded_step facts_by types sound ty shape h e)) ∙ free)))
  where
    by_shape : (shape : TyShape) → AllByRecursion (IsFree types) (node_in types shape).parts → (facts_by (node_in types shape) (map (facts_of types) (node_in types shape).parts)).freeze ≡ true
        → AreUnmarked (marks_in types (node_in types shape).tree (node_in types shape).parts (map (marks_of types) (node_in types shape).parts))
    by_shape (Tuple parts) below free = unmarked_together types parts below free
    by_shape (Struct item) below free = unmarked_together types (node_in types (Struct item)).parts below free
    by_shape (Array part n) below free = unmarked_copies n (marks_of types part) (below.0 (first_so (is_freeze types part) true free))
    by_shape (Cell part) below free = absurd (true≢false (sym free))
    by_shape (UnsafeCell part) below free = absurd (true≢false (sym free))
    by_shape shape below free = unmarked_run (extent_by (node_in types shape) []).size

-- unmarked bytes change no range
pub with_unmarked : (marks : List Bool) (ranges : List CellRange) (at : ℕ) → AreUnmarked marks → with_marks ranges at marks ≡ ranges
with_unmarked [] ranges at h = refl
with_unmarked (true ∷ marks) ranges at h = absurd (true≢false h.0)
with_unmarked (false ∷ marks) ranges at h = with_unmarked marks ranges (at + 1) h.1

-- marks behind others
pub with_both : (a b : List Bool) (ranges : List CellRange) (at : ℕ) → with_marks ranges at (a ++ b) ≡ with_marks (with_marks ranges at a) (at + length a) b
with_both [] b ranges at = ap (λ n. with_marks ranges n b) (let e : at ≡ at + 0 = omega arith in e)
with_both (true ∷ a) b ranges at = with_both a b (with_range ranges at (at + 1)) (at + 1) ∙ ap (λ n. with_marks (with_marks (with_range ranges at (at + 1)) (at + 1) a) n b) (let e : at + 1 + length a ≡ at + suc (length a) = omega arith in e)
with_both (false ∷ a) b ranges at = with_both a b ranges (at + 1) ∙ ap (λ n. with_marks (with_marks ranges (at + 1) a) n b) (let e : at + 1 + length a ≡ at + suc (length a) = omega arith in e)

-- the last of ranges
same_number : (n : ℕ) → nat_eq n n ≡ true
same_number n = (unsigned_Decides n n).1 refl

ends_behind : (front : List CellRange) (range : CellRange) (at : ℕ) → ends_at (front ++ range ∷ []) at ≡ nat_eq range.hi at
ends_behind [] range at = refl
ends_behind (x ∷ []) range at = refl
ends_behind (x ∷ y ∷ front) range at = ends_behind (y ∷ front) range at

lengthened_behind : (front : List CellRange) (range : CellRange) (hi : ℕ) → lengthened (front ++ range ∷ []) hi ≡ front ++ record range { hi = hi } ∷ []
lengthened_behind [] range hi = refl
lengthened_behind (x ∷ []) range hi = refl
lengthened_behind (x ∷ y ∷ front) range hi = ap (λ (rest : List CellRange). x ∷ rest) (lengthened_behind (y ∷ front) range hi)

ends_lengthened : (ranges : List CellRange) (at mid : ℕ) → ends_at ranges at ≡ true → ends_at (lengthened ranges mid) mid ≡ true
ends_lengthened [] at mid h = absurd (true≢false (sym h))
ends_lengthened (x ∷ []) at mid h = same_number mid
ends_lengthened (x ∷ y ∷ []) at mid h = same_number mid
ends_lengthened (x ∷ y ∷ z ∷ ranges) at mid h = ends_lengthened (y ∷ z ∷ ranges) at mid h

lengthened_twice : (ranges : List CellRange) (mid hi : ℕ) → lengthened (lengthened ranges mid) hi ≡ lengthened ranges hi
lengthened_twice [] mid hi = refl
lengthened_twice (x ∷ []) mid hi = refl
lengthened_twice (x ∷ y ∷ []) mid hi = refl
lengthened_twice (x ∷ y ∷ z ∷ ranges) mid hi = ap (λ (rest : List CellRange). x ∷ rest) (lengthened_twice (y ∷ z ∷ ranges) mid hi)

joined_by : (ranges more : List CellRange) (lo hi : ℕ) (ends : Bool) → ends ≡ true → (if ends then lengthened ranges hi else more) ≡ lengthened ranges hi
joined_by ranges more lo hi ends e = ap (λ b. if b then lengthened ranges hi else more) e

-- a range that begins where the last one before ended is part of it
range_twice : (ranges : List CellRange) (lo mid hi : ℕ) → with_range (with_range ranges lo mid) mid hi ≡ with_range ranges lo hi
range_twice ranges lo mid hi = by_end (ends_at ranges lo) refl
  where
    by_end : (ends : Bool) → ends_at ranges lo ≡ ends → with_range (if ends then lengthened ranges mid else ranges ++ record { lo = lo; hi = mid } ∷ []) mid hi ≡ (if ends then lengthened ranges hi else ranges ++ record { lo = lo; hi = hi } ∷ [])
    by_end true e =
        joined_by (lengthened ranges mid) (lengthened ranges mid ++ record { lo = mid; hi = hi } ∷ []) mid hi (ends_at (lengthened ranges mid) mid) (ends_lengthened ranges lo mid e)
        ∙ lengthened_twice ranges mid hi
    by_end false e =
        joined_by (ranges ++ record { lo = lo; hi = mid } ∷ []) ((ranges ++ record { lo = lo; hi = mid } ∷ []) ++ record { lo = mid; hi = hi } ∷ []) mid hi (ends_at (ranges ++ record { lo = lo; hi = mid } ∷ []) mid) (ends_behind ranges (record { lo = lo; hi = mid }) mid ∙ same_number mid)
        ∙ lengthened_behind ranges (record { lo = lo; hi = mid }) hi

-- a run of marked bytes is one range
pub with_run : (n : ℕ) (ranges : List CellRange) (lo : ℕ) → with_range ranges lo (lo + suc n) ≡ with_marks ranges lo (replicate (suc n) true)
with_run zero ranges lo = ap (with_range ranges lo) (let e : lo + suc zero ≡ lo + 1 = omega arith in e)
with_run (suc n) ranges lo =
    sym (range_twice ranges lo (lo + 1) (lo + suc (suc n)))
    ∙ ap (with_range (with_range ranges lo (lo + 1)) (lo + 1)) (let e : lo + suc (suc n) ≡ lo + 1 + suc n = omega arith in e)
    ∙ with_run n (with_range ranges lo (lo + 1)) (lo + 1)

append_nothing : (ranges : List CellRange) → ranges ++ [] ≡ ranges
append_nothing [] = refl
append_nothing (x ∷ ranges) = ap (λ (rest : List CellRange). x ∷ rest) (append_nothing ranges)

apart : (at place : ℕ) → at < place → nat_eq at place ≡ false
apart at place h = by_test (nat_eq at place) refl
  where
    by_test : (b : Bool) → nat_eq at place ≡ b → b ≡ false
    by_test true e = let s : at ≡ place = (unsigned_Decides at place).0 e in absurd (omega arith)
    by_test false e = refl

-- ranges that end before a place grow by the ranges of the marks from there on
mutual
  none_open : (marks : List Bool) (front : List CellRange) (at : ℕ) → ((place : ℕ) → at ≤ place → ends_at front place ≡ false) → with_marks front at marks ≡ front ++ ranges_from at None marks
  none_open [] front at h = sym (append_nothing front)
  none_open (true ∷ marks) front at h =
      ap (λ b. with_marks (if b then lengthened front (at + 1) else front ++ record { lo = at; hi = at + 1 } ∷ []) (at + 1) marks) (h at (omega arith))
      ∙ one_open marks front at (at + 1)
  none_open (false ∷ marks) front at h = none_open marks front (at + 1) (λ place later. h place (omega arith))

  one_open : (marks : List Bool) (front : List CellRange) (lo at : ℕ) → with_marks (front ++ record { lo = lo; hi = at } ∷ []) at marks ≡ front ++ ranges_from at (Some lo) marks
  one_open [] front lo at = refl
  one_open (true ∷ marks) front lo at =
      ap (λ (ranges : List CellRange). with_marks ranges (at + 1) marks)
      (joined_by (front ++ record { lo = lo; hi = at } ∷ []) ((front ++ record { lo = lo; hi = at } ∷ []) ++ record { lo = at; hi = at + 1 } ∷ []) at (at + 1) (ends_at (front ++ record { lo = lo; hi = at } ∷ []) at) (ends_behind front (record { lo = lo; hi = at }) at ∙ same_number at)
      ∙ lengthened_behind front (record { lo = lo; hi = at }) (at + 1))
      ∙ one_open marks front lo (at + 1)
  one_open (false ∷ marks) front lo at =
      none_open marks (front ++ record { lo = lo; hi = at } ∷ []) (at + 1) (λ place later. ends_behind front (record { lo = lo; hi = at }) place ∙ apart at place (omega arith))
      ∙ append_assoc front (record { lo = lo; hi = at } ∷ []) (ranges_from (at + 1) None marks)

-- from none, they are the ranges of the marks
pub all_ranges : (marks : List Bool) → with_marks [] 0 marks ≡ ranges_of marks
all_ranges marks = none_open marks [] 0 (λ place later. refl)

-- the last range in the code
pub ends_is : (ranges : List CellRange) (i at : ℕ) (last : CellRange) → suc i ≡ length ranges → slice_get ranges i ≡ Some last → ends_at ranges at ≡ nat_eq last.hi at
ends_is [] i at last e h = cc
ends_is (x ∷ []) zero at last e h = let f : x ≡ last = cc in ap (λ (r : CellRange). nat_eq r.hi at) f
ends_is (x ∷ []) (suc i) at last e h = absurd (omega arith)
ends_is (x ∷ y ∷ ranges) zero at last e h = absurd (omega arith)
ends_is (x ∷ y ∷ ranges) (suc i) at last e h = ends_is (y ∷ ranges) i at last (omega arith) h

pub lengthened_is : (ranges : List CellRange) (i hi : ℕ) (last : CellRange) → suc i ≡ length ranges → slice_get ranges i ≡ Some last → slice_set ranges i (record last { hi = hi }) ≡ lengthened ranges hi
lengthened_is [] i hi last e h = cc
lengthened_is (x ∷ []) zero hi last e h = let f : x ≡ last = cc in ap (λ (r : CellRange). record r { hi = hi } ∷ []) (sym f)
lengthened_is (x ∷ []) (suc i) hi last e h = absurd (omega arith)
lengthened_is (x ∷ y ∷ ranges) zero hi last e h = absurd (omega arith)
lengthened_is (x ∷ y ∷ ranges) (suc i) hi last e h = ap (λ (rest : List CellRange). x ∷ rest) (lengthened_is (y ∷ ranges) i hi last (omega arith) h)

-- one more element, and one more part after its padding
pub copies_step : (n at : ℕ) (marks : List Bool) (place next size : ℕ) (old new total : List CellRange) → at < n → length marks ≡ size → next ≡ place + size → new ≡ with_marks old place marks
    → with_marks old place (copies (n - at) marks) ≡ total → with_marks new next (copies (n - (at + 1)) marks) ≡ total
copies_step n at marks place next size old new total h measured e is told =
    ap (λ (ranges : List CellRange). with_marks ranges next (copies (n - (at + 1)) marks)) is
    ∙ ap (λ k. with_marks (with_marks old place marks) k (copies (n - (at + 1)) marks)) (e ∙ ap (λ k. place + k) (sym measured))
    ∙ sym (with_both marks (copies (n - (at + 1)) marks) old place)
    ∙ ap (λ k. with_marks old place (copies k marks)) (let f : suc (n - (at + 1)) ≡ n - at = omega arith in f) ∙ told

pub part_step : (types : TypeTable) → AreTypes types → (at end to : ℕ) (rest : List Ty) (part : Ty) (more : List Ty) → rest ≡ part ∷ more → IsType types part → to ≡ rounded end (extent_of types part).align + (extent_of types part).size
    → (old new total : List CellRange) → new ≡ with_marks old (at + rounded end (extent_of types part).align) (marks_of types part)
    → with_marks old (at + end) (marks_from types end rest (map (marks_of types) rest)) ≡ total → with_marks new (at + to) (marks_from types to more (map (marks_of types) more)) ≡ total
part_step types sound at end to rest part more is ty e old new total n told =
    let up : end ≤ rounded end (extent_of types part).align = rounded_above end (extent_of types part).align (some_extent types part).align.0 in
    let begin : ℕ = rounded end (extent_of types part).align in
    let measured : length (marks_of types part) ≡ (extent_of types part).size = length_marks types sound part ty in
    let pad : List Bool = replicate (begin - end) false in
    let later : List Bool = marks_from types (begin + (extent_of types part).size) more (map (marks_of types) more) in
    let padded : length pad ≡ begin - end = length-replicate (begin - end) false in
    ap (λ k. with_marks new (at + k) (marks_from types k more (map (marks_of types) more))) e
    ∙ ap (λ (ranges : List CellRange). with_marks ranges (at + (begin + (extent_of types part).size)) later) n
    ∙ ap (λ k. with_marks (with_marks old (at + begin) (marks_of types part)) k later) (let f : at + (begin + (extent_of types part).size) ≡ at + begin + length (marks_of types part) = omega arith in f)
    ∙ sym (with_both (marks_of types part) later old (at + begin))
    ∙ ap (λ (ranges : List CellRange). with_marks ranges (at + begin) (marks_of types part ++ later)) (sym (with_unmarked pad old (at + end) (unmarked_run (begin - end))))
    ∙ ap (λ k. with_marks (with_marks old (at + end) pad) k (marks_of types part ++ later)) (let f : at + begin ≡ at + end + length pad = omega arith in f)
    ∙ sym (with_both pad (marks_of types part ++ later) old (at + end))
    ∙ ap (λ (list : List Ty). with_marks old (at + end) (marks_from types end list (map (marks_of types) list))) (sym is) ∙ told

-- the padding behind the last part changes nothing
pub tail_step : (types : TypeTable) (parts : List Ty) (at : ℕ) (old new : List CellRange) → new ≡ with_marks old at (marks_from types 0 parts (map (marks_of types) parts)) → new ≡ with_marks old at (marks_together types parts (map (marks_of types) parts))
tail_step types parts at old new e =
    let row : Row = laid nothing (map (extent_of types) parts) in
    let all : List Bool = marks_from types 0 parts (map (marks_of types) parts) in
    e ∙ sym (with_unmarked (tail_of row) (with_marks old at all) (at + length all) (unmarked_run (rounded row.end row.align - row.end))) ∙ sym (with_both all (tail_of row) old at)

pub on_ok : {T E : Type 0} {P Q : Type 0} (result : Result T E) → (P → Q) → OnOk result P → OnOk result Q
on_ok (Ok x) f p = f p
on_ok (Err e) f p = tt

-- a cell that has bytes
pub cell_run : (size total : ℕ) (ranges : List CellRange) (at : ℕ) → size ≡ total → 1 ≤ total → with_range ranges at (at + size) ≡ with_marks ranges at (replicate total true)
cell_run size zero ranges at e h = absurd (omega arith)
cell_run size (suc n) ranges at e h = ap (λ k. with_range ranges at (at + k)) e ∙ with_run n ranges at

-- the parts have an end
pub parts_end : (types : TypeTable) (rest : List Ty) (at end : ℕ) (ranges total : List CellRange) → rest ≡ [] → with_marks ranges (at + end) (marks_from types end rest (map (marks_of types) rest)) ≡ total → ranges ≡ total
parts_end types rest at end ranges total is told = sym (ap (λ (list : List Ty). with_marks ranges (at + end) (marks_from types end list (map (marks_of types) list))) is) ∙ told

-- elements of no bytes have no marks
pub no_copies : (n : ℕ) (marks : List Bool) (ranges : List CellRange) (at : ℕ) → length marks ≡ 0 → ranges ≡ with_marks ranges at (copies n marks)
no_copies n [] ranges at e = sym (with_unmarked (copies n []) ranges at (unmarked_copies n [] tt))
no_copies n (mark ∷ marks) ranges at e = absurd (omega arith)

-- where the next element begins
pub next_step : (at n size next : ℕ) → next ≡ at + n * size → next + size ≡ at + (n + 1) * size
next_step at n size next e = let f : (n + 1) * size ≡ size + n * size = ap (λ k. k * size) (let g : n + 1 ≡ suc n = omega arith in g) ∙ times_suc n size in omega arith
