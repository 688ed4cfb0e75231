-- The cells of values that lie one behind the other lie one behind the other.
use Rattle.std.proofs.Common.{◌≡◌, sym, ◌∙◌, ap, subst, ℕ, zero, suc, ◌+◌, ◌-◌, ◌*◌, ◌<◌, ◌≤◌, List, [], ◌∷◌, ◌++◌, arith}
use Rattle.std.specs.List.{AllByRecursion}
use Rattle.std.proofs.lemmas.List.{append-nil}
use Rattle.tb_perm.specs.declared.new_tag.CellRange.{CellRange}
use Rattle.tb_perm.specs.Reborrow.{AreCells}
use Rattle.tb_new_tag.specs.NewTags.{shifted, repeated}

order : (lo hi : ℕ) (cells : List CellRange) → AreCells lo hi cells → lo ≤ hi
order lo hi [] h = h
order lo hi (cell ∷ cells) h =
    let a : lo ≤ cell.lo = h.0 in
    let b : cell.lo < cell.hi = h.1 in
    let c : cell.hi ≤ hi = order cell.hi hi cells h.2 in
    omega arith

-- none ends past the end
abbrev pub IsWithin : ℕ → CellRange → Type 0
IsWithin hi cell = (cell.lo < cell.hi) × (cell.hi ≤ hi)

pub all_within : (lo hi : ℕ) (cells : List CellRange) → AreCells lo hi cells → AllByRecursion (IsWithin hi) cells
all_within lo hi [] h = tt
all_within lo hi (cell ∷ cells) h = ((h.1, order cell.hi hi cells h.2), all_within cell.hi hi cells h.2)

-- of one value more the cells come first
pub one_less : (count index size from : ℕ) (cells : List CellRange) → index < count → repeated (count - index) size from cells ≡ shifted from cells ++ repeated (count - (index + 1)) size (from + size) cells
one_less count index size from cells h = ap (λ n. repeated n size from cells) (let e : count - index ≡ suc (count - (index + 1)) = omega arith in e)

pub bytes_less : (count index size : ℕ) → index < count → (count - index) * size ≡ size + (count - (index + 1)) * size
bytes_less count index size h = ap (λ n. n * size) (let e : count - index ≡ suc (count - (index + 1)) = omega arith in e) ∙ (let e : suc (count - (index + 1)) * size ≡ size + (count - (index + 1)) * size = grind arith in e)

lower : (lo mid hi : ℕ) (cells : List CellRange) → lo ≤ mid → AreCells mid hi cells → AreCells lo hi cells
lower lo mid hi [] low h = (let e : mid ≤ hi = h in let up : lo ≤ hi = omega arith in up)
lower lo mid hi (cell ∷ cells) low h = ((let e : mid ≤ cell.lo = h.0 in let up : lo ≤ cell.lo = omega arith in up), h.1, h.2)

behind : (lo mid hi : ℕ) (front back : List CellRange) → AreCells lo mid front → AreCells mid hi back → AreCells lo hi (front ++ back)
behind lo mid hi [] back h k = lower lo mid hi back h k
behind lo mid hi (cell ∷ front) back h k = (h.0, h.1, behind cell.hi mid hi front back h.2 k)

further : (by lo hi : ℕ) (cells : List CellRange) → AreCells lo hi cells → AreCells (by + lo) (by + hi) (shifted by cells)
further by lo hi [] h = (let e : lo ≤ hi = h in let up : by + lo ≤ by + hi = omega arith in up)
further by lo hi (cell ∷ cells) h =
    ((let e : lo ≤ cell.lo = h.0 in let up : by + lo ≤ by + cell.lo = omega arith in up), (let e : cell.lo < cell.hi = h.1 in let up : by + cell.lo < by + cell.hi = omega arith in up), further by cell.hi hi cells h.2)

pub repeated_are : (count size at : ℕ) (cells : List CellRange) → AreCells 0 size cells → AreCells at (at + count * size) (repeated count size at cells)
repeated_are zero size at cells h = (let e : at ≤ at + zero * size = grind arith in e)
repeated_are (suc count) size at cells h =
    behind at (at + size) (at + suc count * size) (shifted at cells) (repeated count size (at + size) cells)
    (subst (λ n. AreCells n (at + size) (shifted at cells)) (let e : at + 0 ≡ at = omega arith in e) (further at 0 size cells h))
    (subst (λ n. AreCells (at + size) n (repeated count size (at + size) cells)) (let e : (at + size) + count * size ≡ at + suc count * size = grind arith in e) (repeated_are count size (at + size) cells h))

-- the list once none is left to come
pub all_repeated : (count counter size from at : ℕ) (list cells : List CellRange) → count ≤ counter → AreCells 0 size cells → list ++ repeated (count - counter) size from cells ≡ repeated count size at cells → AreCells at (at + count * size) list
all_repeated count counter size from at list cells done h e =
    subst (AreCells at (at + count * size))
    (sym e ∙ ap (λ n. list ++ repeated n size from cells) (let z : count - counter ≡ 0 = omega arith in z) ∙ append-nil list)
    (repeated_are count size at cells h)
