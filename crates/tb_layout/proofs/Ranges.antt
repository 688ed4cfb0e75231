-- The ranges of marks have the marked bytes, and are the longest.
use Rattle.std.proofs.Common.{◌≡◌, refl, sym, ◌∙◌, ap, subst, ℕ, suc, zero, ◌+◌, ◌-◌, ◌<◌, ◌≤◌, Bool, true, false, ◌&&◌, ◌||◌, List, [], ◌∷◌, length, Option, Some, None, arith, inl, inr}
use Rattle.std.specs.Prelude.{nat_le, nat_lt}
use Rattle.std.proofs.lemmas.Bool.{cases_order, le-leb}
use Rattle.std.proofs.lemmas.Bool.Decides.{leb_tells}
use Rattle.tb_perm.specs.declared.new_tag.CellRange.{CellRange}
use Rattle.tb_perm.specs.Event.{is_within}
use Rattle.tb_perm.specs.Reborrow.{is_in_cells, AreCells}
use Rattle.tb_layout.specs.Cells.{ranges_from, ranges_of, is_marked, AreLongest}

at_most : (a b : ℕ) → a ≤ b → nat_le a b ≡ true
at_most a b h = le-leb a b h

above : (a b : ℕ) → b < a → nat_le a b ≡ false
above a b h = elim (leb_tells a b) [ inl le ↦ absurd (let l : a ≤ b = le.1 in omega arith) | inr gt ↦ gt.0 ]

and_false : (a b : Bool) → a ≡ false → (a && b) ≡ false
and_false a b e = ap (λ x. x && b) e

and_true : (a b : Bool) → a ≡ true → (a && b) ≡ b
and_true a b e = ap (λ x. x && b) e

or_false : (a b : Bool) → a ≡ false → (a || b) ≡ b
or_false a b e = ap (λ x. x || b) e

or_true : (a b : Bool) → a ≡ true → (a || b) ≡ true
or_true a b e = ap (λ x. x || b) e

or_again : (a b c : Bool) → ((a || b) || c) ≡ (a || (b || c))
or_again true b c = refl
or_again false b c = refl

and_nothing : (a : Bool) → (a && false) ≡ false
and_nothing true = refl
and_nothing false = refl

or_nothing : (a : Bool) → (a || false) ≡ a
or_nothing true = refl
or_nothing false = refl

-- the bytes before one from a begun range, and from that one on the marked ones
abbrev before : Option ℕ → ℕ → ℕ → Bool
before None at byte = false
before (Some lo) at byte = is_within lo at byte

abbrev behind : ℕ → List Bool → ℕ → Bool
behind at marks byte = nat_le at byte && is_marked marks (byte - at)

not_below : (lo hi byte : ℕ) → byte < lo → is_within lo hi byte ≡ false
not_below lo hi byte h = and_false (nat_le lo byte) (nat_lt byte hi) (above lo byte h)

not_above : (lo hi byte : ℕ) → hi ≤ byte → is_within lo hi byte ≡ false
not_above lo hi byte h = ap (λ b. nat_le lo byte && b) (above (suc byte) hi (omega arith)) ∙ and_nothing (nat_le lo byte)

inside : (lo hi byte : ℕ) → lo ≤ byte → byte < hi → is_within lo hi byte ≡ true
inside lo hi byte h k = and_true (nat_le lo byte) (nat_lt byte hi) (at_most lo byte h) ∙ at_most (suc byte) hi (omega arith)

behind_none : (at : ℕ) (marks : List Bool) (byte : ℕ) → byte < at → behind at marks byte ≡ false
behind_none at marks byte h = and_false (nat_le at byte) (is_marked marks (byte - at)) (above at byte h)

behind_here : (at : ℕ) (mark : Bool) (marks : List Bool) (byte : ℕ) → byte ≡ at → behind at (mark ∷ marks) byte ≡ mark
behind_here at mark marks byte e =
    and_true (nat_le at byte) (is_marked (mark ∷ marks) (byte - at)) (at_most at byte (omega arith))
    ∙ ap (is_marked (mark ∷ marks)) (let z : byte - at ≡ zero = omega arith in z)

behind_later : (at : ℕ) (mark : Bool) (marks : List Bool) (byte : ℕ) → at < byte → behind at (mark ∷ marks) byte ≡ behind (at + 1) marks byte
behind_later at mark marks byte h =
    and_true (nat_le at byte) (is_marked (mark ∷ marks) (byte - at)) (at_most at byte (omega arith))
    ∙ ap (is_marked (mark ∷ marks)) (let s : byte - at ≡ suc (byte - (at + 1)) = omega arith in s)
    ∙ sym (and_true (nat_le (at + 1) byte) (is_marked marks (byte - (at + 1))) (at_most (at + 1) byte (omega arith)))

marked : (at byte : ℕ) (marks : List Bool) → behind at (true ∷ marks) byte ≡ (is_within at (at + 1) byte || behind (at + 1) marks byte)
marked at byte marks = elim (cases_order byte at) [
  | inl same ↦ behind_here at true marks byte same ∙ sym (or_true (is_within at (at + 1) byte) (behind (at + 1) marks byte) (inside at (at + 1) byte (omega arith) (omega arith)))
  | inr apart ↦ elim apart [
    | inl below ↦ behind_none at (true ∷ marks) byte below ∙ sym (or_false (is_within at (at + 1) byte) (behind (at + 1) marks byte) (not_below at (at + 1) byte below) ∙ behind_none (at + 1) marks byte (omega arith))
    | inr later ↦ behind_later at true marks byte later ∙ sym (or_false (is_within at (at + 1) byte) (behind (at + 1) marks byte) (not_above at (at + 1) byte (omega arith)))
  ]
]

unmarked : (at byte : ℕ) (marks : List Bool) → behind at (false ∷ marks) byte ≡ behind (at + 1) marks byte
unmarked at byte marks = elim (cases_order byte at) [
  | inl same ↦ behind_here at false marks byte same ∙ sym (behind_none (at + 1) marks byte (omega arith))
  | inr apart ↦ elim apart [
    | inl below ↦ behind_none at (false ∷ marks) byte below ∙ sym (behind_none (at + 1) marks byte (omega arith))
    | inr later ↦ behind_later at false marks byte later
  ]
]

longer : (lo at byte : ℕ) → lo < at → is_within lo (at + 1) byte ≡ (is_within lo at byte || is_within at (at + 1) byte)
longer lo at byte h = elim (cases_order byte at) [
  | inl same ↦ inside lo (at + 1) byte (omega arith) (omega arith) ∙ sym (or_false (is_within lo at byte) (is_within at (at + 1) byte) (not_above lo at byte (omega arith)) ∙ inside at (at + 1) byte (omega arith) (omega arith))
  | inr apart ↦ elim apart [
    | inl below ↦ ap (λ b. nat_le lo byte && b) (at_most (suc byte) (at + 1) (omega arith) ∙ sym (at_most (suc byte) at (omega arith)))
        ∙ sym (ap (λ b. is_within lo at byte || b) (not_below at (at + 1) byte below) ∙ or_nothing (is_within lo at byte))
    | inr later ↦ not_above lo (at + 1) byte (omega arith) ∙ sym (or_false (is_within lo at byte) (is_within at (at + 1) byte) (not_above lo at byte (omega arith)) ∙ not_above at (at + 1) byte (omega arith))
  ]
]

Begun : Option ℕ → ℕ → Type 0
Begun None at = Unit {0}
Begun (Some lo) at = lo < at

-- the ranges have the bytes of the begun range and the marked ones
ranges_have : (marks : List Bool) (at : ℕ) (begun : Option ℕ) (byte : ℕ) → Begun begun at → is_in_cells (ranges_from at begun marks) byte ≡ (before begun at byte || behind at marks byte)
unfolding Begun
ranges_have [] at None byte h = sym (and_nothing (nat_le at byte))
ranges_have [] at (Some lo) byte h = ap (λ b. is_within lo at byte || b) (sym (and_nothing (nat_le at byte)))
ranges_have (true ∷ marks) at None byte h = ranges_have marks (at + 1) (Some at) byte (omega arith) ∙ sym (marked at byte marks)
ranges_have (false ∷ marks) at None byte h = ranges_have marks (at + 1) None byte tt ∙ sym (unmarked at byte marks)
ranges_have (true ∷ marks) at (Some lo) byte h =
    ranges_have marks (at + 1) (Some lo) byte (omega arith)
    ∙ ap (λ b. b || behind (at + 1) marks byte) (longer lo at byte h) ∙ or_again (is_within lo at byte) (is_within at (at + 1) byte) (behind (at + 1) marks byte)
    ∙ ap (λ b. is_within lo at byte || b) (sym (marked at byte marks))
ranges_have (false ∷ marks) at (Some lo) byte h =
    ap (λ b. is_within lo at byte || b) (ranges_have marks (at + 1) None byte tt ∙ sym (unmarked at byte marks))

-- the ranges of marks have the marked bytes
pub ranges_mark : (marks : List Bool) (byte : ℕ) → is_in_cells (ranges_of marks) byte ≡ is_marked marks byte
unfolding Begun
ranges_mark marks byte = ranges_have marks 0 None byte tt ∙ and_true (nat_le 0 byte) (is_marked marks (byte - 0)) (at_most 0 byte (omega arith)) ∙ ap (is_marked marks) (let e : byte - 0 ≡ byte = omega arith in e)

-- the first range begins there or later
From : ℕ → List CellRange → Type 0
From at [] = Unit {0}
From at (range ∷ ranges) = at ≤ range.lo

joined : (range : CellRange) (ranges : List CellRange) → range.lo < range.hi → From (range.hi + 1) ranges → AreLongest ranges → AreLongest (range ∷ ranges)
unfolding From
joined range [] h from are = h
joined range (next ∷ ranges) h from are = (h, omega arith, are)

from_later : (a b : ℕ) (ranges : List CellRange) → a ≤ b → From b ranges → From a ranges
unfolding From
from_later a b [] h from = tt
from_later a b (range ∷ ranges) h from = omega arith

first : Option ℕ → ℕ → ℕ
first None at = at
first (Some lo) at = lo

longest_from : (marks : List Bool) (at : ℕ) (begun : Option ℕ) → Begun begun at → AreLongest (ranges_from at begun marks) × From (first begun at) (ranges_from at begun marks)
unfolding Begun From first
longest_from [] at None h = (tt, tt)
longest_from [] at (Some lo) h = (h, omega arith)
longest_from (true ∷ marks) at None h = longest_from marks (at + 1) (Some at) (omega arith)
longest_from (false ∷ marks) at None h =
    let rest : AreLongest (ranges_from (at + 1) None marks) × From (at + 1) (ranges_from (at + 1) None marks) = longest_from marks (at + 1) None tt in
    (rest.0, from_later at (at + 1) (ranges_from (at + 1) None marks) (omega arith) rest.1)
longest_from (true ∷ marks) at (Some lo) h = longest_from marks (at + 1) (Some lo) (omega arith)
longest_from (false ∷ marks) at (Some lo) h =
    let rest : AreLongest (ranges_from (at + 1) None marks) × From (at + 1) (ranges_from (at + 1) None marks) = longest_from marks (at + 1) None tt in
    (joined (record { lo = lo; hi = at }) (ranges_from (at + 1) None marks) h rest.1 rest.0, omega arith)

-- the ranges of marks are the longest
pub ranges_longest : (marks : List Bool) → AreLongest (ranges_of marks)
unfolding Begun
ranges_longest marks = (longest_from marks 0 None tt).0

lower : (a b hi : ℕ) (ranges : List CellRange) → a ≤ b → AreCells b hi ranges → AreCells a hi ranges
lower a b hi [] h are = omega arith
lower a b hi (range ∷ ranges) h are = (omega arith, are.1, are.2)

ranges_within : (marks : List Bool) (at : ℕ) (begun : Option ℕ) → Begun begun at → AreCells (first begun at) (at + length marks) (ranges_from at begun marks)
unfolding Begun first
ranges_within [] at None h = omega arith
ranges_within [] at (Some lo) h = (omega arith, h, omega arith)
ranges_within (true ∷ marks) at None h = subst (λ hi. AreCells at hi (ranges_from (at + 1) (Some at) marks)) (let e : at + 1 + length marks ≡ at + suc (length marks) = omega arith in e) (ranges_within marks (at + 1) (Some at) (omega arith))
ranges_within (false ∷ marks) at None h =
    lower at (at + 1) (at + suc (length marks)) (ranges_from (at + 1) None marks) (omega arith)
    (subst (λ hi. AreCells (at + 1) hi (ranges_from (at + 1) None marks)) (let e : at + 1 + length marks ≡ at + suc (length marks) = omega arith in e) (ranges_within marks (at + 1) None tt))
ranges_within (true ∷ marks) at (Some lo) h = subst (λ hi. AreCells lo hi (ranges_from (at + 1) (Some lo) marks)) (let e : at + 1 + length marks ≡ at + suc (length marks) = omega arith in e) (ranges_within marks (at + 1) (Some lo) (omega arith))
ranges_within (false ∷ marks) at (Some lo) h = (
  omega arith,
  h,
  lower at (at + 1) (at + suc (length marks)) (ranges_from (at + 1) None marks) (omega arith)
      (subst (λ hi. AreCells (at + 1) hi (ranges_from (at + 1) None marks)) (let e : at + 1 + length marks ≡ at + suc (length marks) = omega arith in e) (ranges_within marks (at + 1) None tt)),
)

-- the ranges of marks lie one after another between the first byte and the end
pub ranges_cells : (marks : List Bool) (size : ℕ) → length marks ≡ size → AreCells 0 size (ranges_of marks)
unfolding Begun first
ranges_cells marks size e = subst (λ hi. AreCells 0 hi (ranges_of marks)) (let f : 0 + length marks ≡ length marks = omega arith in f ∙ e) (ranges_within marks 0 None tt)
