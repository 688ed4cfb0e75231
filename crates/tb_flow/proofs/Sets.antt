-- Sets of marks: what is in them.
use Rattle.std.proofs.Common.{◌≡◌, ◌&&◌, ◌||◌, ◌⊎◌, Bool, true, refl, inl, inr}
use Rattle.std.proofs.lemmas.Bool.{and_from, and_parts, or_left, or_right, or_cases, false≢true}
use Rattle.tb_flow.specs.declared.mark.Mark.{Mark}
use Rattle.tb_flow.specs.declared.mark.Mark.TheVariants.{Kept, Yes, No}
use Rattle.tb_flow.specs.declared.mark.Marks.{Marks}
use Rattle.tb_flow.specs.Summaries.{no_marks, only, some_way, joined, followed}

-- the later of two marks, unless it keeps the answer
abbrev pub over : Mark → Mark → Mark
over first Kept = first
over first Yes = Yes
over first No = No

abbrev pub has : Mark → Marks → Bool
has Kept marks = marks.kept
has Yes marks = marks.yes
has No marks = marks.no

pub over_kept : (m : Mark) → over Kept m ≡ m
over_kept Kept = refl
over_kept Yes = refl
over_kept No = refl

pub over_assoc : (a b c : Mark) → over (over a b) c ≡ over a (over b c)
over_assoc a b Kept = refl
over_assoc a b Yes = refl
over_assoc a b No = refl

pub has_none : (m : Mark) → has m no_marks ≡ true → ⊥
has_none Kept h = false≢true h
has_none Yes h = false≢true h
has_none No h = false≢true h

pub has_only : (m : Mark) → has m (only m) ≡ true
has_only Kept = refl
has_only Yes = refl
has_only No = refl

pub only_is : (m n : Mark) → has m (only n) ≡ true → m ≡ n
only_is Kept Kept h = refl
only_is Yes Yes h = refl
only_is No No h = refl
only_is m n h = absurd (false≢true h)

pub some_has : (a : Marks) (m : Mark) → has m a ≡ true → some_way a ≡ true
some_has a Kept h = or_left (a.kept || a.yes) a.no (or_left a.kept a.yes h)
some_has a Yes h = or_left (a.kept || a.yes) a.no (or_right a.kept a.yes h)
some_has a No h = or_right (a.kept || a.yes) a.no h

pub has_some : (a : Marks) → some_way a ≡ true → (m : Mark) × (has m a ≡ true)
has_some a h =
    elim (or_cases (a.kept || a.yes) a.no h) [
      | inl k ↦ elim (or_cases a.kept a.yes k) [
        | inl x ↦ (Kept, x)
        | inr x ↦ (Yes, x)
      ]
      | inr x ↦ (No, x)
    ]

pub has_left : (a b : Marks) (m : Mark) → has m a ≡ true → has m (joined a b) ≡ true
has_left a b Kept h = or_left a.kept b.kept h
has_left a b Yes h = or_left a.yes b.yes h
has_left a b No h = or_left a.no b.no h

pub has_right : (a b : Marks) (m : Mark) → has m b ≡ true → has m (joined a b) ≡ true
has_right a b Kept h = or_right a.kept b.kept h
has_right a b Yes h = or_right a.yes b.yes h
has_right a b No h = or_right a.no b.no h

pub joined_has : (a b : Marks) (m : Mark) → has m (joined a b) ≡ true → (has m a ≡ true) ⊎ (has m b ≡ true)
joined_has a b Kept h = or_cases a.kept b.kept h
joined_has a b Yes h = or_cases a.yes b.yes h
joined_has a b No h = or_cases a.no b.no h

pub has_followed : (a b : Marks) (m n : Mark) → has m a ≡ true → has n b ≡ true → has (over m n) (followed a b) ≡ true
has_followed a b Kept Kept h k = and_from a.kept b.kept h k
has_followed a b Yes Kept h k = or_right (some_way a && b.yes) (a.yes && b.kept) (and_from a.yes b.kept h k)
has_followed a b No Kept h k = or_right (some_way a && b.no) (a.no && b.kept) (and_from a.no b.kept h k)
has_followed a b m Yes h k = or_left (some_way a && b.yes) (a.yes && b.kept) (and_from (some_way a) b.yes (some_has a m h) k)
has_followed a b m No h k = or_left (some_way a && b.no) (a.no && b.kept) (and_from (some_way a) b.no (some_has a m h) k)

-- what follows one another
abbrev pub Split : Marks → Marks → Mark → Type 0
Split a b m = (i : Mark) × (j : Mark) × (has i a ≡ true) × (has j b ≡ true) × (over i j ≡ m)

pub followed_has : (a b : Marks) (m : Mark) → has m (followed a b) ≡ true → Split a b m
followed_has a b Kept h = let p = and_parts a.kept b.kept h in (Kept, Kept, p.0, p.1, refl)
followed_has a b Yes h =
    elim (or_cases (some_way a && b.yes) (a.yes && b.kept) h) [
      | inl k ↦ let p = and_parts (some_way a) b.yes k in let s = has_some a p.0 in (s.0, Yes, s.1, p.1, refl)
      | inr k ↦ let p = and_parts a.yes b.kept k in (Yes, Kept, p.0, p.1, refl)
    ]
followed_has a b No h =
    elim (or_cases (some_way a && b.no) (a.no && b.kept) h) [
      | inl k ↦ let p = and_parts (some_way a) b.no k in let s = has_some a p.0 in (s.0, No, s.1, p.1, refl)
      | inr k ↦ let p = and_parts a.no b.kept k in (No, Kept, p.0, p.1, refl)
    ]

-- where the whole keeps the answer, so does what follows
pub followed_kept : (a b : Marks) → has Kept (followed a b) ≡ true → has Kept b ≡ true
followed_kept a b h = (and_parts a.kept b.kept h).1
