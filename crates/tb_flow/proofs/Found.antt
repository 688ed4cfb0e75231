-- What a summary says of an end and a mark, for each way of making one.
use Rattle.std.proofs.Common.{◌≡◌, ◌⊎◌, ℕ, true, Some, None, refl, sym, subst, inl, inr}
use Rattle.std.specs.Prelude.{⊤}
use Rattle.tb_flow.specs.declared.mark.Mark.{Mark}
use Rattle.tb_flow.specs.declared.mark.Mark.TheVariants.{Kept, Yes, No}
use Rattle.tb_flow.specs.declared.mark.Marks.{Marks}
use Rattle.tb_flow.specs.declared.summary.Summary.{Summary}
use Rattle.tb_flow.specs.Flows.{End, Next, Broke, Continued, At, IsAway}
use Rattle.tb_flow.specs.Summaries.{no_marks, some_way, where_true, marked, either_of, after}
use Rattle.tb_flow.proofs.Sets.{over, has, has_none, only_is, some_has, has_some, has_left, has_right, joined_has, has_followed, followed_has}
use Rattle.tb_flow.proofs.Places.{NotAfter, earlier_is, earlier_left, earlier_right, where_is, where_from}

-- it says that some way is so
abbrev pub Found : ℕ → Summary → End → Mark → Type 0
Found v a Next m = has m a.next ≡ true
Found v a Broke m = has m a.broke ≡ true
Found v a Continued m = has m a.continued ≡ true
Found v a (At w span) Kept = (w ≡ v) × (a.kept_use ≡ Some span)
Found v a (At w span) Yes = (w ≡ v) × (a.yes_use ≡ Some span)
Found v a (At w span) No = ⊥

-- it allows that a way is so
abbrev pub Allows : ℕ → Summary → End → Mark → Type 0
Allows v a Next m = has m a.next ≡ true
Allows v a Broke m = has m a.broke ≡ true
Allows v a Continued m = has m a.continued ≡ true
Allows v a (At w span) Kept = w ≡ v → NotAfter a.kept_use span
Allows v a (At w span) Yes = w ≡ v → NotAfter a.yes_use span
Allows v a (At w span) No = ⊤

pub found_marked : (v : ℕ) (mark : Mark) (P : End → Mark → Type 0) → P Next mark → (end : End) (m : Mark) → Found v (marked mark) end m → P end m
found_marked v mark P base Next m h = subst (λ x. P Next x) (sym (only_is m mark h)) base
found_marked v mark P base Broke m h = absurd (has_none m h)
found_marked v mark P base Continued m h = absurd (has_none m h)
found_marked v mark P base (At w span) Kept h = let none : None ≡ Some span = h.1 in absurd cc
found_marked v mark P base (At w span) Yes h = let none : None ≡ Some span = h.1 in absurd cc
found_marked v mark P base (At w span) No h = absurd h

pub found_either : (v : ℕ) (a b : Summary) (end : End) (m : Mark) → Found v (either_of a b) end m → Found v a end m ⊎ Found v b end m
unfolding either_of
found_either v a b Next m h = joined_has a.next b.next m h
found_either v a b Broke m h = joined_has a.broke b.broke m h
found_either v a b Continued m h = joined_has a.continued b.continued m h
found_either v a b (At w span) Kept h =
    elim (earlier_is a.kept_use b.kept_use span h.1) [
      | inl k ↦ inl (h.0, k)
      | inr k ↦ inr (h.0, k)
    ]
found_either v a b (At w span) Yes h =
    elim (earlier_is a.yes_use b.yes_use span h.1) [
      | inl k ↦ inl (h.0, k)
      | inr k ↦ inr (h.0, k)
    ]
found_either v a b (At w span) No h = absurd h

pub allows_left : (v : ℕ) (a b : Summary) (end : End) (m : Mark) → Allows v a end m → Allows v (either_of a b) end m
unfolding either_of
allows_left v a b Next m h = has_left a.next b.next m h
allows_left v a b Broke m h = has_left a.broke b.broke m h
allows_left v a b Continued m h = has_left a.continued b.continued m h
allows_left v a b (At w span) Kept h = λ same. earlier_left a.kept_use b.kept_use span (h same)
allows_left v a b (At w span) Yes h = λ same. earlier_left a.yes_use b.yes_use span (h same)
allows_left v a b (At w span) No h = tt

pub allows_right : (v : ℕ) (a b : Summary) (end : End) (m : Mark) → Allows v b end m → Allows v (either_of a b) end m
unfolding either_of
allows_right v a b Next m h = has_right a.next b.next m h
allows_right v a b Broke m h = has_right a.broke b.broke m h
allows_right v a b Continued m h = has_right a.continued b.continued m h
allows_right v a b (At w span) Kept h = λ same. earlier_right a.kept_use b.kept_use span (h same)
allows_right v a b (At w span) Yes h = λ same. earlier_right a.yes_use b.yes_use span (h same)
allows_right v a b (At w span) No h = tt

-- a mark from before, and one from the piece
abbrev pub Both : ℕ → Marks → Summary → End → Mark → Type 0
Both v marks a end m = (i : Mark) × (j : Mark) × (has i marks ≡ true) × Found v a end j × (over i j ≡ m)

pub found_after : (v : ℕ) (marks : Marks) (a : Summary) (end : End) (m : Mark) → Found v (after marks a) end m → Both v marks a end m
found_after v marks a Next m h = followed_has marks a.next m h
found_after v marks a Broke m h = followed_has marks a.broke m h
found_after v marks a Continued m h = followed_has marks a.continued m h
found_after v marks a (At w span) Kept h =
    let k = where_is marks.kept a.kept_use span h.1 in
    (Kept, Kept, k.0, (h.0, k.1), refl)
found_after v marks a (At w span) Yes h =
    elim (earlier_is (where_true (some_way marks) a.yes_use) (where_true marks.yes a.kept_use) span h.1) [
      | inl k ↦
          let l = where_is (some_way marks) a.yes_use span k in
          let s = has_some marks l.0 in
          (s.0, Yes, s.1, (h.0, l.1), refl)
      | inr k ↦
          let l = where_is marks.yes a.kept_use span k in
          (Yes, Kept, l.0, (h.0, l.1), refl)
    ]
found_after v marks a (At w span) No h = absurd h

pub allows_after : (v : ℕ) (marks : Marks) (a : Summary) (end : End) (i j : Mark) → has i marks ≡ true → Allows v a end j → Allows v (after marks a) end (over i j)
allows_after v marks a Next i j h k = has_followed marks a.next i j h k
allows_after v marks a Broke i j h k = has_followed marks a.broke i j h k
allows_after v marks a Continued i j h k = has_followed marks a.continued i j h k
allows_after v marks a (At w span) Kept Kept h k = λ same. where_from marks.kept a.kept_use span h (k same)
allows_after v marks a (At w span) Yes Kept h k =
    λ same. earlier_right (where_true (some_way marks) a.yes_use) (where_true marks.yes a.kept_use) span (where_from marks.yes a.kept_use span h (k same))
allows_after v marks a (At w span) No Kept h k = tt
allows_after v marks a (At w span) i Yes h k =
    λ same. earlier_left (where_true (some_way marks) a.yes_use) (where_true marks.yes a.kept_use) span (where_from (some_way marks) a.yes_use span (some_has marks i h) (k same))
allows_after v marks a (At w span) i No h k = tt

-- without the ways to the end
abbrev pub away : Summary → Summary
away a = record a { next = no_marks }

pub found_away : (v : ℕ) (a : Summary) (end : End) (m : Mark) → Found v (away a) end m → IsAway end × Found v a end m
found_away v a Next m h = absurd (has_none m h)
found_away v a Broke m h = (tt, h)
found_away v a Continued m h = (tt, h)
found_away v a (At w span) Kept h = (tt, h)
found_away v a (At w span) Yes h = (tt, h)
found_away v a (At w span) No h = absurd h

pub allows_away : (v : ℕ) (a : Summary) (end : End) (m : Mark) → IsAway end → Allows v a end m → Allows v (away a) end m
allows_away v a Next m is h = absurd is
allows_away v a Broke m is h = h
allows_away v a Continued m is h = h
allows_away v a (At w span) Kept is h = h
allows_away v a (At w span) Yes is h = h
allows_away v a (At w span) No is h = h
