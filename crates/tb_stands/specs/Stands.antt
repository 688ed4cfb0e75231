-- The rows that a tree still has, its own rows, stand for the eager rows, which have every tag that was
-- ever made: whatever a tag that is left out would refuse, a tag below it that is kept refuses.
use Rattle.std.specs.Prelude.{◌≡◌, ◌⊎◌, ℕ, Bool, true, false, List, [], ◌∷◌}
use Rattle.std.specs.List.{list_any, AllByRecursion}
use Rattle.tb_perm.specs.declared.perm.Guard.TheVariants.{Free}
use Rattle.tb_perm.specs.Rows.{Row, is_tag, HasTag, IsRows, is_on_path, guard_in}
use Rattle.tb_perm.specs.Release.{is_below}
use Rattle.tb_perm.specs.Table.{is_guarded}
use Rattle.tb_perm.specs.Pruning.{Folds}
use Rattle.tb_stands.specs.Restricted.{restricted}

-- no kept tag is a strict descendant of this one
abbrev pub IsBare : (ℕ → Bool) → List Row → ℕ → Type 0
IsBare kept rows t = (u : ℕ) → HasTag rows u → kept u ≡ true → is_below rows t u ≡ false

-- the second tag is the only topmost one among the kept strict descendants of the first, and covers it at
-- every byte
pub record IsCover (kept : ℕ → Bool) (size : ℕ) (rows : List Row) (t c : ℕ) : Type 0 where
  pub there : HasTag rows c
  pub keeps : kept c ≡ true
  pub below : is_below rows t c ≡ true
  pub topmost : (u : ℕ) → HasTag rows u → kept u ≡ true → is_below rows t u ≡ true → is_on_path rows u c ≡ true
  pub folds : Folds rows size t c (is_guarded (guard_in rows c))

-- the tag may be missing among the kept ones: none is below it, or one covers it
abbrev pub MayMiss : (ℕ → Bool) → ℕ → List Row → ℕ → Type 0
MayMiss kept size rows t = IsBare kept rows t ⊎ ((c : ℕ) × IsCover kept size rows t c)

-- the first row, the root's, is kept
abbrev pub KeepsRoot : (ℕ → Bool) → List Row → Type 0
KeepsRoot kept [] = ⊥
KeepsRoot kept (row ∷ rows) = kept row.tag ≡ true

-- the own rows are those of the kept tags, and stand for all. A number that no tag has counts as kept.
pub record StandsBy (kept : ℕ → Bool) (size : ℕ) (own rows : List Row) : Type 0 where
  pub sound : IsRows size rows
  pub are : own ≡ restricted kept rows
  pub root : KeepsRoot kept rows
  pub unknown : (t : ℕ) → list_any (is_tag t) rows ≡ false → kept t ≡ true
  pub free : (t : ℕ) → HasTag rows t → kept t ≡ false → guard_in rows t ≡ Free
  pub covered : (t : ℕ) → HasTag rows t → kept t ≡ false → MayMiss kept size rows t

-- the own rows stand for all rows, and have every tag that is reached
abbrev pub Stands : ℕ → List Row → List Row → List ℕ → Type 0
Stands size own rows reached = (kept : ℕ → Bool) × StandsBy kept size own rows × AllByRecursion (HasTag own) reached
