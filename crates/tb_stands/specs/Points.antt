-- That own rows stand for eager rows, point by point and of the two lists alone.
use Rattle.std.specs.Prelude.{◌≡◌, ◌⊎◌, ℕ, Bool, true, false, List, reverse, find, Some}
use Rattle.std.specs.List.{list_any, AllByRecursion}
use Rattle.tb_perm.specs.declared.perm.Guard.TheVariants.{Free}
use Rattle.tb_perm.specs.Rows.{Row, is_tag, HasTag, IsRows, guard_in}
use Rattle.tb_perm.specs.Release.{is_below}
use Rattle.tb_perm.specs.Table.{is_guarded}
use Rattle.tb_perm.specs.Pruning.{is_noted, Folds}
use Rattle.tb_stands.specs.Restricted.{nearest}
use Rattle.tb_stands.specs.Folded.{is_first}

-- the tag has a row, as a test
abbrev pub has : List Row → ℕ → Bool
has rows t = list_any (is_tag t) rows

-- the own row has the guard, the place of birth and the states of the eager row, and its parent is the nearest
-- eager ancestor that is an own tag
pub record IsOwnRow (own rows : List Row) (mine eager : Row) : Type 0 where
  pub tag : mine.tag ≡ eager.tag
  pub guard : mine.guard ≡ eager.guard
  pub made : mine.made ≡ eager.made
  pub states : mine.states ≡ eager.states
  pub parent : mine.parent ≡ nearest (has own) (reverse rows) eager.parent

-- an own tag below this one, with no own tag between
pub record IsTopmost (own rows : List Row) (t c : ℕ) : Type 0 where
  pub there : HasTag own c
  pub below : is_below rows t c ≡ true
  pub between : (u : ℕ) → HasTag own u → is_below rows t u ≡ true → is_below rows u c ≡ false

-- no own tag is below, or exactly one topmost one is, and covers the tag at every byte
abbrev pub MayLack : List Row → ℕ → List Row → ℕ → Type 0
MayLack own size rows t =
    ((u : ℕ) → HasTag own u → is_below rows t u ≡ false)
    ⊎ ((c : ℕ) × IsTopmost own rows t c × ((other : ℕ) → IsTopmost own rows t other → other ≡ c) × Folds rows size t c (is_guarded (guard_in rows c)))

pub record StandsInPoints (size : ℕ) (own rows : List Row) (reached : List ℕ) : Type 0 where
  pub own_sound : IsRows size own
  pub sound : IsRows size rows
  pub root : (t : ℕ) → is_first own t ≡ is_first rows t
  pub each : (mine : Row) → find (is_tag mine.tag) own ≡ Some mine → (eager : Row) × (find (is_tag mine.tag) rows ≡ Some eager) × IsOwnRow own rows mine eager
  pub reaches : AllByRecursion (HasTag own) reached
  pub free : (t : ℕ) → HasTag rows t → has own t ≡ false → guard_in rows t ≡ Free
  pub unreached : (t : ℕ) → HasTag rows t → has own t ≡ false → is_noted reached t ≡ false
  pub lacking : (t : ℕ) → HasTag rows t → has own t ≡ false → MayLack own size rows t
