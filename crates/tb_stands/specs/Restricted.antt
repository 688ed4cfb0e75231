-- Rows of which some tags are left: each keeps its guard, its place of birth and its states, and its
-- parent is the nearest of its ancestors that is left.
use Rattle.std.specs.Prelude.{ℕ, Bool, List, reverse, map, filter, find, Option, option_map}
use Rattle.tb_perm.specs.Rows.{Row, path_from}

-- the row's tag is kept
abbrev pub is_kept : (ℕ → Bool) → Row → Bool
is_kept kept row = kept row.tag

-- the nearest kept tag on the path from the tag asked for, its own included, in rows that are read from
-- the newest back
abbrev pub nearest : (ℕ → Bool) → List Row → Option ℕ → Option ℕ
nearest kept back asked = option_map (λ (row : Row). row.tag) (find (is_kept kept) (path_from back asked))

-- a row below its nearest kept ancestor
abbrev pub raised : (ℕ → Bool) → List Row → Row → Row
raised kept rows row = record row { parent = nearest kept (reverse rows) row.parent }

-- the rows of the kept tags
abbrev pub restricted : (ℕ → Bool) → List Row → List Row
restricted kept rows = map (raised kept rows) (filter (is_kept kept) rows)
