-- What contracts see of a `PlainTree`, and what is true of its fields.
use Rattle.std.specs.Prelude.{◌≡◌, ℕ, List, Option, map, filter, find}
use Rattle.std.specs.Option.{option_map}
use Rattle.tb_perm.specs.declared.perm.State.{State}
use Rattle.tb_shape.specs.Tree.{Keys, parent_of}
use Rattle.tb_perm.specs.Rows.{Row, IsRows, is_tag}
use Rattle.tb_plain.specs.declared.row.PlainRow.{PlainRow}

-- its rows, how many bytes it has, and the tags that are noted, in rising order
pub record Plain : Type 0 where
  pub rows : List Row
  pub size : ℕ
  pub notes : List ℕ

-- a row with its parent from the tree of tags
abbrev pub row_in : Keys → PlainRow → Row
row_in tree row =
    record { tag = row.tag.0; parent = parent_of tree row.tag.0; guard = row.guard; made = row.made; states = row.states }

abbrev pub rows_in : Keys → List PlainRow → List Row
rows_in tree rows = map (row_in tree) rows

-- the tags that are noted
abbrev pub notes_of : List PlainRow → List ℕ
notes_of rows = map (λ (row : PlainRow). row.tag.0) (filter (λ (row : PlainRow). row.noted) rows)

-- the tree has the rows' tags, in their order, and with it they are the rows of an allocation
pub record IsPlain (tree : Keys) (rows : List PlainRow) (size : ℕ) : Type 0 where
  pub sound : IsRows size (rows_in tree rows)
  pub keys : map (λ (entry : ℕ × Option ℕ). entry.0) tree ≡ map (λ (row : PlainRow). row.tag.0) rows

-- the state of a tag at each byte, if it has a row
abbrev pub states_of : List Row → ℕ → Option (List State)
states_of rows t = option_map (λ (row : Row). row.states) (find (is_tag t) rows)
