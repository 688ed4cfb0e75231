-- What the pruning calls do to plain rows.
use Rattle.std.specs.Prelude.{◌≡◌, ℕ, ◌≤◌, Bool, true, false, cond, not, List, map, filter, Option, Some, None, nat_lt, ◌==◌}
use Rattle.std.specs.List.{AllByRecursion}
use Rattle.tb_perm.specs.declared.tag.Tag.{Tag}
use Rattle.tb_shape.specs.Tree.{Keys}
use Rattle.tb_plain.specs.declared.row.PlainRow.{PlainRow}
use Rattle.tb_plain.specs.Sweep.{is_plain, contains}

-- the tags of the rows
abbrev pub tags_of : List PlainRow → List ℕ
tags_of rows = map (λ (row : PlainRow). row.tag.0) rows

-- the keys of a tree of tags, and those beside one
abbrev pub keys_of : Keys → List ℕ
keys_of tree = map (λ (entry : ℕ × Option ℕ). entry.0) tree

abbrev pub other_keys : ℕ → List ℕ → List ℕ
other_keys t keys = filter (λ k. not (k == t)) keys

-- the row with a note, if it is the tag's
abbrev pub noted_plain : ℕ → PlainRow → PlainRow
noted_plain t row = cond (is_plain t row) (record row { noted = true }) row

-- the row without a note
abbrev pub cleared_plain : PlainRow → PlainRow
cleared_plain row = record row { noted = false }

-- the rows of other tags
abbrev pub others_plain : ℕ → List PlainRow → List PlainRow
others_plain t rows = filter (λ row. not (is_plain t row)) rows

-- the tag is below the bound, if there is one
abbrev pub is_lesser : Option Tag → Tag → Bool
is_lesser None tag = true
is_lesser (Some bound) tag = nat_lt tag.0 bound.0

-- the greatest tag below the bound, or none where no row's tag is below it
abbrev pub IsGreatest : Option Tag → List PlainRow → Option Tag → Type 0
IsGreatest bound rows None = AllByRecursion (λ (row : PlainRow). is_lesser bound row.tag ≡ false) rows
IsGreatest bound rows (Some best) =
    (contains (tags_of rows) best.0 ≡ true) × (is_lesser bound best ≡ true) × AllByRecursion (λ (row : PlainRow). is_lesser bound row.tag ≡ true → row.tag.0 ≤ best.0) rows

-- the greater of two tags, where the first may be missing
abbrev pub greater_of : Option Tag → Tag → Tag
greater_of None tag = tag
greater_of (Some other) tag = cond (nat_lt other.0 tag.0) tag other

-- the greatest tag so far after a further one, which counts where it is below the bound
abbrev pub better_of : Option Tag → Option Tag → Tag → Option Tag
better_of bound best tag = cond (is_lesser bound tag) (Some (greater_of best tag)) best
