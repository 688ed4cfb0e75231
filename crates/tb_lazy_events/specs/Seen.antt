-- The rows of a lazy tree as the definitions of the events see them: as those of a plain tree, without marks.
use Rattle.std.specs.Prelude.{List, map}
use Rattle.tb_perm.specs.Rows.{Row}
use Rattle.tb_shape.specs.Tree.{Keys}
use Rattle.tb_plain.specs.declared.row.PlainRow.{PlainRow}
use Rattle.tb_plain.specs.Plain.{rows_in}
use Rattle.tb_lazy_rows.specs.declared.row.LazyRow.{LazyRow}

-- a row without its marks
abbrev pub plain_of : LazyRow → PlainRow
plain_of row = record { tag = row.tag; guard = row.guard; made = row.made; noted = row.noted; states = row.states }

abbrev pub plain_rows : List LazyRow → List PlainRow
plain_rows rows = map plain_of rows

-- the rows with their parents from the tree of tags
abbrev pub seen_in : Keys → List LazyRow → List Row
seen_in tree rows = rows_in tree (plain_rows rows)
