-- When a sweep does to the plain rows what an event does to the rows of the tree.
use Rattle.std.specs.Prelude.{◌≡◌, ℕ, ◌<◌, List}
use Rattle.std.specs.List.{AllByRecursion}
use Rattle.tb_perm.specs.Rows.{tags, path_to_root}
use Rattle.tb_perm.specs.Event.{Event}
use Rattle.tb_shape.specs.Tree.{Keys}
use Rattle.tb_plain.specs.declared.row.PlainRow.{PlainRow}
use Rattle.tb_plain.specs.declared.sweep.Sweep.{Sweep}
use Rattle.tb_plain.specs.Plain.{rows_in}
use Rattle.tb_plain.specs.Sweep.{met}

-- the sweep has the path of the event's tag, and each row meets the same at each byte
pub record Fits (tree : Keys) (rows : List PlainRow) (size : ℕ) (event : Event) (sweep : Sweep) : Type 0 where
  pub path : sweep.path ≡ tags (path_to_root (rows_in tree rows) event.through)
  pub meets : (b : ℕ) → b < size → AllByRecursion (λ (r : PlainRow). event.meets r.tag.0 b ≡ met sweep r.tag.0 b) rows
