use Rattle.std.proofs.Common.{◌≡◌, map, filter, take}
use Rattle.tb_perm.specs.Release.{is_below}
use Rattle.tb_plain.specs.declared.row.PlainRow.{PlainRow}
use Rattle.tb_plain.specs.Plain.{rows_in}
use Rattle.tb_plain.proofs.events.tags_below.Given as goal

abbrev pub invariant-loop-row : goal.invariant-loop-row
invariant-loop-row l = l.below ≡ map (λ (x : PlainRow). x.tag.0) (filter (λ (x : PlainRow). is_below (rows_in l.shape l.rows) l.tag.0 x.tag.0) (take l.row-index l.rows))
