use Rattle.std.proofs.Common.{◌≡◌, drop}
use Rattle.tb_perm.specs.Pruning.{is_noted}
use Rattle.tb_plain.specs.Plain.{notes_of}
use Rattle.tb_plain.proofs.pruning.is_noted_in.Given as goal

abbrev pub invariant-loop-row : goal.invariant-loop-row
invariant-loop-row l = is_noted (notes_of (drop l.row-index l.rows)) l.tag.0 ≡ is_noted (notes_of l.rows) l.tag.0
