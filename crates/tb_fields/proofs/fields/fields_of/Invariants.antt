use Rattle.std.proofs.Common.{drop}
use Rattle.tb_fields.specs.Fields.{written_fields}
use Rattle.tb_fields.specs.Defined.{AreMadeBefore}
use Rattle.tb_fields.proofs.fields.fields_of.Given as goal

abbrev pub invariant-loop-field : goal.invariant-loop-field
invariant-loop-field l = AreMadeBefore l.initial.types l.types l.list.items (written_fields l.file (drop l.field-index l.fields)) (written_fields l.file l.fields)
