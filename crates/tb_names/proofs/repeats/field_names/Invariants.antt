use Rattle.std.proofs.Common.{◌≡◌, ◌++◌, drop}
use Rattle.tb_names.specs.Names.{told}
use Rattle.tb_names.specs.Repeats.{field_names}
use Rattle.tb_names.proofs.repeats.field_names.Given as goal

abbrev pub invariant-loop-field : goal.invariant-loop-field
invariant-loop-field l = told l.names.items ++ field_names (drop l.field-index l.fields) ≡ field_names l.fields
