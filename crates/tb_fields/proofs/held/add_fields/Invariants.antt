use Rattle.std.proofs.Common.{◌≡◌, ◌++◌, drop}
use Rattle.tb_fields.specs.Fields.{told_fields, held_in}
use Rattle.tb_fields.specs.Defined.{AreTyped}
use Rattle.tb_fields.proofs.held.add_fields.Given as goal

abbrev pub invariant-loop-field : goal.invariant-loop-field
invariant-loop-field l = record {
  rest : AreTyped l.types (drop l.field-index l.fields);
  numbers : l.list.items ++ held_in (told_fields l.types (drop l.field-index l.fields)) ≡ l.fn.list.items ++ held_in (told_fields l.types l.fields);
}
