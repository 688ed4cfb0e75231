use Rattle.tb_fields.proofs.Making.{field_on}
use Rattle.tb_fields.proofs.fields.fields_of.Goals as goal

pub loop-field-preserved : goal.loop-field-preserved
loop-field-preserved c =
    field_on c.args.file.now c.args.types.now c.loop-field.types c.add_field.new.types c.loop-field.list.items c.add_field.new.list.items c.args.fields.now c.loop-field.field-index _ _
    c.loop-field-test.true c.field-item.is c.loop-field.invariant c.in_ok-add_field.ensures
