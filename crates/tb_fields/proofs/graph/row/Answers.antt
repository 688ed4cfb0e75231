use Rattle.std.proofs.Common.{ap, subst, ◌∙◌, ◌++◌, [], List}
use Rattle.tb_ast.specs.declared.item.Field.{Field}
use Rattle.tb_fields.specs.Fields.{told_fields, written_fields, held_in}
use Rattle.tb_fields.specs.Defined.{AreMade}
use Rattle.tb_fields.proofs.Making.{row_is}
use Rattle.tb_fields.proofs.graph.row.Goals as goal

pub returns : goal.returns
returns c =
    row_is c.args.types.now c.fields_of.new.types c.in_ok-fields.fields.items (written_fields c.args.file.now c.args.one.now.fields) c.add_fields.new.list.items c.law_types.ensures.types
    (subst (λ (fields : List Field). AreMade c.args.types.now c.fields_of.new.types [] c.in_ok-fields.fields.items (written_fields c.args.file.now fields)) c.as_slice.ensures c.in_ok-fields.ensures)
    (c.in_ok-add_fields.ensures ∙ ap (λ numbers. numbers ++ held_in (told_fields c.fields_of.new.types c.deref.result.now)) c.new-row.ensures.items ∙ ap (λ fields. held_in (told_fields c.fields_of.new.types fields)) c.deref.ensures.value)
