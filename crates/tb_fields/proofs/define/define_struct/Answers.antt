use Rattle.std.proofs.Common.{subst, [], List}
use Rattle.tb_ast.specs.declared.item.Field.{Field}
use Rattle.tb_fields.specs.Fields.{written_fields}
use Rattle.tb_fields.specs.Defined.{AreMade}
use Rattle.tb_fields.proofs.Defining.{ready, defines}
use Rattle.tb_fields.proofs.define.define_struct.Goals as goal

pub define-requires-clause-fields : goal.define-requires-clause-fields
define-requires-clause-fields c =
    ready c.args.types.now c.fields_of.new.types c.law_types.ensures.types c.in_ok-fields.fields.items (written_fields c.args.file.now c.args.one.now.fields)
    (subst (λ (fields : List Field). AreMade c.args.types.now c.fields_of.new.types [] c.in_ok-fields.fields.items (written_fields c.args.file.now fields)) c.as_slice.ensures c.in_ok-fields.ensures)
    c.requires.held

pub returns : goal.returns
returns c =
    defines c.args.file.now c.args.types.now c.fields_of.new.types c.define.new.self c.args.number c.args.one.now c.in_ok-fields.fields.items c.law_types.ensures.types c.requires.number
    (subst (λ (fields : List Field). AreMade c.args.types.now c.fields_of.new.types [] c.in_ok-fields.fields.items (written_fields c.args.file.now fields)) c.as_slice.ensures c.in_ok-fields.ensures)
    c.in_ok-define.ensures.types c.define.ensures.extends
