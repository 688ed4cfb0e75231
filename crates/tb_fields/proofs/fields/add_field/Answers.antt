use Rattle.std.proofs.Common.{◌≡◌, rules}
use Rattle.tb_names.specs.Names.{name_of}
use Rattle.tb_structs.specs.Structs.{shown}
use Rattle.tb_fields.specs.Fields.{written_field}
use Rattle.tb_fields.proofs.Making.{field_made}
use Rattle.tb_fields.proofs.fields.add_field.Goals as goal

pub returns : goal.returns
returns c =
    let name : c.in_ok-name.name ≡ shown (name_of c.args.field.now.name) = search rules in
    field_made c.args.types.now c.field_type.new.types c.args.list.now.items c.push.new.self.items (record { name = c.in_ok-name.name; ty = c.in_ok-ty.ty }) (written_field c.args.file.now c.args.field.now) c.requires.typed c.in_ok-ty.ensures name c.in_ok-push.ensures.items
