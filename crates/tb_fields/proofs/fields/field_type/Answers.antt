use Rattle.std.proofs.Common.{subst, [], Option}
use Rattle.tb_types.specs.declared.shape.Ty.{Ty}
use Rattle.tb_written.specs.Written.{written}
use Rattle.tb_written.specs.Kept.{IsFound}
use Rattle.tb_fields.proofs.Making.{made_unit}
use Rattle.tb_fields.proofs.fields.field_type.Goals as goal

pub returns-in-None : goal.returns-in-None
returns-in-None c =
    made_unit c.args.types.now c.written_type.new.types c.intern.new.types c.intern.result _
    (subst (λ (found : Option Ty). IsFound c.args.types.now c.written_type.new.types found (written c.args.file.now [] c.args.ty.now)) c.in-None.is c.in_ok-made.ensures.written)
    c.intern.ensures.kept c.intern.ensures.is_type c.intern.ensures.tree
