use Rattle.tb_written.proofs.Keeping.{one_more}
use Rattle.tb_signatures.proofs.signature.add_parameter.Goals as goal

pub returns : goal.returns
returns c = one_more c.args.types.now c.written_type.new.types c.args.list.now.items c.push.new.self.items c.in_ok-ty.ty _ c.requires.list c.in_ok-ty.ensures.written c.in_ok-push.ensures.items
