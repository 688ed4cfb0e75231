use Rattle.tb_signatures.proofs.Signing.{on_ok, signed_one}
use Rattle.tb_signatures.proofs.list.add.Goals as goal

pub returns : goal.returns
returns c =
    on_ok c.push.result
    (signed_one c.args.types.now c.signature_of.new.types c.args.list.now.items c.push.new.list.items c.in_ok-signature.signature _ c.requires.typed c.in_ok-signature.ensures)
    c.push.ensures
