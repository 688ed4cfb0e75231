use Rattle.std.proofs.Common.{refl, arith}
use Rattle.std.proofs.lemmas.Option.{slice_get_within}
use Rattle.tb_bytes.specs.declared.byte_val.ByteVal.TheVariants.{Uninit}
use Rattle.tb_bytes.proofs.Marking.{one_alike, more_alike}
use Rattle.tb_bytes.proofs.marks.alike_end.Goals as goal

pub loop-to-init : goal.loop-to-init
loop-to-init c =
    let within = slice_get_within c.args.bytes.now c.args.from c.args.first c.requires in
    (omega arith, omega (arith, within), one_alike c.args.bytes.now c.args.from c.args.first within c.requires)

pub loop-to-preserved : goal.loop-to-preserved
loop-to-preserved c =
    let was = c.loop-to.invariant in (
      omega (arith, was.0),
      omega (arith, c.loop-to-test.true),
      more_alike c.args.bytes.now c.args.from c.loop-to.to c.args.first _ Uninit (omega (arith, was.0)) c.loop-to-test.true refl (c.is_alike.ensures.init c.if-not-is_alike.false) (c.is_alike.ensures.prov c.if-not-is_alike.false) was.2,
    )
