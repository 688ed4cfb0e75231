use Rattle.tb_outline.specs.Outlines.{type_outline, argument_outline}
use Rattle.tb_outline.proofs.Noting.{note_next}
use Rattle.tb_outline.proofs.noted.Noted.+types.Goals as goal

pub types_parts-loop-ty-preserved : goal.types_parts-loop-ty-preserved
types_parts-loop-ty-preserved t c =
    note_next type_outline c.args.types.now c.loop-ty.ty-index _ c.loop-ty-test.true c.ty-item.is
    _ _ _ c.in_ok-type_parts.ensures c.loop-ty.invariant

pub arguments-loop-argument-preserved : goal.arguments-loop-argument-preserved
arguments-loop-argument-preserved t c =
    note_next argument_outline c.args.arguments.now c.loop-argument.argument-index _ c.loop-argument-test.true c.argument-item.is
    _ _ _ c.in_ok-argument.ensures c.loop-argument.invariant
