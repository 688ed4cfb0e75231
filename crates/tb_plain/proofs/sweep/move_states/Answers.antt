use Rattle.std.proofs.Common.{◌<◌, arith, length, slice_index_or, None}
use Rattle.tb_plain.proofs.Moves.{MovedBelow-more}
use Rattle.tb_plain.proofs.sweep.move_states.Goals as goal

pub loop-at-preserved : goal.loop-at-preserved
loop-at-preserved c =
    let within : c.loop-at.at < length c.loop-at.states = omega (arith, c.loop-at.invariant.len) in
    rw (c.set.ensures, c.move_state.ensures, c.kind_in.ensures) (MovedBelow-more (λ byte. slice_index_or c.args.sweep.now.kinds byte None) c.args.protected c.args.rel c.args.states.now c.loop-at.states c.loop-at.at c.state_in-state.result within (rw c.as_slice.ensures at c.state_in-state.ensures) c.loop-at.invariant)
