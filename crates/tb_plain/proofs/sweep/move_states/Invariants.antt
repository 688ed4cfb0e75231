use Rattle.std.proofs.Common.{slice_index_or, None}
use Rattle.tb_plain.proofs.Moves.{MovedBelow}
use Rattle.tb_plain.proofs.sweep.move_states.Given as goal

abbrev pub invariant-loop-at : goal.invariant-loop-at
invariant-loop-at l = MovedBelow (λ byte. slice_index_or l.sweep.kinds byte None) l.protected l.rel l.initial.states l.states l.at
