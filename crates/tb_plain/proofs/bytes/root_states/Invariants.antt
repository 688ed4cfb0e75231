use Rattle.std.proofs.Common.{◌≡◌, replicate, true}
use Rattle.tb_perm.specs.declared.perm.Perm.TheVariants.{Active}
use Rattle.tb_plain.proofs.bytes.root_states.Given as goal

abbrev pub invariant-loop : goal.invariant-loop
invariant-loop l = l.states ≡ replicate l.counter (record { perm = Active; accessed = true })
