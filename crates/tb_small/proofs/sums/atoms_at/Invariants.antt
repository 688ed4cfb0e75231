use Rattle.std.proofs.Common.{◌≡◌, ◌-◌}
use Rattle.tb_small.specs.Reading.{ends_sum, next_atom_at, atoms_at, many_at, with_last}
use Rattle.tb_small.proofs.sums.atoms_at.Given as goal

abbrev pub invariant-loop : goal.invariant-loop
invariant-loop l =
    many_at ends_sum (λ _. next_atom_at l.scope l.inside l.size) with_last (63 - l.counter) l.atoms l.rest
    ≡ atoms_at l.scope l.inside l.size l.text
