use Rattle.std.proofs.Common.{◌≡◌, ◌-◌, length}
use Rattle.tb_small.specs.Reading.{closes, inner_at, inners_at, many_at, with_last}
use Rattle.tb_small.proofs.statements.inners_at.Given as goal

abbrev pub invariant-loop : goal.invariant-loop
invariant-loop l =
    many_at closes (λ _. inner_at l.scope l.size) with_last (length l.text - l.counter) l.statements l.rest
    ≡ inners_at l.scope l.size l.text
