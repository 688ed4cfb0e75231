use Rattle.std.proofs.Common.{◌≡◌, ◌-◌, length}
use Rattle.tb_small.specs.Reading.{ends_arguments, next_argument_at, arguments_at, many_at, with_last}
use Rattle.tb_small.proofs.sums.arguments_at.Given as goal

abbrev pub invariant-loop : goal.invariant-loop
invariant-loop l =
    many_at ends_arguments (λ _. next_argument_at l.scope l.inside l.size) with_last (length l.text - l.counter) l.arguments l.rest
    ≡ arguments_at l.scope l.inside l.size l.text
