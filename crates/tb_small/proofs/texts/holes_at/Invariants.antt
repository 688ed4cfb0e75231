use Rattle.std.proofs.Common.{◌≡◌, ◌≤◌, ◌+◌, ◌-◌, length}
use Rattle.tb_small.specs.Words.{begins_with}
use Rattle.tb_small.specs.Reading.{piece_at, holes_at, many_at}
use Rattle.tb_small.proofs.texts.holes_at.Given as goal

abbrev pub invariant-loop : goal.invariant-loop
invariant-loop l = record {
  read : many_at (begins_with 34) (λ _. piece_at) (λ taken more. taken + more) (length l.text - l.counter) l.holes l.rest ≡ holes_at l.text;
  few : l.holes + length l.rest ≤ length l.text;
}
