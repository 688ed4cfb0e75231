use Rattle.std.proofs.Common.{◌≡◌, ◌≤◌, ◌-◌, length}
use Rattle.std.specs.List.{flat_map}
use Rattle.tb_small.specs.Grammar.{bindings, locals}
use Rattle.tb_small.specs.Reading.{closes, next_statement_at, statements_at, many_at, with_last}
use Rattle.tb_small.proofs.statements.statements_at.Given as goal

abbrev pub invariant-loop : goal.invariant-loop
invariant-loop l = record {
  read : many_at closes (next_statement_at l.size) with_last (length l.text - l.counter) l.statements l.rest ≡ statements_at l.size l.text;
  scope : l.scope.items ≡ flat_map bindings l.statements;
  count : l.locals ≡ locals l.statements;
  few : l.locals ≤ 4096;
}
