use Rattle.std.proofs.Common.{◌≡◌, ◌++◌, take}
use Rattle.tb_lower.specs.Lowering.{scope_end}
use Rattle.tb_lower.proofs.lowering.Lowering.end_scope.Given as goal

-- the variables that have ended, and those that are still to end
abbrev pub invariant-loop-number : goal.invariant-loop-number
invariant-loop-number l = record {
  lines : l.self.lines.items ++ scope_end l.span (take l.number l.fn.self.variables.items) ≡ l.fn.self.lines.items ++ scope_end l.span l.fn.self.variables.items;
  variables : l.self.variables ≡ l.fn.self.variables;
  locals : l.self.locals ≡ l.fn.self.locals;
}
