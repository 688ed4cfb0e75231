use Rattle.std.proofs.Common.{◌≡◌, ◌++◌, drop}
use Rattle.tb_program.specs.Operands.{operands_text}
use Rattle.tb_program.proofs.constants.put_operands.Given as goal

abbrev pub invariant-loop-operand : goal.invariant-loop-operand
invariant-loop-operand l = l.out.items ++ operands_text (drop l.operand-index l.operands) ≡ l.initial.out.items ++ operands_text l.operands
