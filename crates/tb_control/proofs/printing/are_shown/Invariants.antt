use Rattle.std.proofs.Common.{◌≡◌, drop}
use Rattle.tb_control.specs.Prints.{are_shown}
use Rattle.tb_control.proofs.printing.are_shown.Given as goal

abbrev pub invariant-loop-argument : goal.invariant-loop-argument
invariant-loop-argument l = are_shown l.types (drop l.argument-index l.arguments) ≡ are_shown l.types l.arguments
