use Rattle.std.proofs.Common.{◌≡◌, ◌++◌, drop}
use Rattle.tb_program.specs.Texts.{locals_lines}
use Rattle.tb_program.proofs.printed.put_locals.Given as goal

abbrev pub invariant-loop-number : goal.invariant-loop-number
invariant-loop-number l = l.out.items ++ locals_lines l.types l.number (drop l.number l.locals) ≡ l.initial.out.items ++ locals_lines l.types 0 l.locals
