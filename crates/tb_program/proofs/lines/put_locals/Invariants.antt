use Rattle.std.proofs.Common.{◌≡◌, ◌++◌, drop}
use Rattle.tb_program.specs.Lines.{locals_text}
use Rattle.tb_program.proofs.lines.put_locals.Given as goal

abbrev pub invariant-loop-local : goal.invariant-loop-local
invariant-loop-local l = l.out.items ++ locals_text (drop l.local-index l.locals) ≡ l.initial.out.items ++ locals_text l.locals
