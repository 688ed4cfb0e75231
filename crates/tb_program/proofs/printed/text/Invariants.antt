use Rattle.std.proofs.Common.{◌≡◌, ◌++◌, drop}
use Rattle.tb_program.specs.Texts.{functions_text}
use Rattle.tb_program.proofs.printed.text.Given as goal

abbrev pub invariant-loop-func : goal.invariant-loop-func
invariant-loop-func l = l.out.items ++ functions_text l.program.types l.program.funcs (drop l.func-index l.program.funcs) ≡ functions_text l.program.types l.program.funcs l.program.funcs
