use Rattle.std.proofs.Common.{◌≡◌, ◌++◌, drop}
use Rattle.tb_program.specs.Texts.{lines_text}
use Rattle.tb_program.proofs.printed.put_lines.Given as goal

abbrev pub invariant-loop-line : goal.invariant-loop-line
invariant-loop-line l = l.out.items ++ lines_text l.types l.funcs (drop l.line-index l.lines) ≡ l.initial.out.items ++ lines_text l.types l.funcs l.lines
