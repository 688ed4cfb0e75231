use Rattle.std.proofs.Common.{◌≡◌, ◌++◌, drop}
use Rattle.tb_program.specs.Operands.{path_text}
use Rattle.tb_program.proofs.constants.put_path.Given as goal

abbrev pub invariant-loop-part : goal.invariant-loop-part
invariant-loop-part l = l.out.items ++ path_text (drop l.part-index l.parts) ≡ l.initial.out.items ++ path_text l.parts
