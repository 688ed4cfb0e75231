use Rattle.std.proofs.Common.{◌≡◌, ◌++◌, drop}
use Rattle.tb_program.specs.Texts.{blocks_text}
use Rattle.tb_program.proofs.printed.put_blocks.Given as goal

abbrev pub invariant-loop-number : goal.invariant-loop-number
invariant-loop-number l = l.out.items ++ blocks_text l.types l.funcs l.number (drop l.number l.blocks) ≡ l.initial.out.items ++ blocks_text l.types l.funcs 0 l.blocks
