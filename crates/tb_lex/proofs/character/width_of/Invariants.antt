use Rattle.std.proofs.Common.{◌≡◌, ◌+◌, drop}
use Rattle.tb_lex.specs.Characters.{width}
use Rattle.tb_lex.proofs.character.width_of.Given as goal

abbrev pub invariant-loop-c : goal.invariant-loop-c
invariant-loop-c l = l.width + width (drop l.c-index l.text) ≡ width l.text
