use Rattle.std.proofs.Common.{◌≡◌, drop}
use Rattle.tb_lex.specs.Numbers.{value_from}
use Rattle.tb_lex.proofs.number.value_of.Given as goal

abbrev pub invariant-loop-c : goal.invariant-loop-c
invariant-loop-c l = value_from l.base l.value (drop l.c-index l.digits) ≡ value_from l.base 0 l.digits
