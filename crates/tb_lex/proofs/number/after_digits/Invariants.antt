use Rattle.std.proofs.Common.{◌≡◌, ◌≤◌, length}
use Rattle.tb_lex.specs.Characters.{after_front}
use Rattle.tb_lex.specs.Tokens.{is_among_digits}
use Rattle.tb_lex.proofs.number.after_digits.Given as goal

abbrev pub invariant-loop-rest : goal.invariant-loop-rest
invariant-loop-rest l = record {
  same : after_front (is_among_digits l.base) l.rest ≡ after_front (is_among_digits l.base) l.text;
  shorter : length l.rest ≤ length l.text;
}

abbrev pub decreases-loop-rest : goal.decreases-loop-rest
decreases-loop-rest l = length l.rest
