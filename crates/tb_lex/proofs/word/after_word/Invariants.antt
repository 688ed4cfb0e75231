use Rattle.std.proofs.Common.{◌≡◌, ◌≤◌, length}
use Rattle.tb_lex.specs.Characters.{is_continue, after_front}
use Rattle.tb_lex.proofs.word.after_word.Given as goal

abbrev pub invariant-loop-rest : goal.invariant-loop-rest
invariant-loop-rest l = record {
  same : after_front is_continue l.rest ≡ after_front is_continue l.text;
  shorter : length l.rest ≤ length l.text;
}

abbrev pub decreases-loop-rest : goal.decreases-loop-rest
decreases-loop-rest l = length l.rest
