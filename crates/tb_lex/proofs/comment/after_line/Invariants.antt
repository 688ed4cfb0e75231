use Rattle.std.proofs.Common.{◌≡◌, ◌≤◌, length}
use Rattle.tb_lex.specs.Characters.{after_front, is_in_line}
use Rattle.tb_lex.proofs.comment.after_line.Given as goal

abbrev pub invariant-loop-rest : goal.invariant-loop-rest
invariant-loop-rest l = record {
  same : after_front is_in_line l.rest ≡ after_front is_in_line l.text;
  shorter : length l.rest ≤ length l.text;
}

abbrev pub decreases-loop-rest : goal.decreases-loop-rest
decreases-loop-rest l = length l.rest
