use Rattle.std.proofs.Common.{◌≡◌, ◌≤◌, length}
use Rattle.tb_small.specs.Reading.{after_word}
use Rattle.tb_small.proofs.words.after_word.Given as goal

abbrev pub invariant-loop-rest : goal.invariant-loop-rest
invariant-loop-rest l = record {
  same : after_word l.rest ≡ after_word l.text;
  shorter : length l.rest ≤ length l.text;
}

abbrev pub decreases-loop-rest : goal.decreases-loop-rest
decreases-loop-rest l = length l.rest
