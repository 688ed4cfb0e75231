use Rattle.std.proofs.Common.{◌≡◌, ◌≤◌, length}
use Rattle.tb_lex.specs.declared.literal.Stage.TheVariants.{Open}
use Rattle.tb_lex.specs.Stages.{content}
use Rattle.tb_lex.proofs.literal.content.Given as goal

abbrev pub invariant-loop-rest : goal.invariant-loop-rest
invariant-loop-rest l = record {
  same : content l.literal l.stage l.rest ≡ content l.literal Open l.text;
  shorter : length l.rest ≤ length l.text;
}

abbrev pub decreases-loop-rest : goal.decreases-loop-rest
decreases-loop-rest l = length l.rest
