use Rattle.std.proofs.Common.{◌≡◌, drop}
use Rattle.tb_lex.specs.Tables.{first_standing, punctuation_text}
use Rattle.tb_lex.proofs.punctuation.first_standing.Given as goal

abbrev pub invariant-loop-mark : goal.invariant-loop-mark
invariant-loop-mark l =
    first_standing punctuation_text (drop l.mark-index l.punctuation) l.text ≡ first_standing punctuation_text l.punctuation l.text
