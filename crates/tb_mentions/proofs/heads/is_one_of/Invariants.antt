use Rattle.std.proofs.Common.{◌≡◌, drop}
use Rattle.tb_names.specs.Names.{name_of, is_among, lent}
use Rattle.tb_mentions.proofs.heads.is_one_of.Given as goal

abbrev pub invariant-loop-word : goal.invariant-loop-word
invariant-loop-word l = is_among (lent (drop l.word-index l.words)) (name_of l.ident) ≡ is_among (lent l.words) (name_of l.ident)
