use Rattle.std.proofs.Common.{◌≡◌, drop}
use Rattle.tb_names.specs.Names.{first_of, lent}
use Rattle.tb_mentions.specs.Heads.{strangers}
use Rattle.tb_mentions.proofs.heads.stranger.Given as goal

abbrev pub invariant-loop-ident : goal.invariant-loop-ident
invariant-loop-ident l = first_of (strangers (lent l.words) (drop l.ident-index l.idents)) ≡ first_of (strangers (lent l.words) l.idents)
