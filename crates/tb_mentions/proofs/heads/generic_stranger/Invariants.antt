use Rattle.std.proofs.Common.{◌≡◌, drop}
use Rattle.tb_names.specs.Names.{first_of}
use Rattle.tb_mentions.specs.Heads.{generic_strangers}
use Rattle.tb_mentions.proofs.heads.generic_stranger.Given as goal

abbrev pub invariant-loop-parameter : goal.invariant-loop-parameter
invariant-loop-parameter l = first_of (generic_strangers (drop l.parameter-index l.parameters)) ≡ first_of (generic_strangers l.parameters)
