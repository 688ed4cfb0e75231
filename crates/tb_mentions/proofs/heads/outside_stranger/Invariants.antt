use Rattle.std.proofs.Common.{◌≡◌, drop}
use Rattle.tb_names.specs.Names.{first_of}
use Rattle.tb_mentions.specs.Heads.{outside_strangers}
use Rattle.tb_mentions.proofs.heads.outside_stranger.Given as goal

abbrev pub invariant-loop-function : goal.invariant-loop-function
invariant-loop-function l = first_of (outside_strangers (drop l.function-index l.functions)) ≡ first_of (outside_strangers l.functions)
