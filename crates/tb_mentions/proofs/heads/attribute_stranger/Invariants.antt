use Rattle.std.proofs.Common.{◌≡◌, drop}
use Rattle.tb_names.specs.Names.{first_of}
use Rattle.tb_mentions.specs.Heads.{attribute_strangers}
use Rattle.tb_mentions.proofs.heads.attribute_stranger.Given as goal

abbrev pub invariant-loop-attribute : goal.invariant-loop-attribute
invariant-loop-attribute l = first_of (attribute_strangers (drop l.attribute-index l.attributes)) ≡ first_of (attribute_strangers l.attributes)
