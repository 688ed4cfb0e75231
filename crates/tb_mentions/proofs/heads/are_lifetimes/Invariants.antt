use Rattle.std.proofs.Common.{◌≡◌, drop}
use Rattle.tb_mentions.specs.Heads.{are_lifetimes}
use Rattle.tb_mentions.proofs.heads.are_lifetimes.Given as goal

abbrev pub invariant-loop-argument : goal.invariant-loop-argument
invariant-loop-argument l = are_lifetimes (drop l.argument-index l.arguments) ≡ are_lifetimes l.arguments
