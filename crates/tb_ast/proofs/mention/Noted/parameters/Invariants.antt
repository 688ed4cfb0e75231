use Rattle.std.proofs.Common.{◌≡◌, ◌++◌, drop, map}
use Rattle.tb_ast.specs.Mentions.{told_mentions, all_in_order, parameter_mentions}
use Rattle.tb_ast.proofs.mention.Noted.parameters.Given as goal

abbrev pub invariant-loop-parameter : goal.invariant-loop-parameter
invariant-loop-parameter l =
    told_mentions l.self.list.items ++ all_in_order (map parameter_mentions (drop l.parameter-index l.parameters)) ≡ told_mentions l.initial.self.list.items ++ all_in_order (map parameter_mentions l.parameters)
