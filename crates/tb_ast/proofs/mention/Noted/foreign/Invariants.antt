use Rattle.std.proofs.Common.{◌≡◌, ◌++◌, drop, map}
use Rattle.tb_ast.specs.Mentions.{told_mentions, all_in_order, foreign_mentions}
use Rattle.tb_ast.proofs.mention.Noted.foreign.Given as goal

abbrev pub invariant-loop-function : goal.invariant-loop-function
invariant-loop-function l =
    told_mentions l.self.list.items ++ all_in_order (map foreign_mentions (drop l.function-index l.functions)) ≡ told_mentions l.initial.self.list.items ++ all_in_order (map foreign_mentions l.functions)
