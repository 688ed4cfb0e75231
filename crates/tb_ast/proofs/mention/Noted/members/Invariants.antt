use Rattle.std.proofs.Common.{◌≡◌, ◌++◌, drop, map}
use Rattle.tb_ast.specs.Mentions.{told_mentions, all_in_order, member_mentions}
use Rattle.tb_ast.proofs.mention.Noted.members.Given as goal

abbrev pub invariant-loop-field : goal.invariant-loop-field
invariant-loop-field l =
    told_mentions l.self.list.items ++ all_in_order (map member_mentions (drop l.field-index l.fields)) ≡ told_mentions l.initial.self.list.items ++ all_in_order (map member_mentions l.fields)
