use Rattle.std.proofs.Common.{◌≡◌, ◌++◌, drop, map}
use Rattle.tb_ast.specs.Mentions.{told_mentions, all_in_order, expr_mentions, field_mentions, stmt_mentions}
use Rattle.tb_ast.proofs.mention.Noted.+expressions.Given as goal

abbrev pub invariant-exprs-loop-e : goal.invariant-exprs-loop-e
invariant-exprs-loop-e l =
    told_mentions l.self.list.items ++ all_in_order (map expr_mentions (drop l.e-index l.list)) ≡ told_mentions l.initial.self.list.items ++ all_in_order (map expr_mentions l.list)

abbrev pub invariant-fields-loop-field : goal.invariant-fields-loop-field
invariant-fields-loop-field l =
    told_mentions l.self.list.items ++ all_in_order (map field_mentions (drop l.field-index l.fields)) ≡ told_mentions l.initial.self.list.items ++ all_in_order (map field_mentions l.fields)

abbrev pub invariant-statements-loop-statement : goal.invariant-statements-loop-statement
invariant-statements-loop-statement l =
    told_mentions l.self.list.items ++ all_in_order (map stmt_mentions (drop l.statement-index l.statements)) ≡ told_mentions l.initial.self.list.items ++ all_in_order (map stmt_mentions l.statements)
