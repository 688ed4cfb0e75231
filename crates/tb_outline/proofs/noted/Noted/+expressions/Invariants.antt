use Rattle.std.proofs.Common.{◌≡◌, ◌++◌, drop, map}
use Rattle.tb_outline.specs.Outlines.{told_steps, joined, expr_outline, field_outline, stmt_outline}
use Rattle.tb_outline.proofs.noted.Noted.+expressions.Given as goal

abbrev pub invariant-exprs-loop-e : goal.invariant-exprs-loop-e
invariant-exprs-loop-e l =
    told_steps l.self.list.items ++ joined (map expr_outline (drop l.e-index l.list)) ≡ told_steps l.initial.self.list.items ++ joined (map expr_outline l.list)

abbrev pub invariant-fields-loop-field : goal.invariant-fields-loop-field
invariant-fields-loop-field l =
    told_steps l.self.list.items ++ joined (map field_outline (drop l.field-index l.fields)) ≡ told_steps l.initial.self.list.items ++ joined (map field_outline l.fields)

abbrev pub invariant-statements-loop-statement : goal.invariant-statements-loop-statement
invariant-statements-loop-statement l =
    told_steps l.self.list.items ++ joined (map stmt_outline (drop l.statement-index l.statements)) ≡ told_steps l.initial.self.list.items ++ joined (map stmt_outline l.statements)
