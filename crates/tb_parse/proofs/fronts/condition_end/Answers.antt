use Rattle.std.proofs.Common.{rules, ◌<◌}
use Rattle.tb_ast.specs.Depth.{capped, expr_depth}
use Rattle.tb_forms.specs.declared.place.Where.TheVariants.{Condition}
use Rattle.tb_forms.specs.Levels.{loosest_level}
use Rattle.tb_expr.specs.Grammar.{IsWholeAt}
use Rattle.tb_parse.proofs.Ends.{condition-deep}
use Rattle.tb_parse.proofs.fronts.condition_end.Goals as goal

pub returns-in-Ok-clause-none : goal.returns-in-Ok-clause-none
returns-in-Ok-clause-none c =
    let is : IsWholeAt Condition loosest_level c.args.cursor c.in-Ok.condition c.in-Ok.rest = search rules in
    let deep : c.args.depth < capped (expr_depth c.in-Ok.condition) = search rules in
    condition-deep c.args.depth c.args.cursor c.in-Ok.condition c.in-Ok.rest is deep
