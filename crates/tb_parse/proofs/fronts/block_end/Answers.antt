use Rattle.std.proofs.Common.{rules, ◌<◌}
use Rattle.tb_ast.specs.Depth.{capped, block_depth}
use Rattle.tb_expr.specs.Grammar.{IsBlockAt}
use Rattle.tb_parse.proofs.Ends.{block-deep}
use Rattle.tb_parse.proofs.fronts.block_end.Goals as goal

pub returns-in-Ok-clause-none : goal.returns-in-Ok-clause-none
returns-in-Ok-clause-none c =
    let is : IsBlockAt c.args.cursor c.in-Ok.body c.in-Ok.rest = search rules in
    let deep : c.args.depth < capped (block_depth c.in-Ok.body) = search rules in
    block-deep c.args.depth c.args.cursor c.in-Ok.body c.in-Ok.rest is deep
