use Rattle.std.proofs.Common.{rules, ◌≡◌, Some, length, map}
use Rattle.tb_syntax.specs.State.{piece_of}
use Rattle.tb_parse.specs.Fronts.{IsLongest, StatementsTo, ItemsTo, opened_at}
use Rattle.tb_parse.proofs.ItemFronts.{function-unfinished, function-left}
use Rattle.tb_parse.proofs.Ends.{if-both}
use Rattle.tb_parse.proofs.fronts.function_end.Goals as goal

pub statements_end-requires : goal.statements_end-requires
statements_end-requires c =
    let read : opened_at (map piece_of c.args.tokens.now) ≡ Some c.in-Ok.rest = search rules in
    record { unfinished = function-unfinished (map piece_of c.args.tokens.now) c.in-Ok.rest c.behind.result.now c.requires.none read c.behind.ensures.same }

pub returns-in-Ok-clause-longest : goal.returns-in-Ok-clause-longest
returns-in-Ok-clause-longest c =
    let read : opened_at (map piece_of c.args.tokens.now) ≡ Some c.in-Ok.rest = search rules in
    if-both c.statements_end.result (λ rest. StatementsTo (map piece_of c.behind.result.now) (map piece_of rest.now)) (λ rest. IsLongest (StatementsTo (map piece_of c.behind.result.now)) (length rest.now)) (λ rest. IsLongest (ItemsTo (map piece_of c.args.tokens.now)) (length rest.now))
    c.statements_end.ensures.front c.statements_end.ensures.longest
    (λ rest f longest. function-left (map piece_of c.args.tokens.now) c.in-Ok.rest c.behind.result.now rest.now c.requires.none read c.behind.ensures.same f longest)
