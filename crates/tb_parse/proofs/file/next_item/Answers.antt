use Rattle.std.proofs.Common.{rules, ◌≡◌, ◌<◌, map, Some, None}
use Rattle.tb_ast.specs.Depth.{capped, item_depth}
use Rattle.tb_syntax.specs.State.{piece_of}
use Rattle.tb_parse.specs.Files.{item_at}
use Rattle.tb_parse.proofs.Ends.{item-deep, item-none}
use Rattle.tb_parse.proofs.file.next_item.Goals as goal

pub returns-in-Ok-clause-none : goal.returns-in-Ok-clause-none
returns-in-Ok-clause-none c =
    let read : item_at 127 (map piece_of c.args.tokens.now) ≡ Some (c.in-Ok.item, c.in-Ok.rest) = search rules in
    let deep : 128 < capped (item_depth c.in-Ok.item) = search rules in
    item-deep (map piece_of c.args.tokens.now) c.in-Ok.item c.in-Ok.rest read deep

pub returns-in-Err-Unexpected-clause-none : goal.returns-in-Err-Unexpected-clause-none
returns-in-Err-Unexpected-clause-none c =
    let none : item_at 127 (map piece_of c.args.tokens.now) ≡ None = search rules in
    item-none (map piece_of c.args.tokens.now) none
