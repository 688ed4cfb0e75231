use Rattle.std.proofs.Common.{rules, ◌≡◌, map, Some, None}
use Rattle.tb_syntax.specs.State.{piece_of}
use Rattle.tb_syntax.specs.Attributes.{inner_at}
use Rattle.tb_parse.proofs.Ends.{inner-left, inner-none}
use Rattle.tb_parse.proofs.file.next_inner.Goals as goal

pub returns-in-Ok-clause-found : goal.returns-in-Ok-clause-found
returns-in-Ok-clause-found c =
    let read : inner_at (map piece_of c.args.tokens.now) ≡ Some (c.in-Ok.inner, c.in-Ok.rest) = search rules in
    inner-left (map piece_of c.args.tokens.now) c.in-Ok.inner c.in-Ok.rest c.behind.result.now read c.behind.ensures.same

pub returns-in-Err-Unexpected-clause-none : goal.returns-in-Err-Unexpected-clause-none
returns-in-Err-Unexpected-clause-none c =
    let none : inner_at (map piece_of c.args.tokens.now) ≡ None = search rules in
    inner-none (map piece_of c.args.tokens.now) none
