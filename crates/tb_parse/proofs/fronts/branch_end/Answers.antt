use Rattle.std.proofs.Common.{rules, ◌≡◌, map, Some, None}
use Rattle.tb_lex.specs.declared.keyword.Keyword.TheVariants as keyword_of
use Rattle.tb_syntax.specs.State.{piece_of}
use Rattle.tb_syntax.specs.Leaves.{keyword_at}
use Rattle.tb_parse.specs.Fronts.{NoneTo, ConditionTo, BlockTo}
use Rattle.tb_parse.proofs.Ends.{if-none, if-some, branch-wordless, branch-conditionless, branch-blockless, branch-whole, branch-left}
use Rattle.tb_parse.proofs.fronts.branch_end.Goals as goal

pub returns-in_default-clause-none : goal.returns-in_default-clause-none
returns-in_default-clause-none c =
    let none : keyword_at keyword_of.If (map piece_of c.args.tokens.now) ≡ None = search rules in
    branch-wordless c.args.depth (map piece_of c.args.tokens.now) none

pub returns-in_default-2-clause-none : goal.returns-in_default-2-clause-none
returns-in_default-2-clause-none c =
    let read : keyword_at keyword_of.If (map piece_of c.args.tokens.now) ≡ Some (c.in-Some.field-0-0, c.in-Some.rest) = search rules in
    let none = if-none c.in_ok-rest.field-0 (NoneTo (ConditionTo c.args.depth c.in-Some.rest)) c.in_ok-rest.ensures.none c.in_default-2.is in
    branch-conditionless c.args.depth (map piece_of c.args.tokens.now) c.in-Some.field-0-0 c.in-Some.rest read none

pub returns-in_default-3-clause-none : goal.returns-in_default-3-clause-none
returns-in_default-3-clause-none c =
    let read : keyword_at keyword_of.If (map piece_of c.args.tokens.now) ≡ Some (c.in-Some.field-0-0, c.in-Some.rest) = search rules in
    let condition = if-some c.in_ok-rest.field-0 (λ r. ConditionTo c.args.depth c.in-Some.rest r) c.in_ok-rest.ensures.found c.in-Some-2.rest c.in-Some-2.is in
    let none = if-none c.in_ok-rest-2.field-0 (NoneTo (BlockTo c.args.depth c.in-Some-2.rest)) c.in_ok-rest-2.ensures.none c.in_default-3.is in
    branch-blockless c.args.depth (map piece_of c.args.tokens.now) c.in-Some.field-0-0 c.in-Some.rest c.in-Some-2.rest read condition none

pub behind-requires : goal.behind-requires
behind-requires c =
    let read : keyword_at keyword_of.If (map piece_of c.args.tokens.now) ≡ Some (c.in-Some.field-0-0, c.in-Some.rest) = search rules in
    let condition = if-some c.in_ok-rest.field-0 (λ r. ConditionTo c.args.depth c.in-Some.rest r) c.in_ok-rest.ensures.found c.in-Some-2.rest c.in-Some-2.is in
    let body = if-some c.in_ok-rest-2.field-0 (λ r. BlockTo c.args.depth c.in-Some-2.rest r) c.in_ok-rest-2.ensures.found c.in-Some-3.rest c.in-Some-3.is in
    record { whole = branch-whole c.args.depth (map piece_of c.args.tokens.now) c.in-Some.field-0-0 c.in-Some.rest c.in-Some-2.rest c.in-Some-3.rest read condition body }

pub returns-clause-found : goal.returns-clause-found
returns-clause-found c =
    let read : keyword_at keyword_of.If (map piece_of c.args.tokens.now) ≡ Some (c.in-Some.field-0-0, c.in-Some.rest) = search rules in
    let condition = if-some c.in_ok-rest.field-0 (λ r. ConditionTo c.args.depth c.in-Some.rest r) c.in_ok-rest.ensures.found c.in-Some-2.rest c.in-Some-2.is in
    let body = if-some c.in_ok-rest-2.field-0 (λ r. BlockTo c.args.depth c.in-Some-2.rest r) c.in_ok-rest-2.ensures.found c.in-Some-3.rest c.in-Some-3.is in
    branch-left c.args.depth (map piece_of c.args.tokens.now) c.in-Some.field-0-0 c.in-Some.rest c.in-Some-2.rest c.in-Some-3.rest c.behind.result.now read condition body c.behind.ensures.same
