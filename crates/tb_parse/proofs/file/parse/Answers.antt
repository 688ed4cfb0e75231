use Rattle.std.proofs.Common.{rules, ◌≡◌, ◌≤◌, List, [], length, map}
use Rattle.tb_lex.specs.declared.token.Token.{Token}
use Rattle.tb_syntax.specs.State.{piece_of}
use Rattle.tb_parse.specs.Trees.{IsInnerRun}
use Rattle.tb_parse.proofs.Ends.{none-left}
use Rattle.tb_parse.proofs.Refused.{parsed-none, parsed-tree, parsed-tokens, parsed-only}
use Rattle.tb_parse.proofs.file.parse.Goals as goal

pub returns-then-not-is_empty-clause-refused : goal.returns-then-not-is_empty-clause-refused
returns-then-not-is_empty-clause-refused c =
    let before : IsInnerRun (map piece_of c.args.tokens.now.list) c.in_ok-attributes.attributes (map piece_of c.in_ok-attributes.rest.now) = search rules in
    let more : ◌≡◌ {A = List Token} c.in_ok-items.rest.now [] → ⊥ = λ e. search rules in
    λ refused. parsed-none c.args.tokens.now c.in_ok-attributes.attributes c.in_ok-attributes.rest.now c.in_ok-items.rest.now c.in_ok-items.items before c.in_ok-attributes.ensures.none c.in_ok-items.ensures.run c.in_ok-items.ensures.none more

pub returns-clause-tree : goal.returns-clause-tree
returns-clause-tree c =
    let before : IsInnerRun (map piece_of c.args.tokens.now.list) c.in_ok-attributes.attributes (map piece_of c.in_ok-attributes.rest.now) = search rules in
    let few : length c.in_ok-items.rest.now ≤ 0 = search rules in
    let ended = none-left c.in_ok-items.rest.now few in
    (parsed-tree c.args.tokens.now c.in_ok-attributes.attributes c.in_ok-attributes.rest.now c.in_ok-items.rest.now c.in_ok-items.items before c.in_ok-items.ensures.run ended, c.in_ok-items.ensures.depth)

pub returns-clause-tokens : goal.returns-clause-tokens
returns-clause-tokens c =
    let before : IsInnerRun (map piece_of c.args.tokens.now.list) c.in_ok-attributes.attributes (map piece_of c.in_ok-attributes.rest.now) = search rules in
    let few : length c.in_ok-items.rest.now ≤ 0 = search rules in
    let ended = none-left c.in_ok-items.rest.now few in
    parsed-tokens c.args.tokens.now c.in_ok-attributes.attributes c.in_ok-attributes.rest.now c.in_ok-items.rest.now c.in_ok-items.items before c.in_ok-items.ensures.run ended

pub returns-clause-only : goal.returns-clause-only
returns-clause-only c =
    let before : IsInnerRun (map piece_of c.args.tokens.now.list) c.in_ok-attributes.attributes (map piece_of c.in_ok-attributes.rest.now) = search rules in
    let few : length c.in_ok-items.rest.now ≤ 0 = search rules in
    let ended = none-left c.in_ok-items.rest.now few in
    parsed-only c.args.tokens.now c.in_ok-attributes.attributes c.in_ok-attributes.rest.now c.in_ok-items.rest.now c.in_ok-items.items before c.in_ok-items.ensures.run ended
