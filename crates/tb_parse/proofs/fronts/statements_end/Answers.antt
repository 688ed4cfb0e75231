use Rattle.std.proofs.Common.{◌≡◌, ◌⊎◌, length, map}
use Rattle.tb_syntax.specs.State.{piece_of}
use Rattle.tb_parse.specs.Fronts.{NoneTo, IsLongest, StatementTo, StatementsTo, CutTo}
use Rattle.tb_parse.proofs.BodyFronts.{statements-more, loop-longest}
use Rattle.tb_parse.proofs.Ends.{if-none, if-some, if-both}
use Rattle.tb_parse.proofs.fronts.statements_end.Goals as goal

pub returns-in_default-clause-longest : goal.returns-in_default-clause-longest
returns-in_default-clause-longest c =
    let none = if-none c.in_ok-after.field-0 (NoneTo (StatementTo (map piece_of c.loop-alloc.rest.now))) c.in_ok-after.ensures.none c.in_default.is in
    if-both c.cut_end.result (λ rest. (map piece_of rest.now ≡ map piece_of c.loop-alloc.rest.now) ⊎ CutTo 126 (map piece_of c.loop-alloc.rest.now) (map piece_of rest.now)) (λ rest. IsLongest (CutTo 126 (map piece_of c.loop-alloc.rest.now)) (length rest.now))
    (λ rest. IsLongest (StatementsTo (map piece_of c.args.tokens.now)) (length rest.now)) c.cut_end.ensures.front c.cut_end.ensures.longest
    (λ rest cut longest. loop-longest (map piece_of c.args.tokens.now) (map piece_of c.loop-alloc.rest.now) rest.now c.loop-alloc.invariant none cut longest)

pub loop-alloc-preserved : goal.loop-alloc-preserved
loop-alloc-preserved c =
    let found = if-some c.in_ok-after.field-0 (λ r. StatementTo (map piece_of c.loop-alloc.rest.now) (map piece_of r.now)) c.in_ok-after.ensures.found c.in-Some.after c.in-Some.is in
    statements-more (map piece_of c.args.tokens.now) (map piece_of c.loop-alloc.rest.now) (map piece_of c.in-Some.after.now) c.loop-alloc.invariant found
