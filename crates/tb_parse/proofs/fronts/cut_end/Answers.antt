use Rattle.std.proofs.Common.{rules, arith, ◌<◌, ◌≤◌, ◌-◌, map}
use Rattle.tb_syntax.specs.State.{piece_of}
use Rattle.tb_parse.specs.Fronts.{NoneTo, BranchTo}
use Rattle.tb_parse.proofs.Cuts.{loop-more, loop-branch, loop-else, loop-deep}
use Rattle.tb_parse.proofs.Ends.{if-none, if-some}
use Rattle.tb_parse.proofs.fronts.cut_end.Goals as goal

pub returns-in_default-clause-longest : goal.returns-in_default-clause-longest
returns-in_default-clause-longest c =
    let some : 0 < c.loop-depth.depth = search rules in
    let none = if-none c.in_ok-after.field-0 (NoneTo (BranchTo (c.loop-depth.depth - 1) (map piece_of c.loop-depth.rest.now))) c.in_ok-after.ensures.none c.in_default.is in
    loop-branch c.loop-depth.depth (map piece_of c.args.tokens.now) (map piece_of c.loop-depth.rest.now) c.loop-depth.end.now some c.loop-depth.invariant.so none

pub returns-in_default-behind_else-clause-longest : goal.returns-in_default-behind_else-clause-longest
returns-in_default-behind_else-clause-longest c =
    let some : 0 < c.loop-depth.depth = search rules in
    let branch : BranchTo (c.loop-depth.depth - 1) (map piece_of c.loop-depth.rest.now) (map piece_of c.in-Some.after.now) = if-some c.in_ok-after.field-0 (λ r. BranchTo (c.loop-depth.depth - 1) (map piece_of c.loop-depth.rest.now) (map piece_of r.now)) c.in_ok-after.ensures.found c.in-Some.after c.in-Some.is in
    loop-else c.loop-depth.depth (map piece_of c.args.tokens.now) (map piece_of c.loop-depth.rest.now) (map piece_of c.in-Some.after.now) c.loop-depth.end.now some c.loop-depth.invariant.so branch c.in_default-behind_else.ensures.none

pub loop-depth-preserved : goal.loop-depth-preserved
loop-depth-preserved c =
    let some : 0 < c.loop-depth.depth = search rules in
    let branch : BranchTo (c.loop-depth.depth - 1) (map piece_of c.loop-depth.rest.now) (map piece_of c.in-Some.after.now) = if-some c.in_ok-after.field-0 (λ r. BranchTo (c.loop-depth.depth - 1) (map piece_of c.loop-depth.rest.now) (map piece_of r.now)) c.in_ok-after.ensures.found c.in-Some.after c.in-Some.is in
    let most = c.loop-depth.invariant.most in
    record {
      so = loop-more c.loop-depth.depth (map piece_of c.args.tokens.now) (map piece_of c.loop-depth.end.now) (map piece_of c.loop-depth.rest.now) (map piece_of c.in-Some.after.now) (map piece_of c.in-Some-behind_else.branch.now) some c.loop-depth.invariant.so branch c.in-Some-behind_else.ensures.found;
      most = omega arith;
    }

pub returns-clause-longest : goal.returns-clause-longest
returns-clause-longest c =
    let none : c.loop-depth.depth ≤ 0 = search rules in
    loop-deep c.loop-depth.depth (map piece_of c.args.tokens.now) (map piece_of c.loop-depth.rest.now) c.loop-depth.end.now none c.loop-depth.invariant.so
