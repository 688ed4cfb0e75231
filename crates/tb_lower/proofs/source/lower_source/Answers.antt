use Rattle.std.proofs.Common.{[], arith}
use Rattle.std.proofs.lemmas.Result.{IfOk-weaker}
use Rattle.tb_lower.proofs.Counted.{has_room}
use Rattle.tb_lower.proofs.Readiness.{are_ready}
use Rattle.tb_lower.proofs.Ends.{realised}
use Rattle.tb_lower.proofs.source.lower_source.Goals as goal

pub function-requires-clause-room : goal.function-requires-clause-room
function-requires-clause-room c = omega (arith, has_room c.args.tree.now c.requires.limits.few_locals, c.new-lowering.ensures.count)

pub function-requires-clause-ready : goal.function-requires-clause-ready
function-requires-clause-ready c =
    are_ready [] c.args.tree.now.body.statements c.requires.scopes c.requires.limits.small_sums

pub returns : goal.returns
returns c =
    let start = c.new-lowering.ensures in
    let emitted = rw (start.lines, start.count) at c.in_ok-function.ensures.lines in
    let brought = rw start.locals at c.in_ok-function.ensures.locals in
    IfOk-weaker c.main_of.result _ _
    (λ mir is. realised c.args.tree.now mir c.function.new.self.lines.items c.function.new.self.locals.items is emitted brought)
    c.main_of.ensures
