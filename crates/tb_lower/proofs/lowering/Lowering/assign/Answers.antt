use Rattle.std.proofs.Common.{◌++◌, vec_len, ap, ◌∙◌, arith, append_assoc}
use Rattle.std.proofs.lemmas.Result.{on_ok_weaker}
use Rattle.tb_lower.specs.Lowering.{types_of, assign_shape, clears}
use Rattle.tb_lower.specs.Ways.{number}
use Rattle.tb_lower.proofs.lowering.Lowering.assign.Goals as goal

pub returns-clause-lines : goal.returns-clause-lines
returns-clause-lines c =
    let assign = c.args.assign.now in
    let shape = assign_shape (types_of c.args.self.now.variables.items) assign in
    let clear = clears (number (vec_len c.args.self.now.locals) shape) assign.span shape in
    on_ok_weaker c.clear.result (λ e. e ∙ ap (λ l. l ++ clear) c.in_ok-store.ensures.lines ∙ simp append_assoc)
    (rw c.next-start.ensures at (c.clear.ensures.lines shape (omega (arith, c.in_ok-store.ensures.count))))
