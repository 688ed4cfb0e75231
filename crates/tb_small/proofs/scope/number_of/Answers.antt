use Rattle.std.proofs.Common.{◌≡◌, ◌-◌, Bool, true, false, get_or, ap, refl, sym, ◌∙◌, arith}
use Rattle.std.specs.Str.{bytes_eq}
use Rattle.tb_small.specs.Scope.{Binding}
use Rattle.tb_small.proofs.Scopes.{named-step}
use Rattle.tb_small.proofs.scope.number_of.Goals as goal

pub returns-then-eq : goal.returns-then-eq
returns-then-eq c =
    let step = named-step c.args.scope.now c.args.name.now c.loop-number.number c.index-scope-number.result (omega arith) (omega arith) in
    let is_named : Binding → Bool = λ known. bytes_eq known.name c.args.name.now in
    let same : is_named (get_or c.args.scope.now (c.loop-number.number - 1) c.index-scope-number.result) ≡ true =
    ap is_named (sym c.index-scope-number.is ∙ sym c.known.view_is) ∙ ap (λ n. bytes_eq n c.args.name.now) (sym c.as_slice.ensures) ∙ sym c.eq.ensures ∙ c.if-eq.true in
    sym (sym c.loop-number.invariant ∙ step ∙ rw same refl)

pub loop-number-preserved : goal.loop-number-preserved
loop-number-preserved c =
    let step = named-step c.args.scope.now c.args.name.now c.loop-number.number c.index-scope-number.result (omega arith) (omega arith) in
    let is_named : Binding → Bool = λ known. bytes_eq known.name c.args.name.now in
    let differ : is_named (get_or c.args.scope.now (c.loop-number.number - 1) c.index-scope-number.result) ≡ false =
    ap is_named (sym c.index-scope-number.is ∙ sym c.known.view_is) ∙ ap (λ n. bytes_eq n c.args.name.now) (sym c.as_slice.ensures) ∙ sym c.eq.ensures ∙ c.if-eq.false in
    sym (rw differ at step) ∙ c.loop-number.invariant
