use Rattle.std.proofs.Common.{◌∙◌, if◌then◌else◌, Bool, ap, sym}
use Rattle.std.proofs.lemmas.Bool.{eq-eqb}
use Rattle.tb_flow.specs.declared.mark.Mark.TheVariants.{Kept}
use Rattle.tb_flow.specs.Summaries.{then_of, with_mark}
use Rattle.tb_flow.proofs.Assoc.{mark_is}
use Rattle.tb_moves.proofs.scan.Scan.event.Goals as goal

pub returns-then-variable-self : goal.returns-then-variable-self
returns-then-variable-self c =
    let whole = c.args.whole.now in
    c.then.ensures
    ∙ ap (λ x. then_of whole x) c.marked.ensures
    ∙ sym (mark_is c.args.mark whole)
    ∙ sym (ap (λ (b : Bool). with_mark (if b then c.args.mark else Kept) whole) (eq-eqb c.args.variable c.args.self.now.variable c.if-variable-self.true))
