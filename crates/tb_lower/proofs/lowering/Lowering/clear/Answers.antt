use Rattle.std.proofs.Common.{◌≡◌, ◌++◌, ◌∷◌, [], ap, ◌∙◌, sym, arith, length}
use Rattle.std.proofs.lemmas.List.{append-nil}
use Rattle.std.proofs.lemmas.Result.{on_ok_weaker}
use Rattle.std.proofs.lemmas.Bool.Decides.{nat_tests}
use Rattle.tb_mir.specs.declared.line.Line.TheVariants.{Clear}
use Rattle.tb_lower.specs.Lowering.{put}
use Rattle.tb_lower.proofs.Clears.{clears_are, clears_none, clears_some}
use Rattle.tb_lower.proofs.lowering.Lowering.clear.Goals as goal

pub returns-then-is_empty-clause-lines : goal.returns-then-is_empty-clause-lines
returns-then-is_empty-clause-lines c = λ shape e.
    let temps = c.in_ok-temps.temps in
    let empty : length temps.items ≡ 0 = grind (arith, nat_tests, temps.ok.0) in
    sym (append-nil c.args.self.now.lines.items)
    ∙ ap (λ l. c.args.self.now.lines.items ++ l) (sym (clears_are c.args.start c.args.end temps.items c.args.span shape e c.in_ok-temps.ensures ∙ clears_none c.args.span temps.items empty))

pub returns-clause-lines : goal.returns-clause-lines
returns-clause-lines c = λ shape e.
    let temps = c.in_ok-temps.temps in
    let some : length temps.items ≡ 0 → ⊥ = λ h. grind (arith, nat_tests, temps.ok.0) in
    on_ok_weaker c.emit.result (λ f. f ∙ ap (λ l. c.args.self.now.lines.items ++ l)
    (ap (λ t. put (Clear t) c.args.span ∷ []) c.from_vec.ensures
    ∙ sym (clears_are c.args.start c.args.end temps.items c.args.span shape e c.in_ok-temps.ensures ∙ clears_some c.args.span temps.items some)))
    c.emit.ensures.lines
