use Rattle.std.proofs.Common.{◌-◌, ◌∙◌, refl, sym, ap}
use Rattle.std.specs.Str.{bytes_eq}
use Rattle.tb_mentions.proofs.Naming.{by_last, if_true, if_false}
use Rattle.tb_mentions.proofs.variables.last_named.Goals as goal

pub returns-then-eq : goal.returns-then-eq
returns-then-eq c =
    sym (if_true _ _ _ (ap (λ bytes. bytes_eq bytes c.args.name.now) (sym c.as_slice.ensures) ∙ sym c.eq.ensures ∙ c.if-eq.true))
    ∙ sym (by_last c.args.known.now c.loop-at.at (c.loop-at.at - 1) c.index-known-at.result c.args.name.now refl c.loop-at-test.true c.loop-at.auto.at c.index-known-at.is)
    ∙ c.loop-at.invariant

pub loop-at-preserved : goal.loop-at-preserved
loop-at-preserved c =
    sym (if_false _ _ _ (ap (λ bytes. bytes_eq bytes c.args.name.now) (sym c.as_slice.ensures) ∙ sym c.eq.ensures ∙ c.if-eq.false))
    ∙ sym (by_last c.args.known.now c.loop-at.at (c.loop-at.at - 1) c.index-known-at.result c.args.name.now refl c.loop-at-test.true c.loop-at.auto.at c.index-known-at.is)
    ∙ c.loop-at.invariant
