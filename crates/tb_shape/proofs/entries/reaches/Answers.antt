use Rattle.std.proofs.Common.{◌∙◌, sym, refl}
use Rattle.tb_shape.proofs.Climb.{reaches_start, reaches_more, reaches_here, reaches_never, never_missing, falls_up, none_from}
use Rattle.tb_shape.proofs.entries.reaches.Goals as goal

pub loop-at-init : goal.loop-at-init
loop-at-init c = reaches_start c.args.entries.now c.args.key c.args.start c.args.from c.requires.found

pub returns-in_default : goal.returns-in_default
returns-in_default c = (λ h. absurd (cc), λ h. absurd (reaches_never _ _ _ _ c.loop-at.invariant c.loop-at-test.true (none_from _ c.in_default.not-Some) h))

pub returns-in_default-look_up : goal.returns-in_default-look_up
returns-in_default-look_up c = absurd (never_missing _ _ _ _ c.requires.hung c.loop-at.invariant.found c.in-Some.is (sym c.look_up.ensures ∙ none_from _ c.in_default-look_up.not-Some))

pub loop-at-smaller : goal.loop-at-smaller
loop-at-smaller c = falls_up _ _ _ _ _ c.requires.hung c.loop-at.invariant.found c.in-Some.is (sym c.look_up.ensures ∙ c.in-Some-look_up.is)

pub loop-at-preserved : goal.loop-at-preserved
loop-at-preserved c = reaches_more _ _ _ _ _ _ c.loop-at.invariant c.loop-at-test.true c.in-Some.is (sym c.look_up.ensures ∙ c.in-Some-look_up.is)

pub returns : goal.returns
returns c = (λ h. reaches_here _ _ _ _ c.requires.hung c.loop-at.invariant c.loop-at-test.false, λ h. refl)
