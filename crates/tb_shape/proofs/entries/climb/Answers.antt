use Rattle.std.proofs.Common.{◌∙◌, sym}
use Rattle.tb_shape.proofs.Climb.{climbs_start, climbs_more, climbs_done, never_missing, falls_up, none_from}
use Rattle.tb_shape.proofs.Uses.{entry_there}
use Rattle.tb_shape.proofs.entries.climb.Goals as goal

pub present-at-requires-clause-there : goal.present-at-requires-clause-there
present-at-requires-clause-there c = entry_there c.args.entries.now c.args.start c.requires.there

pub loop-at-init : goal.loop-at-init
loop-at-init c = rw (c.in_ok-put.ensures, c.new-path.ensures.items) (climbs_start c.args.entries.now c.args.start _ c.present-at.ensures)

pub returns-in_default-look_up : goal.returns-in_default-look_up
returns-in_default-look_up c = absurd (never_missing _ _ _ _ c.requires.hung c.loop-at.invariant.found c.in-Some.is (sym c.look_up.ensures ∙ none_from _ c.in_default-look_up.not-Some))

pub loop-at-smaller : goal.loop-at-smaller
loop-at-smaller c = falls_up _ _ _ _ _ c.requires.hung c.loop-at.invariant.found c.in-Some.is (sym c.look_up.ensures ∙ c.in-Some-look_up.is)

pub loop-at-preserved : goal.loop-at-preserved
loop-at-preserved c = rw c.in_ok-put-2.ensures (climbs_more _ _ _ _ _ _ c.loop-at.invariant c.in-Some.is (sym c.look_up.ensures ∙ c.in-Some-look_up.is))

pub returns : goal.returns
returns c = climbs_done _ _ _ _ c.loop-at.invariant (none_from _ c.in_default.not-Some)
