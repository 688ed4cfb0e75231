use Rattle.std.proofs.Common.{sym, arith, take}
use Rattle.tb_perm.specs.declared.perm.Rel.TheVariants.{Foreign}
use Rattle.tb_walk.proofs.Spread.{spread_bound, spread_more}
use Rattle.tb_walk.proofs.visits.spread.Goals as goal

pub returns-in_err-add_opened-clause-counted : goal.returns-in_err-add_opened-clause-counted
returns-in_err-add_opened-clause-counted g c =
    omega (arith, c.tick.ensures, c.loop-at.invariant.ticks, c.loop-at-test.true, c.len.ensures, spread_bound c.args.shape.now c.args.path.now c.args.from (g.T.EventTags.shut c.args.tags.now) c.requires.tree c.requires.way c.loop-at.at c.loop-at.keys.items c.loop-at.invariant.opens)

pub loop-at-smaller : goal.loop-at-smaller
loop-at-smaller g c =
    omega (arith, c.loop-at-test.true, c.len.ensures, spread_bound c.args.shape.now c.args.path.now c.args.from (g.T.EventTags.shut c.args.tags.now) c.requires.tree c.requires.way c.loop-at.at c.loop-at.keys.items c.loop-at.invariant.opens)

pub loop-at-preserved : goal.loop-at-preserved
loop-at-preserved g c =
    spread_more c.args.shape.now c.args.path.now c.args.from (g.T.EventTags.shut c.args.tags.now) (g.T.EventTags.refused c.args.tags.now) c.loop-at.at c.loop-at.keys.items c.add_opened.new.keys.items c.loop-at.best c.better-best.result c.args.steps.now c.loop-at.steps c.tick.new.self c.index-key.result.now
    c.tick.ensures
    c.loop-at.invariant
    (omega (arith, c.loop-at-test.true, c.len.ensures))
    (c.index-key.ensures)
    c.in_ok-add_opened.ensures
    (c.better-best.ensures (g.T.EventTags.refused c.args.tags.now Foreign) (take c.loop-at.at c.loop-at.keys.items) (sym c.first_refusal.ensures) c.loop-at.invariant.least)

pub returns-clause-counted : goal.returns-clause-counted
returns-clause-counted g c =
    omega (arith, c.loop-at.invariant.ticks, c.loop-at.invariant.within, spread_bound c.args.shape.now c.args.path.now c.args.from (g.T.EventTags.shut c.args.tags.now) c.requires.tree c.requires.way c.loop-at.at c.loop-at.keys.items c.loop-at.invariant.opens)
