use Rattle.std.proofs.Common.{sym, subst, arith, take}
use Rattle.std.proofs.lemmas.List.{take_more}
use Rattle.tb_perm.specs.declared.perm.Rel.TheVariants.{Local}
use Rattle.tb_walk.specs.Blame.{IsBlamed}
use Rattle.tb_walk.proofs.blame.blame_on_way.Goals as goal

pub loop-key-preserved : goal.loop-key-preserved
loop-key-preserved g c =
    let refused = g.T.EventTags.refused c.args.tags.now Local in
    let path = c.args.path.now in
    let at = c.loop-key.key-index in (
      subst (λ keys. IsBlamed refused Local keys c.better-best.result) (sym (take_more path at 0 (omega arith)))
          (c.better-best.ensures refused (take at path) (sym c.first_refusal.ensures) c.loop-key.invariant.0),
      omega (arith, c.tick.ensures, c.loop-key.invariant.1),
    )
