use Rattle.std.proofs.Common.{◌≡◌, ◌+◌, take}
use Rattle.tb_perm.specs.declared.perm.Rel.TheVariants.{Local}
use Rattle.tb_walk.specs.Blame.{IsBlamed}
use Rattle.tb_walk.proofs.blame.blame_on_way.Given as goal

abbrev pub invariant-loop-key : goal.invariant-loop-key
invariant-loop-key g l =
    IsBlamed (g.T.EventTags.refused l.tags Local) Local (take l.key-index l.path) l.best × (l.steps ≡ l.initial.steps + l.key-index)
