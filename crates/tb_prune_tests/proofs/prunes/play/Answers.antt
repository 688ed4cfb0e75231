use Rattle.tb_perm.specs.Access.{access_event}
use Rattle.tb_prune_tests.proofs.Ready.{on_ok, ready_event, ready_pruned}
use Rattle.tb_prune_tests.proofs.prunes.play.Goals as goal

pub returns-else-hi-gt2 : goal.returns-else-hi-gt2
returns-else-hi-gt2 g c =
    on_ok c.access.result _ _ (ready_event c.args.tree.now c.access.new.self c.args.protectors.now (access_event c.in-Access.tag c.in-Access.lo c.in-Access.hi c.in-Access.kind) c.requires c.access.ensures.continues) c.access.ensures.moved

pub returns-in-Prune : goal.returns-in-Prune
returns-in-Prune g c = ready_pruned c.reach-in-Prune.new.tree c.prune.new.self c.args.protectors.now c.reach-in-Prune.ensures c.prune.ensures.extent c.prune.ensures.sound c.prune.ensures.left
