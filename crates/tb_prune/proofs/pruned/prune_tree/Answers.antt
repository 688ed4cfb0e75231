use Rattle.std.proofs.Common.{refl, ◌∙◌}
use Rattle.tb_stands.proofs.Computes.{left_list}
use Rattle.tb_prune.proofs.Turns.{prune_start, prune_next, prune_end, guards_now}
use Rattle.tb_prune.proofs.pruned.prune_tree.Goals as goal

pub loop-next-init : goal.loop-next-init
loop-next-init g c = (
  prune_start (g.T.BorrowTree.extent c.args.tree.now) (g.T.BorrowTree.rows c.args.tree.now) (g.T.BorrowTree.notes c.args.tree.now) c.greatest-tag.result.0 c.requires.sound c.greatest-tag.ensures.greatest,
  c.greatest-tag.ensures.there,
  refl,
  c.requires.sound,
)

pub visit-requires-clause-guards : goal.visit-requires-clause-guards
visit-requires-clause-guards g c =
    guards_now c.args.protectors.now c.args.alloc (g.T.BorrowTree.extent c.args.tree.now) (g.T.BorrowTree.rows c.args.tree.now) (g.T.BorrowTree.rows c.loop-next.tree) (g.T.BorrowTree.notes c.args.tree.now) (g.T.BorrowTree.notes c.loop-next.tree) c.loop-next.tag.0 c.loop-next.invariant.0 c.requires.guards

pub loop-next-preserved : goal.loop-next-preserved
loop-next-preserved g c =
    let next = prune_next (g.T.BorrowTree.extent c.args.tree.now) (g.T.BorrowTree.extent c.loop-next.tree) (g.T.BorrowTree.extent c.visit.new.tree) (g.T.BorrowTree.rows c.args.tree.now) (g.T.BorrowTree.rows c.loop-next.tree) (g.T.BorrowTree.rows c.visit.new.tree) (g.T.BorrowTree.notes c.args.tree.now) (g.T.BorrowTree.notes c.loop-next.tree) (g.T.BorrowTree.notes c.visit.new.tree) c.loop-next.tag.0 c.in-Some.next.0
    c.requires.sound c.loop-next.invariant.0 c.loop-next.invariant.1 c.loop-next.invariant.2
    c.in-Some.ensures.less c.in-Some.ensures.there c.in-Some.ensures.greatest c.in-Some.ensures.child
    c.visit.ensures.visits c.visit.ensures.extent c.visit.ensures.sound in
    (next.0, next.1, c.visit.ensures.extent ∙ c.loop-next.invariant.2, c.visit.ensures.sound)

pub returns-clause-left : goal.returns-clause-left
returns-clause-left g c =
    prune_end (g.T.BorrowTree.extent c.args.tree.now) (g.T.BorrowTree.rows c.args.tree.now) (g.T.BorrowTree.rows c.loop-next.tree) (g.T.BorrowTree.rows c.clear_notes.new.self) (g.T.BorrowTree.notes c.args.tree.now) (g.T.BorrowTree.notes c.loop-next.tree) c.loop-next.tag.0
    c.requires.sound c.loop-next.invariant.0 c.loop-next.invariant.1 c.in_default.ensures.least c.clear_notes.ensures.rows

pub returns-clause-tags : goal.returns-clause-tags
returns-clause-tags g c =
    left_list (g.T.BorrowTree.extent c.args.tree.now) (g.T.BorrowTree.rows c.args.tree.now) (g.T.BorrowTree.notes c.args.tree.now) c.requires.sound.grown (g.T.BorrowTree.rows c.clear_notes.new.self)
    (prune_end (g.T.BorrowTree.extent c.args.tree.now) (g.T.BorrowTree.rows c.args.tree.now) (g.T.BorrowTree.rows c.loop-next.tree) (g.T.BorrowTree.rows c.clear_notes.new.self) (g.T.BorrowTree.notes c.args.tree.now) (g.T.BorrowTree.notes c.loop-next.tree) c.loop-next.tag.0
    c.requires.sound c.loop-next.invariant.0 c.loop-next.invariant.1 c.in_default.ensures.least c.clear_notes.ensures.rows)
