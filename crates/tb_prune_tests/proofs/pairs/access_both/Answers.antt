use Rattle.std.proofs.Common.{[], subst}
use Rattle.tb_perm.specs.Answer.{Answers}
use Rattle.tb_perm.specs.Access.{access_report}
use Rattle.tb_prune_tests.proofs.Alike.{eager_has, access_alike}
use Rattle.tb_prune_tests.proofs.pairs.access_both.Goals as goal

pub access-theirs-requires-clause-tag : goal.access-theirs-requires-clause-tag
access-theirs-requires-clause-tag g c = eager_has (g.T.BorrowTree.extent c.args.own.now) (g.T.BorrowTree.rows c.args.own.now) (g.U.BorrowTree.rows c.args.all.now) [] c.args.tag.0 c.requires.stands c.requires.tag

pub returns : goal.returns
returns g c =
    access_alike (g.T.BorrowTree.extent c.args.own.now) (g.T.BorrowTree.rows c.args.own.now) (g.T.BorrowTree.rows c.access-mine.new.self) (g.U.BorrowTree.rows c.args.all.now) (g.U.BorrowTree.rows c.access-theirs.new.self)
    c.args.tag.0 c.args.lo c.args.hi c.args.kind c.access-mine.result c.access-theirs.result
    c.requires.stands c.requires.tag c.access-mine.ensures.answer
    (subst (λ n. Answers (access_report (g.U.BorrowTree.rows c.args.all.now) n c.args.tag.0 c.args.lo c.args.hi c.args.kind) c.access-theirs.result) c.requires.extents c.access-theirs.ensures.answer)
    c.access-mine.ensures.moved c.access-theirs.ensures.moved
