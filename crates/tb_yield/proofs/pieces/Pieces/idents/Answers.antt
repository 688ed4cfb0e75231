use Rattle.std.proofs.Common.{[], ◌∷◌}
use Rattle.tb_ast.specs.Pieces.{ident}
use Rattle.tb_yield.proofs.Lists.{put_one}
use Rattle.tb_yield.proofs.pieces.Pieces.idents.Goals as goal

pub loop-at-preserved : goal.loop-at-preserved
loop-at-preserved c =
    put_one (λ name. ident name ∷ []) c.args.punctuation c.args.names.now c.args.marks.now c.loop-at.at _ c.loop-at-test.true c.index-names-at.is
    _ _ _ _ c.in_ok-ident.ensures c.in_ok-mark_at.ensures c.loop-at.invariant
