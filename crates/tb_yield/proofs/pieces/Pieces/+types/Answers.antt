use Rattle.tb_lex.specs.declared.punctuation.Punctuation.TheVariants.{Comma}
use Rattle.tb_ast.specs.Types.{type_pieces, argument_pieces}
use Rattle.tb_yield.proofs.Lists.{put_one}
use Rattle.tb_yield.proofs.pieces.Pieces.+types.Goals as goal

pub listed_arguments-loop-at-preserved : goal.listed_arguments-loop-at-preserved
listed_arguments-loop-at-preserved t c =
    put_one argument_pieces Comma c.args.arguments.now c.args.commas.now c.loop-at.at _ c.loop-at-test.true c.index-arguments-at.is
    _ _ _ _ c.in_ok-argument.ensures c.in_ok-mark_at.ensures c.loop-at.invariant

pub types-loop-at-preserved : goal.types-loop-at-preserved
types-loop-at-preserved t c =
    put_one type_pieces Comma c.args.types.now c.args.commas.now c.loop-at.at _ c.loop-at-test.true c.index-types-at.is
    _ _ _ _ c.in_ok-ty.ensures c.in_ok-mark_at.ensures c.loop-at.invariant
