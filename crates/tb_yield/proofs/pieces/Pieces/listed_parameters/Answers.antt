use Rattle.tb_lex.specs.declared.punctuation.Punctuation.TheVariants.{Comma}
use Rattle.tb_ast.specs.Files.{parameter_row}
use Rattle.tb_yield.proofs.Lists.{put_one}
use Rattle.tb_yield.proofs.pieces.Pieces.listed_parameters.Goals as goal

pub loop-at-preserved : goal.loop-at-preserved
loop-at-preserved c =
    put_one parameter_row Comma c.args.parameters.now c.args.commas.now c.loop-at.at _ c.loop-at-test.true c.index-parameters-at.is
    _ _ _ _ c.in_ok-parameter.ensures c.in_ok-mark_at.ensures c.loop-at.invariant
