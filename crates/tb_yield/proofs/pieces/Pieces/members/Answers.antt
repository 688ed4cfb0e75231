use Rattle.tb_lex.specs.declared.punctuation.Punctuation.TheVariants.{Comma}
use Rattle.tb_ast.specs.Files.{member_row}
use Rattle.tb_yield.proofs.Lists.{put_one}
use Rattle.tb_yield.proofs.pieces.Pieces.members.Goals as goal

pub loop-at-preserved : goal.loop-at-preserved
loop-at-preserved c =
    put_one member_row Comma c.args.fields.now c.args.commas.now c.loop-at.at _ c.loop-at-test.true c.index-fields-at.is
    _ _ _ _ c.in_ok-member.ensures c.in_ok-mark_at.ensures c.loop-at.invariant
