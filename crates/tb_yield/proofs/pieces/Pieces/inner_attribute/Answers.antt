use Rattle.tb_yield.proofs.Lists.{put_three}
use Rattle.tb_yield.proofs.pieces.Pieces.inner_attribute.Goals as goal

pub returns : goal.returns
returns c = put_three c.mark.result _ _ _ _ _ _ _ c.in_ok-inner_front.ensures c.in_ok-word_list.ensures c.mark.ensures
