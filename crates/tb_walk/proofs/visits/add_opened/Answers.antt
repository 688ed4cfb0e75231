use Rattle.std.proofs.Common.{◌∙◌, sym}
use Rattle.tb_walk.proofs.Seeds.{adds_children}
use Rattle.tb_walk.proofs.Outcomes.{on_ok}
use Rattle.tb_walk.proofs.visits.add_opened.Goals as goal

pub returns : goal.returns
returns g c =
    on_ok c.add_children.result (λ is. adds_children c.args.shape.now (g.T.EventTags.shut c.args.tags.now) c.args.key c.args.keys.now.items c.add_children.new.keys.items c.children.result.now (sym c.is_shut.ensures ∙ c.if-is_shut.false) c.children.ensures.children is) c.add_children.ensures
