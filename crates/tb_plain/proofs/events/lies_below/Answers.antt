use Rattle.std.proofs.Common.{◌∙◌, ◌&&◌, sym, ap, not}
use Rattle.std.proofs.lemmas.Bool.{ne_eqb}
use Rattle.tb_plain.proofs.Fitting.{below_tells}
use Rattle.tb_plain.proofs.events.lies_below.Goals as goal

pub returns : goal.returns
returns c =
    sym (ap (λ b. not b && c.is_ancestor.result) (ne_eqb c.args.other.0 c.args.tag.0 c.if-other-tag.false))
    ∙ below_tells c.args.shape.now c.args.rows.now c.args.size c.args.tag.0 c.args.other.0 c.is_ancestor.result c.requires.plain c.requires.other c.is_ancestor.ensures.0 c.is_ancestor.ensures.1
