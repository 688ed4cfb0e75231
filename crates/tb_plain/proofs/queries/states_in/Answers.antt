use Rattle.std.proofs.Common.{Some, None, sym, ap, ◌∙◌}
use Rattle.std.specs.Option.{option_copied}
use Rattle.tb_plain.proofs.Paths.{states_found}
use Rattle.tb_plain.proofs.queries.states_in.Goals as goal

pub returns-in-Some : goal.returns-in-Some
returns-in-Some c =
    ap Some c.as_slice.ensures
    ∙ states_found c.args.shape.now c.args.rows.now c.args.tag.0 (Some c.in-Some.row.now) (sym c.row_of.ensures ∙ ap option_copied c.in-Some.is)

pub returns-in-None : goal.returns-in-None
returns-in-None c = states_found c.args.shape.now c.args.rows.now c.args.tag.0 None (sym c.row_of.ensures ∙ ap option_copied c.in-None.is)
