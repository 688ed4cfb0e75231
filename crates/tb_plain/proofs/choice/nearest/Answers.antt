use Rattle.std.proofs.Common.{◌<◌, sym, length}
use Rattle.std.proofs.lemmas.List.Elements.{recursion_from_All}
use Rattle.tb_plain.specs.declared.row.PlainRow.{PlainRow}
use Rattle.tb_plain.proofs.Moves.{find_All}
use Rattle.tb_plain.proofs.choice.nearest.Goals as goal

pub refuses-requires : goal.refuses-requires
refuses-requires c =
    find_All (λ (row : PlainRow). c.args.byte < length row.states) _ c.args.rows.now c.in-Some.row.now (recursion_from_All (λ (row : PlainRow). c.args.byte < length row.states) c.args.rows.now c.requires) (sym c.in-Some.ensures)

pub returns-then-refuses-clause-within : goal.returns-then-refuses-clause-within
returns-then-refuses-clause-within c =
    find_All (λ (row : PlainRow). c.args.byte < length row.states) _ c.args.rows.now c.in-Some.row.now (recursion_from_All (λ (row : PlainRow). c.args.byte < length row.states) c.args.rows.now c.requires) (sym c.in-Some.ensures)
