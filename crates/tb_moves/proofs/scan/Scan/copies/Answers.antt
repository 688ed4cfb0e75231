use Rattle.std.proofs.Common.{◌≤◌, ◌∙◌, length, sym, arith}
use Rattle.std.proofs.lemmas.Bool.{le-leb}
use Rattle.std.proofs.lemmas.Option.{slice_get_past}
use Rattle.tb_moves.proofs.Copies.{no_type_copies}
use Rattle.tb_moves.proofs.scan.Scan.copies.Goals as goal

pub returns-then-ty-count : goal.returns-then-ty-count
returns-then-ty-count c =
    let types = c.args.self.now.types.now in
    let past : length types.shapes ≤ c.args.ty.0 = omega (arith, c.if-ty-count.true, c.count.ensures) in
    le-leb c.count.result c.args.ty.0 c.if-ty-count.true ∙ sym (no_type_copies types c.args.ty (slice_get_past types.shapes c.args.ty.0 past))
