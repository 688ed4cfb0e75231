use Rattle.std.proofs.Common.{rules, ◌≡◌, true}
use Rattle.tb_types.specs.Extent.{fits}
use Rattle.tb_layout.proofs.Placing.{sides_types, lays_out}
use Rattle.tb_layout.proofs.offsets.layout.Goals as goal

pub offsets_of-requires-clause-types : goal.offsets_of-requires-clause-types
offsets_of-requires-clause-types c = sides_types c.args.types.now c.law_types.ensures.types c.args.ty c.requires

pub offsets_of-requires-clause-layouts : goal.offsets_of-requires-clause-layouts
offsets_of-requires-clause-layouts c =
    let small : fits c.args.types.now c.args.ty ≡ true = search rules in
    lays_out c.args.types.now c.law_types.ensures.types c.args.ty c.requires small
