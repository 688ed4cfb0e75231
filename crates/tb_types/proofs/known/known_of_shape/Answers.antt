use Rattle.tb_types.specs.Kept.{table_of}
use Rattle.tb_types.proofs.Plain.{known_made}
use Rattle.tb_types.proofs.known.known_of_shape.Goals as goal

pub returns-clause-known : goal.returns-clause-known
returns-clause-known c =
    known_made (table_of c.args.shapes.now c.args.items.now) c.args.shape.now c.args.known.now c.facts_of_shape.result c.is_plain-plain.result c.extent_of_shape.result
    c.is_plain-plain.ensures c.facts_of_shape.ensures c.extent_of_shape.ensures.extent
