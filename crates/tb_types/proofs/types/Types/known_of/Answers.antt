use Rattle.tb_types.proofs.Extents.{some_extent}
use Rattle.tb_types.proofs.Keeping.{known_read}
use Rattle.tb_types.proofs.types.Types.known_of.Goals as goal

pub returns-clause-facts : goal.returns-clause-facts
returns-clause-facts c = (known_read c.self.inside.shapes.keys c.self.inside.items.items c.self.inside.known.items c.self.invariant c.args.self.now c.self.view_is c.args.ty c.requires c.index.result.now c.index.ensures).0

pub returns-clause-extent : goal.returns-clause-extent
returns-clause-extent c = (known_read c.self.inside.shapes.keys c.self.inside.items.items c.self.inside.known.items c.self.invariant c.args.self.now c.self.view_is c.args.ty c.requires c.index.result.now c.index.ensures).1

pub returns-clause-aligned : goal.returns-clause-aligned
returns-clause-aligned c = (some_extent c.args.self.now c.args.ty).align
