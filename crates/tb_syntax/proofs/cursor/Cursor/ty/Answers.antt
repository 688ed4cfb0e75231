use Rattle.tb_syntax.proofs.Related.{type-read, type-only, type-refused}
use Rattle.tb_syntax.proofs.cursor.Cursor.ty.Goals as goal

pub returns-clause-read : goal.returns-clause-read
returns-clause-read c = type-read c.args.depth c.args.self c.type_within.result c.type_within.ensures

pub returns-clause-only : goal.returns-clause-only
returns-clause-only c = type-only c.args.depth c.args.self c.type_within.result c.type_within.ensures

pub returns-clause-refused : goal.returns-clause-refused
returns-clause-refused c = type-refused c.args.depth c.args.self c.type_within.result c.type_within.ensures
