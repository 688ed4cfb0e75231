use Rattle.tb_small.proofs.Sources.{is_tree, is_only, has_none}
use Rattle.tb_small.proofs.file.small.Goals as goal

pub returns-clause-tree : goal.returns-clause-tree
returns-clause-tree c = is_tree c.args.text.now c.file_at.result c.file_at.ensures

pub returns-clause-only : goal.returns-clause-only
returns-clause-only c = is_only c.args.text.now c.file_at.result c.file_at.ensures

pub returns-clause-not_built : goal.returns-clause-not_built
returns-clause-not_built c = has_none c.args.text.now c.file_at.result c.file_at.ensures
