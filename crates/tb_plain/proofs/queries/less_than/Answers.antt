use Rattle.std.proofs.lemmas.Bool.{ltb-true}
use Rattle.tb_perm.proofs.Roots.{least_root, lesser_child}
use Rattle.tb_plain.specs.Plain.{rows_in}
use Rattle.tb_plain.proofs.Pruned.{has_tag_of, less_all, none_less, none_lesser}
use Rattle.tb_plain.proofs.queries.less_than.Goals as goal

pub returns-in-Some-clause-there : goal.returns-in-Some-clause-there
returns-in-Some-clause-there c = has_tag_of c.args.shape.now c.args.rows.now c.in-Some.found.0 c.in-Some.ensures.0

pub returns-in-Some-clause-greatest : goal.returns-in-Some-clause-greatest
returns-in-Some-clause-greatest c = less_all c.args.shape.now c.args.rows.now c.args.tag c.in-Some.found c.in-Some.ensures

pub returns-in-None-clause-least : goal.returns-in-None-clause-least
returns-in-None-clause-least c = none_less c.args.shape.now c.args.rows.now c.args.tag c.in-None.ensures

pub returns-in-Some-clause-child : goal.returns-in-Some-clause-child
returns-in-Some-clause-child c =
    lesser_child c.args.size (rows_in c.args.shape.now c.args.rows.now) c.args.tag.0 c.in-Some.found.0 c.requires.plain.sound c.requires.tag (has_tag_of c.args.shape.now c.args.rows.now c.in-Some.found.0 c.in-Some.ensures.0) (ltb-true c.in-Some.found.0 c.args.tag.0 c.in-Some.ensures.1)

pub returns-in-None-clause-root : goal.returns-in-None-clause-root
returns-in-None-clause-root c =
    least_root c.args.size (rows_in c.args.shape.now c.args.rows.now) c.args.tag.0 c.requires.plain.sound (none_lesser c.args.shape.now c.args.rows.now c.args.tag c.in-None.ensures)
