use Rattle.std.proofs.Common.{◌∙◌, sym}
use Rattle.tb_shape.proofs.Keep.{children_none}
use Rattle.tb_shape.proofs.Climb.{HasKey-entry}
use Rattle.tb_shape.proofs.edits.children_in.Goals as goal

pub returns-in-Some-clause-children : goal.returns-in-Some-clause-children
returns-in-Some-clause-children c =
    let node = c.requires.1.linked c.args.key _ (sym c.look_up.ensures ∙ c.in-Some.is) in
    rw (c.children_at.ensures node.node node.there) node.children

pub returns-in-Some-clause-missing : goal.returns-in-Some-clause-missing
returns-in-Some-clause-missing c = λ never. absurd (never (HasKey-entry c.args.entries.now c.args.key _ (sym c.look_up.ensures ∙ c.in-Some.is)))

pub returns-in-None-clause-children : goal.returns-in-None-clause-children
returns-in-None-clause-children c = children_none c.args.entries.now c.args.key c.requires.1.hung (sym c.look_up.ensures ∙ c.in-None.is)
