use Rattle.tb_names.specs.Names.{names_of, told}
use Rattle.tb_mentions.specs.Variables.{told_variables}
use Rattle.tb_mentions.proofs.Walking.{walk_on}
use Rattle.tb_mentions.proofs.walk.steps_meanings.Goals as goal

pub loop-step-preserved : goal.loop-step-preserved
loop-step-preserved c =
    walk_on c.args.scope.now.file.now (names_of (told c.args.scope.now.parameters.now)) c.args.types.now c.loop-step.types c.pass.new.types c.loop-step.list.items c.pass.new.list.items
    (told_variables c.loop-step.variables) (told_variables c.pass-in-loop-step.new.self) c.args.steps.now c.loop-step.step-index _ _ _
    c.loop-step-test.true c.step-item.is c.loop-step.invariant c.in_ok-pass.ensures.0 c.in_ok-pass.ensures.1 c.in_ok-pass-2.ensures
