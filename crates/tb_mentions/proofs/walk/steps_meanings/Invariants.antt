use Rattle.std.proofs.Common.{drop}
use Rattle.tb_names.specs.Names.{names_of, told}
use Rattle.tb_outline.specs.Outlines.{told_steps}
use Rattle.tb_mentions.specs.Variables.{told_variables, no_variables}
use Rattle.tb_mentions.specs.Meanings.{meanings, unknowns}
use Rattle.tb_mentions.specs.Walks.{IsOnTheWay}
use Rattle.tb_mentions.proofs.walk.steps_meanings.Given as goal

abbrev pub invariant-loop-step : goal.invariant-loop-step
invariant-loop-step l =
    IsOnTheWay l.initial.types l.types l.list.items
    (meanings l.scope.file.now (names_of (told l.scope.parameters.now)) (told_variables l.variables) (told_steps (drop l.step-index l.steps)))
    (meanings l.scope.file.now (names_of (told l.scope.parameters.now)) no_variables (told_steps l.steps))
    (unknowns l.scope.file.now (names_of (told l.scope.parameters.now)) (told_variables l.variables) (told_steps (drop l.step-index l.steps)))
    (unknowns l.scope.file.now (names_of (told l.scope.parameters.now)) no_variables (told_steps l.steps))
