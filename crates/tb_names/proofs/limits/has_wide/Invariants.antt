use Rattle.std.proofs.Common.{◌≡◌, map, drop}
use Rattle.std.specs.List.{list_any}
use Rattle.tb_outline.specs.Outlines.{told_step}
use Rattle.tb_names.specs.Limits.{is_wide}
use Rattle.tb_names.proofs.limits.has_wide.Given as goal

abbrev pub invariant-loop-step : goal.invariant-loop-step
invariant-loop-step l = list_any is_wide (map told_step (drop l.step-index l.steps)) ≡ list_any is_wide (map told_step l.steps)
