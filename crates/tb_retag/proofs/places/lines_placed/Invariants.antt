use Rattle.std.proofs.Common.{◌≡◌, ◌++◌, drop}
use Rattle.tb_mir.specs.Retags.{bare_lines, retagged_lines}
use Rattle.tb_retag.proofs.places.lines_placed.Given as goal

-- what is placed, and what is still to be placed
abbrev pub invariant-loop-line : goal.invariant-loop-line
invariant-loop-line l =
    l.placed ++ retagged_lines l.locals (bare_lines (drop l.line-index l.lines)) ≡ retagged_lines l.locals (bare_lines l.lines)
