use Rattle.std.proofs.Common.{drop, map}
use Rattle.tb_names.specs.Names.{names_of, told}
use Rattle.tb_written.specs.Written.{written, argument_trees, joined}
use Rattle.tb_written.specs.Kept.{IsMoreBefore}
use Rattle.tb_written.proofs.made.+types.Given as goal

abbrev pub invariant-parts_of-loop-part : goal.invariant-parts_of-loop-part
invariant-parts_of-loop-part l =
    IsMoreBefore l.initial.types l.types l.list.items (map (written l.scope.file.now (names_of (told l.scope.parameters.now))) (drop l.part-index l.parts)) (map (written l.scope.file.now (names_of (told l.scope.parameters.now))) l.parts)

abbrev pub invariant-listed-loop-argument : goal.invariant-listed-loop-argument
invariant-listed-loop-argument l =
    IsMoreBefore l.initial.types l.types l.list.items (joined (map (argument_trees l.scope.file.now (names_of (told l.scope.parameters.now))) (drop l.argument-index l.arguments))) (joined (map (argument_trees l.scope.file.now (names_of (told l.scope.parameters.now))) l.arguments))
