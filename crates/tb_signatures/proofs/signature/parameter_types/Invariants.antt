use Rattle.std.proofs.Common.{drop, map}
use Rattle.tb_names.specs.Names.{names_of, told}
use Rattle.tb_written.specs.Kept.{IsMoreBefore}
use Rattle.tb_signatures.specs.Signatures.{parameter_tree}
use Rattle.tb_signatures.proofs.signature.parameter_types.Given as goal

abbrev pub invariant-loop-parameter : goal.invariant-loop-parameter
invariant-loop-parameter l =
    IsMoreBefore l.initial.types l.types l.list.items (map (parameter_tree l.scope.file.now (names_of (told l.scope.parameters.now))) (drop l.parameter-index l.parameters)) (map (parameter_tree l.scope.file.now (names_of (told l.scope.parameters.now))) l.parameters)
