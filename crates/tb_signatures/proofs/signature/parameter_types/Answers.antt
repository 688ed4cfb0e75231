use Rattle.tb_names.specs.Names.{names_of, told}
use Rattle.tb_written.proofs.Keeping.{more_before, next_mapped}
use Rattle.tb_signatures.specs.Signatures.{parameter_tree}
use Rattle.tb_signatures.proofs.signature.parameter_types.Goals as goal

pub loop-parameter-preserved : goal.loop-parameter-preserved
loop-parameter-preserved c =
    more_before c.args.types.now c.loop-parameter.types c.add_parameter.new.types c.loop-parameter.list.items c.add_parameter.new.list.items _ _ _ _ c.loop-parameter.invariant
    (next_mapped c.args.parameters.now c.loop-parameter.parameter-index _ c.loop-parameter-test.true c.parameter-item.is (parameter_tree c.args.scope.now.file.now (names_of (told c.args.scope.now.parameters.now)))) c.in_ok-add_parameter.ensures
