use Rattle.tb_names.specs.Names.{names_of, told}
use Rattle.tb_written.specs.Written.{written, argument_trees}
use Rattle.tb_written.proofs.Keeping.{one_more, more_before, next_joined, next_mapped}
use Rattle.tb_written.proofs.made.+types.Goals as goal

pub add-returns : goal.add-returns
add-returns t c = one_more c.args.types.now c.written_type.new.types c.args.list.now.items c.push.new.self.items c.in_ok-part.part _ c.requires.list c.in_ok-part.ensures.written c.in_ok-push.ensures.items

pub listed-loop-argument-preserved : goal.listed-loop-argument-preserved
listed-loop-argument-preserved t c =
    more_before c.args.types.now c.loop-argument.types c.add_argument.new.types c.loop-argument.list.items c.add_argument.new.list.items _ _ _ _ c.loop-argument.invariant
    (next_joined c.args.arguments.now c.loop-argument.argument-index _ c.loop-argument-test.true c.argument-item.is (argument_trees c.args.scope.now.file.now (names_of (told c.args.scope.now.parameters.now)))) c.in_ok-add_argument.ensures

pub parts_of-loop-part-preserved : goal.parts_of-loop-part-preserved
parts_of-loop-part-preserved t c =
    more_before c.args.types.now c.loop-part.types c.add.new.types c.loop-part.list.items c.add.new.list.items _ _ _ _ c.loop-part.invariant
    (next_mapped c.args.parts.now c.loop-part.part-index _ c.loop-part-test.true c.part-item.is (written c.args.scope.now.file.now (names_of (told c.args.scope.now.parameters.now)))) c.in_ok-add.ensures
