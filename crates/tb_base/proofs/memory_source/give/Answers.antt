use Rattle.std.proofs.Common.{◌≡◌, ◌≤◌, min, length, take, drop, arith}
use Rattle.std.proofs.lemmas.List.{take_rest}
use Rattle.tb_base.proofs.Given.{given_front}
use Rattle.tb_base.proofs.memory_source.give.Goals as goal

pub returns-clause-given : goal.returns-clause-given
returns-clause-given c =
    let count = c.min-count.result in
    let rest = drop c.args.at c.args.bytes.now in
    let copied : c.copy_from_slice.new.self ≡ take count rest = rw take_rest at c.copy_from_slice.ensures.after in
    let least : count ≡ min (length c.args.buffer.now) (length rest) = rw take_rest at c.min-count.ensures in
    let bound : count ≤ length rest = omega arith in
    given_front c.args.bytes.now (drop count c.args.buffer.now) c.copy_from_slice.new.self c.args.at count copied bound
