use Rattle.std.proofs.Common.{◌<◌, ◌+◌, ◌^◌, length, arith}
use Rattle.tb_ranges.specs.Runs.{expanded}
use Rattle.tb_ranges.proofs.RunLaws.{stands_at}
use Rattle.tb_ranges.proofs.Mapping.{added_none, added_more, added_all}
use Rattle.tb_ranges.proofs.patch.push_all.Goals as goal

pub loop-run-init : goal.loop-run-init
loop-run-init g c = added_none c.args.lo c.args.new.now c.args.out.now.items

pub overflow_add-lo : goal.overflow_add-lo
overflow_add-lo g c =
    let runs = c.args.new.now in
    let stands = stands_at (length (expanded runs)) c.loop-run.run-index runs c.run-item.result c.requires.new (omega arith) c.run-item.is in
    let few : c.args.lo + c.run-item.result.lo < 2 ^ 32 = omega (arith, stands.some, stands.within, c.requires.within) in
    omega (arith, few)

pub overflow_add-lo-in-loop-run : goal.overflow_add-lo-in-loop-run
overflow_add-lo-in-loop-run g c =
    let runs = c.args.new.now in
    let stands = stands_at (length (expanded runs)) c.loop-run.run-index runs c.run-item.result c.requires.new (omega arith) c.run-item.is in
    let few : c.args.lo + c.run-item.result.hi < 2 ^ 32 = omega (arith, stands.within, c.requires.within) in
    omega (arith, few)

pub push_run-requires-clause-order : goal.push_run-requires-clause-order
push_run-requires-clause-order g c =
    let runs = c.args.new.now in
    let stands = stands_at (length (expanded runs)) c.loop-run.run-index runs c.run-item.result c.requires.new (omega arith) c.run-item.is in
    omega (arith, stands.some)

pub loop-run-preserved : goal.loop-run-preserved
loop-run-preserved g c =
    let runs = c.args.new.now in
    let size = length (expanded runs) in
    let stands = stands_at size c.loop-run.run-index runs c.run-item.result c.requires.new (omega arith) c.run-item.is in
    added_more size c.args.lo c.loop-run.run-index runs c.args.out.now.items c.loop-run.out.items c.push_run.new.out.items c.run-item.result c.requires.new (omega arith) stands c.loop-run.invariant c.in_ok-push_run.ensures.adds

pub returns : goal.returns
returns g c = record {
  adds = added_all (length (expanded c.args.new.now)) c.args.lo c.loop-run.run-index c.args.new.now c.args.out.now.items c.loop-run.out.items c.requires.new (omega arith) c.loop-run.invariant;
}
