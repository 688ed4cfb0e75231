use Rattle.std.proofs.Common.{◌-◌, ◌≤◌, length, arith, ◌∙◌}
use Rattle.std.proofs.lemmas.List.{take_rest, length-drop}
use Rattle.tb_base.proofs.GrowthLaws.{Grew-more}
use Rattle.tb_base.proofs.put.put_all.Goals as goal

pub loop-done-preserved : goal.loop-done-preserved
loop-done-preserved g c =
    let before = c.loop-done.sink in
    let after = c.put.new.self in
    let bytes = g.S.Sink.bytes in
    let front : c.in_ok-done.field-0 ≤ length c.args.piece.now - c.loop-done.done = omega (arith, rw take_rest at c.in_ok-done.ensures.bound, length-drop c.loop-done.done c.args.piece.now) in
    record {
      within = omega arith;
      told = Grew-more (bytes c.args.sink.now) (bytes before) (bytes after) c.args.piece.now c.loop-done.done c.in_ok-done.field-0 c.loop-done.invariant.told (rw take_rest at c.in_ok-done.ensures.told);
      count = c.in_ok-done.ensures.count ∙ c.loop-done.invariant.count;
    }
