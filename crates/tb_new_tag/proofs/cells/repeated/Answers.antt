use Rattle.std.proofs.Common.{◌∙◌, sym, ap, ◌+◌, ◌-◌, ◌*◌, ◌<◌, ◌≡◌, ◌++◌, List, append_assoc, arith}
use Rattle.tb_perm.specs.declared.new_tag.CellRange.{CellRange}
use Rattle.tb_new_tag.specs.NewTags.{shifted, repeated}
use Rattle.tb_new_tag.proofs.Repeats.{one_less, bytes_less, all_repeated}
use Rattle.tb_new_tag.proofs.cells.repeated.Goals as goal

pub loop-preserved : goal.loop-preserved
loop-preserved c = (
  ap (λ (list : List CellRange). list ++ repeated (c.args.count - (c.loop.counter + 1)) c.args.size (c.loop.from + c.args.size) c.args.cells.now) c.in_ok-put_shifted.ensures
      ∙ append_assoc c.loop.ranges.items (shifted c.loop.from c.args.cells.now) (repeated (c.args.count - (c.loop.counter + 1)) c.args.size (c.loop.from + c.args.size) c.args.cells.now)
      ∙ ap (λ (list : List CellRange). c.loop.ranges.items ++ list) (sym (one_less c.args.count c.loop.counter c.args.size c.loop.from c.args.cells.now c.loop-test.true))
      ∙ c.loop.invariant.0,
  (let e : (c.args.count - c.loop.counter) * c.args.size ≡ c.args.size + (c.args.count - (c.loop.counter + 1)) * c.args.size = bytes_less c.args.count c.loop.counter c.args.size c.loop-test.true in
      let h : c.loop.from + (c.args.count - c.loop.counter) * c.args.size < 4294967296 = c.loop.invariant.1 in
      omega (arith, e, h)),
)

pub returns-clause-order : goal.returns-clause-order
returns-clause-order c = all_repeated c.args.count c.loop.counter c.args.size c.loop.from c.args.at c.loop.ranges.items c.args.cells.now c.loop-test.false c.requires.cells c.loop.invariant.0
