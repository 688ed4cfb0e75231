use Rattle.std.proofs.Common.{refl, arith}
use Rattle.std.specs.Fn.{FnReturnsAt}
use Rattle.std.proofs.lemmas.Fn.{says_at}
use Rattle.tb_ranges.proofs.Mapping.{collected}
use Rattle.tb_ranges.proofs.pieces.runs_of.Goals as goal

pub loop-at-preserved : goal.loop-at-preserved
loop-at-preserved g c =
    collected (FnReturnsAt g.F.Fn c.args.f) c.args.items.now c.loop-at.at c.index-items-at.result c.f.result c.loop-at.runs.items c.push_run.new.out.items (omega arith) c.index-items-at.is (says_at g.F.Fn c.f.ensures refl) c.loop-at.invariant c.in_ok-push_run.ensures.adds
