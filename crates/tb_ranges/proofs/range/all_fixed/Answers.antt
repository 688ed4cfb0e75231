use Rattle.std.proofs.Common.{◌≡◌, true, arith}
use Rattle.std.specs.Fn.{FnReturnsAt}
use Rattle.std.proofs.lemmas.Fn.{says_at}
use Rattle.tb_ranges.specs.declared.run.Run.{Run}
use Rattle.tb_ranges.proofs.Mapping.{fixed_more}
use Rattle.tb_ranges.proofs.range.all_fixed.Goals as goal

pub loop-run-preserved : goal.loop-run-preserved
loop-run-preserved g c =
    let run = c.run-item.result in
    let equal : g.V.PartialEq.eq c.f.result run.value ≡ true = cc (c.eq-same.ensures, c.if-not-same.false) in
    fixed_more (λ (r : Run _). FnReturnsAt g.F.Fn c.args.f.now r.value r.value) c.args.runs.now c.loop-run.run-index run (omega arith) c.run-item.is (says_at g.F.Fn c.f.ensures (c.requires.exact _ _ equal)) c.loop-run.invariant
