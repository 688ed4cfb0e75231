use Rattle.std.proofs.Common.{◌≡◌, ◌<◌, ◌-◌, suc, length, set, ap, ◌∙◌, arith}
use Rattle.tb_ranges.specs.declared.run.Run.{Run}
use Rattle.tb_ranges.proofs.Growth.{set_last}
use Rattle.tb_ranges.proofs.RunLaws.{some_item}
use Rattle.tb_ranges.proofs.pieces.stretch.Goals as goal

pub returns : goal.returns
returns g c =
    let xs = c.args.out.now.items in
    let at = c.len-last.result - 1 in
    let some : 0 < length xs = some_item xs c.requires in
    let last : suc at ≡ length xs = omega (arith, c.len-last.ensures, c.args.out.now.ok.0) in
    ap (λ (r : Run _). set xs at (record r { hi = c.args.hi })) c.index_mut.ensures.value ∙ set_last xs at c.args.hi c.index_mut.result.now last
