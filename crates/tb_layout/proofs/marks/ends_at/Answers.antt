use Rattle.std.proofs.Common.{◌≡◌, sym, suc, ◌-◌, ◌<◌, length, arith}
use Rattle.std.proofs.lemmas.Option.{slice_get-get_or}
use Rattle.tb_layout.proofs.Marking.{ends_is}
use Rattle.tb_layout.proofs.marks.ends_at.Goals as goal

pub returns : goal.returns
returns c =
    let some : 0 < length c.args.ranges.now = (let z = c.if-count-eq0.false in omega arith) in
    let last : suc (length c.args.ranges.now - 1) ≡ length c.args.ranges.now = omega arith in
    sym (ends_is c.args.ranges.now (length c.args.ranges.now - 1) c.args.at _ last (slice_get-get_or c.args.ranges.now (length c.args.ranges.now - 1) (record { lo = 0; hi = 0 }) (omega arith)))
