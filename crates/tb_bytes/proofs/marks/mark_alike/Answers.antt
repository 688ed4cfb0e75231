use Rattle.std.proofs.Common.{◌≤◌, ◌-◌, true, false, length, replicate, None, arith}
use Rattle.std.proofs.lemmas.List.{length-replicate}
use Rattle.tb_bytes.proofs.Splices.{only_spliced}
use Rattle.tb_bytes.proofs.PartsLaws.{clear_long, clear_filled, clear_bared, clear_given, clear_emptied}
use Rattle.tb_bytes.proofs.marks.mark_alike.Goals as goal

pub set_prov-requires-clause-within : goal.set_prov-requires-clause-within
set_prov-requires-clause-within c = omega (arith, clear_long c.args.init.now c.args.provs.now c.requires.clear, c.requires.within)

pub set_prov-requires-else-is_init-clause-within : goal.set_prov-requires-else-is_init-clause-within
set_prov-requires-else-is_init-clause-within c = omega (arith, clear_long c.args.init.now c.args.provs.now c.requires.clear, c.requires.within)

pub returns-in_err-set_prov-clause-clear : goal.returns-in_err-set_prov-clause-clear
returns-in_err-set_prov-clause-clear c =
    rw (c.in_ok-set_init.ensures.ok, c.in_err-set_prov.ensures.err) (clear_filled c.args.lo c.args.hi c.args.init.now c.args.provs.now c.requires.order c.requires.within c.requires.clear)

pub returns-in_err-set_prov-clause-other_init : goal.returns-in_err-set_prov-clause-other_init
returns-in_err-set_prov-clause-other_init c =
    rw c.in_ok-set_init.ensures.ok (only_spliced c.args.init.now (replicate (c.args.hi - c.args.lo) true) c.args.lo c.args.hi c.requires.order c.requires.within (length-replicate (c.args.hi - c.args.lo) true))

pub returns-in_err-set_init-2-clause-clear : goal.returns-in_err-set_init-2-clause-clear
returns-in_err-set_init-2-clause-clear c =
    rw (c.in_err-set_init-2.ensures.err, c.in_ok-set_prov-2.ensures.ok) (clear_bared c.args.lo c.args.hi c.args.init.now c.args.provs.now c.requires.order c.requires.within c.requires.clear)

pub returns-in_err-set_init-2-clause-other_provs : goal.returns-in_err-set_init-2-clause-other_provs
returns-in_err-set_init-2-clause-other_provs c =
    let within : c.args.hi ≤ length c.args.provs.now = omega (arith, clear_long c.args.init.now c.args.provs.now c.requires.clear, c.requires.within) in
    rw c.in_ok-set_prov-2.ensures.ok (only_spliced c.args.provs.now (replicate (c.args.hi - c.args.lo) None) c.args.lo c.args.hi c.requires.order within (length-replicate (c.args.hi - c.args.lo) None))

pub returns-in_ok-set_prov-clause-clear : goal.returns-in_ok-set_prov-clause-clear
returns-in_ok-set_prov-clause-clear c =
    rw (c.in_ok-set_init.ensures.ok, c.in_ok-set_prov.ensures.ok) (clear_given c.args.lo c.args.hi c.args.init.now c.args.provs.now c.prov.result c.requires.clear)

pub returns-in_ok-set_prov-clause-other_init : goal.returns-in_ok-set_prov-clause-other_init
returns-in_ok-set_prov-clause-other_init c =
    rw c.in_ok-set_init.ensures.ok (only_spliced c.args.init.now (replicate (c.args.hi - c.args.lo) true) c.args.lo c.args.hi c.requires.order c.requires.within (length-replicate (c.args.hi - c.args.lo) true))

pub returns-in_ok-set_prov-clause-other_provs : goal.returns-in_ok-set_prov-clause-other_provs
returns-in_ok-set_prov-clause-other_provs c =
    let within : c.args.hi ≤ length c.args.provs.now = omega (arith, clear_long c.args.init.now c.args.provs.now c.requires.clear, c.requires.within) in
    rw c.in_ok-set_prov.ensures.ok (only_spliced c.args.provs.now (replicate (c.args.hi - c.args.lo) c.prov.result) c.args.lo c.args.hi c.requires.order within (length-replicate (c.args.hi - c.args.lo) c.prov.result))

pub returns-in_ok-set_init-2-clause-clear : goal.returns-in_ok-set_init-2-clause-clear
returns-in_ok-set_init-2-clause-clear c =
    rw (c.in_ok-set_init-2.ensures.ok, c.in_ok-set_prov-2.ensures.ok) (clear_emptied c.args.lo c.args.hi c.args.init.now c.args.provs.now c.requires.clear)

pub returns-in_ok-set_init-2-clause-other_init : goal.returns-in_ok-set_init-2-clause-other_init
returns-in_ok-set_init-2-clause-other_init c =
    rw c.in_ok-set_init-2.ensures.ok (only_spliced c.args.init.now (replicate (c.args.hi - c.args.lo) false) c.args.lo c.args.hi c.requires.order c.requires.within (length-replicate (c.args.hi - c.args.lo) false))

pub returns-in_ok-set_init-2-clause-other_provs : goal.returns-in_ok-set_init-2-clause-other_provs
returns-in_ok-set_init-2-clause-other_provs c =
    let within : c.args.hi ≤ length c.args.provs.now = omega (arith, clear_long c.args.init.now c.args.provs.now c.requires.clear, c.requires.within) in
    rw c.in_ok-set_prov-2.ensures.ok (only_spliced c.args.provs.now (replicate (c.args.hi - c.args.lo) None) c.args.lo c.args.hi c.requires.order within (length-replicate (c.args.hi - c.args.lo) None))
