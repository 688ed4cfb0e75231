use Rattle.std.proofs.Common.{◌≡◌, ◌≤◌, ◌+◌, ◌-◌, length, map, replicate, None, ap, sym, ◌∙◌, subst, arith}
use Rattle.std.specs.List.{splice}
use Rattle.std.proofs.lemmas.List.{length-replicate, length-map}
use Rattle.tb_bytes.specs.Bytes.{is_init, prov_of, OnlyChanges}
use Rattle.tb_ranges.specs.Runs.{expanded}
use Rattle.tb_bytes.specs.Parts.{IsClear}
use Rattle.tb_bytes.proofs.Splices.{only_spliced, splice_again, length-splice}
use Rattle.tb_bytes.proofs.PartsLaws.{clear_long, clear_bared, clear_remarked, clear-splice, clear_of}
use Rattle.tb_bytes.proofs.Marking.{written, length_written}
use Rattle.tb_bytes.proofs.marks.mark_each.Goals as goal

pub set_prov-requires-clause-within : goal.set_prov-requires-clause-within
set_prov-requires-clause-within c = omega (arith, clear_long c.args.init.now c.args.provs.now c.requires.clear, c.requires.within)

pub returns-in_err-overwrite-clause-clear : goal.returns-in_err-overwrite-clause-clear
returns-in_err-overwrite-clause-clear c =
    let lo = c.args.lo in
    let hi = lo + length c.args.bytes.now in
    rw (c.in_err-overwrite.ensures.unchanged, c.in_ok-set_prov.ensures.ok) (clear_bared lo hi c.args.init.now c.args.provs.now (omega arith) c.requires.within c.requires.clear)

pub returns-in_err-overwrite-clause-other_provs : goal.returns-in_err-overwrite-clause-other_provs
returns-in_err-overwrite-clause-other_provs c =
    let lo = c.args.lo in
    let hi = lo + length c.args.bytes.now in
    let within : hi ≤ length c.args.provs.now = omega (arith, clear_long c.args.init.now c.args.provs.now c.requires.clear, c.requires.within) in
    rw c.in_ok-set_prov.ensures.ok (only_spliced c.args.provs.now (replicate (hi - lo) None) lo hi (omega arith) within (length-replicate (hi - lo) None))

pub overwrite-requires-2-clause-within : goal.overwrite-requires-2-clause-within
overwrite-requires-2-clause-within c =
    let lo = c.args.lo in
    let hi = lo + length c.args.bytes.now in
    let within : hi ≤ length c.args.provs.now = omega (arith, clear_long c.args.init.now c.args.provs.now c.requires.clear, c.requires.within) in
    let kept = length-splice c.args.provs.now (replicate (hi - lo) None) lo hi (omega arith) within (length-replicate (hi - lo) None) in
    omega (arith, ap length (c.runs-2.ensures.values ∙ c.in_ok-new_provs.ensures), length-map c.args.bytes.now prov_of, ap length c.in_ok-set_prov.ensures.ok, kept, within)

pub returns-in_err-overwrite-2-clause-clear : goal.returns-in_err-overwrite-2-clause-clear
returns-in_err-overwrite-2-clause-clear c =
    let lo = c.args.lo in
    let bytes = c.args.bytes.now in
    let hi = lo + length bytes in
    let init = written is_init lo bytes (expanded c.runs.result.now) c.args.init.now c.overwrite.new.self (c.runs.ensures.values ∙ c.in_ok-new_init.ensures) c.in_ok-overwrite.ensures.value in
    rw (init, c.in_err-overwrite-2.ensures.unchanged, c.in_ok-set_prov.ensures.ok) (clear_remarked lo hi c.args.init.now (map is_init bytes) c.args.provs.now (length_written is_init lo bytes) c.requires.clear)

pub returns-in_err-overwrite-2-clause-other_init : goal.returns-in_err-overwrite-2-clause-other_init
returns-in_err-overwrite-2-clause-other_init c =
    let lo = c.args.lo in
    let bytes = c.args.bytes.now in
    let hi = lo + length bytes in
    let init = written is_init lo bytes (expanded c.runs.result.now) c.args.init.now c.overwrite.new.self (c.runs.ensures.values ∙ c.in_ok-new_init.ensures) c.in_ok-overwrite.ensures.value in
    rw init (only_spliced c.args.init.now (map is_init bytes) lo hi (omega arith) c.requires.within (length_written is_init lo bytes))

pub returns-in_err-overwrite-2-clause-other_provs : goal.returns-in_err-overwrite-2-clause-other_provs
returns-in_err-overwrite-2-clause-other_provs c =
    let lo = c.args.lo in
    let hi = lo + length c.args.bytes.now in
    let within : hi ≤ length c.args.provs.now = omega (arith, clear_long c.args.init.now c.args.provs.now c.requires.clear, c.requires.within) in
    rw (c.in_err-overwrite-2.ensures.unchanged, c.in_ok-set_prov.ensures.ok) (only_spliced c.args.provs.now (replicate (hi - lo) None) lo hi (omega arith) within (length-replicate (hi - lo) None))

pub returns-clause-provs : goal.returns-clause-provs
returns-clause-provs c =
    let lo = c.args.lo in
    let bytes = c.args.bytes.now in
    let hi = lo + length bytes in
    let within : hi ≤ length c.args.provs.now = omega (arith, clear_long c.args.init.now c.args.provs.now c.requires.clear, c.requires.within) in
    let only = only_spliced c.args.provs.now (replicate (hi - lo) None) lo hi (omega arith) within (length-replicate (hi - lo) None) in
    let bare = subst (OnlyChanges lo hi c.args.provs.now) (sym c.in_ok-set_prov.ensures.ok) only in
    written prov_of lo bytes (expanded c.runs-2.result.now) c.set_prov.new.provs c.overwrite-2.new.self (c.runs-2.ensures.values ∙ c.in_ok-new_provs.ensures) c.in_ok-overwrite-2.ensures.value
    ∙ splice_again lo hi c.args.provs.now c.set_prov.new.provs (map prov_of bytes) bare

pub returns-clause-clear : goal.returns-clause-clear
returns-clause-clear c =
    let lo = c.args.lo in
    let bytes = c.args.bytes.now in
    let hi = lo + length bytes in
    let init = written is_init lo bytes (expanded c.runs.result.now) c.args.init.now c.overwrite.new.self (c.runs.ensures.values ∙ c.in_ok-new_init.ensures) c.in_ok-overwrite.ensures.value in
    rw (init, returns-clause-provs c) (clear-splice lo hi c.args.init.now (map is_init bytes) c.args.provs.now (map prov_of bytes) c.requires.clear (clear_of bytes))

pub returns-clause-other_init : goal.returns-clause-other_init
returns-clause-other_init c =
    let lo = c.args.lo in
    let bytes = c.args.bytes.now in
    let hi = lo + length bytes in
    let init = written is_init lo bytes (expanded c.runs.result.now) c.args.init.now c.overwrite.new.self (c.runs.ensures.values ∙ c.in_ok-new_init.ensures) c.in_ok-overwrite.ensures.value in
    rw init (only_spliced c.args.init.now (map is_init bytes) lo hi (omega arith) c.requires.within (length_written is_init lo bytes))

pub returns-clause-other_provs : goal.returns-clause-other_provs
returns-clause-other_provs c =
    let lo = c.args.lo in
    let bytes = c.args.bytes.now in
    let hi = lo + length bytes in
    let within : hi ≤ length c.args.provs.now = omega (arith, clear_long c.args.init.now c.args.provs.now c.requires.clear, c.requires.within) in
    rw (returns-clause-provs c) (only_spliced c.args.provs.now (map prov_of bytes) lo hi (omega arith) within (length_written prov_of lo bytes))
