use Rattle.std.proofs.Common.{length, rules, nat_le, ap, sym, ◌∙◌, subst}
use Rattle.std.proofs.lemmas.List.{take_rest}
use Rattle.std.proofs.lemmas.List.Sorted.{IsPartitionPoint-from_clause}
use Rattle.tb_ranges.specs.declared.run.Run.{Run}
use Rattle.tb_ranges.specs.Runs.{expanded}
use Rattle.tb_ranges.specs.Ranges.{from_place}
use Rattle.tb_ranges.proofs.RunLaws.{parted}
use Rattle.tb_ranges.proofs.Reading.{IsRead, reading_begins}
use Rattle.tb_ranges.proofs.reader.begin_reader.Goals as goal

pub invariant_of-result : goal.invariant_of-result
invariant_of-result g c =
    let runs = c.args.runs.now in
    let first = c.partition_point-first.result in
    let size = length (expanded runs) in
    let point = IsPartitionPoint-from_clause (λ (r : Run _). nat_le r.hi c.args.lo) runs first c.partition_point-first.ensures.partitioned (parted size c.args.lo runs c.requires.runs) (λ a r q k. search rules) in
    subst (IsRead c.args.lo) (sym (take_rest runs first)) (reading_begins size c.args.lo first runs c.requires.runs c.partition_point-first.ensures.bound point.0 point.1).0

pub returns : goal.returns
returns g c =
    let runs = c.args.runs.now in
    let first = c.partition_point-first.result in
    let size = length (expanded runs) in
    let point = IsPartitionPoint-from_clause (λ (r : Run _). nat_le r.hi c.args.lo) runs first c.partition_point-first.ensures.partitioned (parted size c.args.lo runs c.requires.runs) (λ a r q k. search rules) in
    ap (λ xs. expanded (from_place c.args.lo xs)) (take_rest runs first) ∙ (reading_begins size c.args.lo first runs c.requires.runs c.partition_point-first.ensures.bound point.0 point.1).1
