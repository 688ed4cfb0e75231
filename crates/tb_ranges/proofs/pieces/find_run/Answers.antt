use Rattle.std.proofs.Common.{◌≡◌, ◌≤◌, ◌+◌, suc, length, take, rules, arith, nat_le, ap}
use Rattle.std.proofs.lemmas.List.Sorted.{IsPartitionPoint-from_clause}
use Rattle.tb_ranges.specs.declared.run.Run.{Run}
use Rattle.tb_ranges.specs.Runs.{expanded}
use Rattle.tb_ranges.specs.Pieces.{end_of}
use Rattle.tb_ranges.proofs.RunLaws.{parted, ended, some_has, not_ended}
use Rattle.tb_ranges.proofs.pieces.find_run.Goals as goal

pub returns-clause-bound : goal.returns-clause-bound
returns-clause-bound g c =
    let runs = c.args.runs.now in
    let size = length (expanded runs) in
    let point = IsPartitionPoint-from_clause (λ (r : Run _). nat_le r.hi c.args.at) runs _ c.partition_point.ensures.partitioned (parted size c.args.at runs c.requires.runs) (λ a r q k. search rules) in
    let no : length runs ≤ c.partition_point.result → ⊥ = some_has size c.args.at c.partition_point.result runs c.requires.runs c.requires.within c.partition_point.ensures.bound point.0 in
    omega (arith, no)

pub returns-clause-starts : goal.returns-clause-starts
returns-clause-starts g c =
    let runs = c.args.runs.now in
    let point = IsPartitionPoint-from_clause (λ (r : Run _). nat_le r.hi c.args.at) runs _ c.partition_point.ensures.partitioned (parted (length (expanded runs)) c.args.at runs c.requires.runs) (λ a r q k. search rules) in
    ended 0 c.args.at c.partition_point.result runs c.partition_point.ensures.bound (omega arith) point.0

pub returns-clause-ends : goal.returns-clause-ends
returns-clause-ends g c =
    let runs = c.args.runs.now in
    let point = IsPartitionPoint-from_clause (λ (r : Run _). nat_le r.hi c.args.at) runs _ c.partition_point.ensures.partitioned (parted (length (expanded runs)) c.args.at runs c.requires.runs) (λ a r q k. search rules) in
    let next : c.partition_point.result + 1 ≡ suc c.partition_point.result = omega arith in
    omega (arith, not_ended c.args.at c.partition_point.result runs (returns-clause-bound g c) point.1, ap (λ n. end_of 0 (take n runs)) next)
