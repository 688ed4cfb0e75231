use Rattle.std.proofs.Common.{◌∙◌, ap, length, rules, nat_le, Option}
use Rattle.std.proofs.lemmas.List.{take_rest}
use Rattle.std.proofs.lemmas.List.Sorted.{IsPartitionPoint-from_clause}
use Rattle.tb_perm.specs.declared.tag.Prov.{Prov}
use Rattle.tb_ranges.specs.declared.run.Run.{Run}
use Rattle.tb_ranges.specs.Runs.{expanded}
use Rattle.tb_ranges.proofs.RunLaws.{parted}
use Rattle.tb_bytes.specs.Parts.{first_with}
use Rattle.tb_bytes.proofs.NextRuns.{next_by}
use Rattle.tb_bytes.proofs.origins.next_run.Goals as goal

pub returns : goal.returns
returns c =
    let runs = c.args.runs.now in
    let first = c.partition_point-first.result in
    let size = length (expanded runs) in
    let point = IsPartitionPoint-from_clause (λ (r : Run (Option Prov)). nat_le r.hi c.args.at) runs first c.partition_point-first.ensures.partitioned (parted size c.args.at runs c.requires) (λ a r q k. search rules) in
    let is = c.first_run.ensures ∙ ap first_with (take_rest runs first) in
    rw is (next_by size c.args.at first runs c.requires c.partition_point-first.ensures.bound point.0 point.1)
