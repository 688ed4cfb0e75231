use Rattle.std.proofs.Common.{◌-◌, ◌<◌, length, take, drop, rules, nat_le, nat_lt, ap, sym, ◌∙◌, subst, arith}
use Rattle.std.specs.Prelude.{filter}
use Rattle.std.specs.List.Sorted.{IsPartitionedBy}
use Rattle.std.proofs.lemmas.List.{take_rest}
use Rattle.std.proofs.lemmas.List.Sorted.{IsPartitionPoint-from_clause}
use Rattle.tb_ranges.specs.declared.run.Run.{Run}
use Rattle.tb_ranges.specs.Runs.{expanded}
use Rattle.tb_ranges.specs.Ranges.{touches}
use Rattle.tb_ranges.proofs.Cuts.{none_touches, between_are}
use Rattle.tb_ranges.proofs.RunLaws.{parted, parted_begin}
use Rattle.tb_ranges.proofs.range.runs_between.Goals as goal

pub returns-then-lo-hi : goal.returns-then-lo-hi
returns-then-lo-hi g c = sym (ap (λ n. filter (touches c.args.lo n) c.args.runs.now) (sym c.if-lo-hi.true) ∙ none_touches c.args.lo c.args.runs.now)

pub returns : goal.returns
returns g c =
    let runs = c.args.runs.now in
    let size = length (expanded runs) in
    let s = c.partition_point-start.result in
    let k = c.partition_point-many.result in
    let rest = take (length runs - s) (drop s runs) in
    let is = take_rest runs s in
    let some : c.args.lo < c.args.hi = omega (arith, c.requires.order) in
    let first = IsPartitionPoint-from_clause (λ (r : Run _). nat_le r.hi c.args.lo) runs s c.partition_point-start.ensures.partitioned (parted size c.args.lo runs c.requires.runs) (λ a r q k. search rules) in
    let second = IsPartitionPoint-from_clause (λ (r : Run _). nat_lt r.lo c.args.hi) rest k c.partition_point-many.ensures.partitioned (subst (IsPartitionedBy (λ (r : Run _). nat_lt r.lo c.args.hi)) (sym is) (parted_begin size s c.args.hi runs c.requires.runs)) (λ a r q k. search rules) in
    between_are size c.args.lo c.args.hi s k runs rest is c.requires.runs some c.partition_point-start.ensures.bound c.partition_point-many.ensures.bound first.0 first.1 second.0 second.1
