use Rattle.std.proofs.Common.{rules, nat_lt}
use Rattle.std.proofs.lemmas.List.Sorted.{IsPartitionPoint-from_clause}
use Rattle.tb_lazy_rows.specs.declared.row.LazyRow.{LazyRow}
use Rattle.tb_lazy_events.proofs.Search.{parted}
use Rattle.tb_lazy_events.proofs.meeting.place.Goals as goal

pub returns-clause-below : goal.returns-clause-below
returns-clause-below c =
    (IsPartitionPoint-from_clause (λ (row : LazyRow). nat_lt row.tag.0 c.args.key) c.args.rows.now _ c.partition_point.ensures.partitioned (parted c.args.key c.args.rows.now c.requires) (λ a r q k. search rules)).0

pub returns-clause-above : goal.returns-clause-above
returns-clause-above c =
    (IsPartitionPoint-from_clause (λ (row : LazyRow). nat_lt row.tag.0 c.args.key) c.args.rows.now _ c.partition_point.ensures.partitioned (parted c.args.key c.args.rows.now c.requires) (λ a r q k. search rules)).1
