use Rattle.std.proofs.Common.{rules, nat_lt}
use Rattle.std.proofs.lemmas.List.Sorted.{IsPartitionPoint-from_clause}
use Rattle.tb_shape.specs.declared.entries.Entry.{Entry}
use Rattle.tb_shape.proofs.Search.{parted, parted_at}
use Rattle.tb_shape.proofs.entries.place.Goals as goal

pub returns : goal.returns
returns c =
    let entries = c.args.entries.now in
    let point = IsPartitionPoint-from_clause (λ (e : Entry). nat_lt e.key c.args.key) entries _ c.partition_point.ensures.partitioned (parted c.args.key entries c.requires) (λ a r q k. search rules) in
    parted_at c.args.key _ entries c.partition_point.ensures.bound point.0 point.1
