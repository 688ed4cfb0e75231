use Rattle.std.proofs.Common.{drop}
use Rattle.tb_resolve.specs.Meanings.{meanings_in, unknowns_in, IsListedBefore}
use Rattle.tb_resolve.proofs.meanings.file_meanings.Given as goal

abbrev pub invariant-loop-item : goal.invariant-loop-item
invariant-loop-item l =
    IsListedBefore l.initial.types l.types l.lists.items (meanings_in l.file (drop l.item-index l.items)) (meanings_in l.file l.items) (unknowns_in l.file (drop l.item-index l.items)) (unknowns_in l.file l.items)
