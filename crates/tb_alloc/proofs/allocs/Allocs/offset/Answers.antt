use Rattle.std.proofs.Common.{◌<◌, ◌^◌, sym, subst, arith}
use Rattle.std.specs.List.{All}
use Rattle.tb_alloc.specs.declared.allocation.Allocation.{Allocation}
use Rattle.tb_alloc.specs.Allocations.{end_of, next_candidate}
use Rattle.tb_alloc.proofs.Places.{all_below}
use Rattle.tb_alloc.proofs.allocs.Allocs.offset.Goals as goal

pub offset_in_table-requires : goal.offset_in_table-requires
offset_in_table-requires c =
    let small : next_candidate c.self.inside.entries.items < 2 ^ 64 = rw (← c.self.invariant.is_candidate) c.self.invariant.fits in
    subst (All (λ (a : Allocation). end_of a < 2 ^ 64)) (sym c.deref.ensures.value) (all_below (2 ^ 64) _ _ c.self.invariant.placed small)
