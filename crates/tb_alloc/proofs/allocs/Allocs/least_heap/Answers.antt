use Rattle.std.proofs.Common.{ap, ◌∙◌}
use Rattle.tb_alloc.specs.Allocations.{least_live_heap}
use Rattle.tb_alloc.specs.Kept.{first_made}
use Rattle.tb_alloc.proofs.LiveNumbers.{first_made_is}
use Rattle.tb_alloc.proofs.allocs.Allocs.least_heap.Goals as goal

pub returns : goal.returns
returns c =
    let entries = c.self.inside.entries.items in
    let ids = c.self.inside.ids.items in
    c.first_heap.ensures
    ∙ ap (λ xs. first_made xs c.deref-2.result.now) c.deref.ensures.value
    ∙ ap (first_made entries) c.deref-2.ensures.value
    ∙ first_made_is entries ids c.self.invariant.numbers
    ∙ ap least_live_heap c.self.view_is
