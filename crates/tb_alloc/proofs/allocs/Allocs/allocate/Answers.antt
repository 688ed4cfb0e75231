use Rattle.std.proofs.Common.{◌≡◌, ◌+◌, refl, arith, rules}
use Rattle.std.specs.Int.{next_multiple_of}
use Rattle.tb_alloc.specs.Allocations.{new_allocation}
use Rattle.tb_alloc.proofs.Tables.{IsTable-push}
use Rattle.tb_alloc.proofs.Numbers.{found_pushed, others_pushed}
use Rattle.tb_alloc.proofs.allocs.Allocs.allocate.Goals as goal

pub invariant_of-self-2 : goal.invariant_of-self-2
invariant_of-self-2 c =
    let base : c.in-Some.base ≡ next_multiple_of c.self.inside.candidate c.args.align = c.in-Some.ensures.1 in
    let next : c.in-Some-candidate_past.candidate ≡ c.in-Some.base + c.args.size + 16 = c.in-Some-candidate_past.ensures.1 in
    IsTable-push c.self.inside.entries.items c.enter.new.entries.items _ c.self.inside.candidate _ c.self.inside.live _ c.self.inside.ids.items c.enter.new.ids.items _ c.in_ok-enter.ensures.entries c.in_ok-enter.ensures.ids refl (search rules) c.self.invariant c.requires base next (omega arith) refl (omega arith)

pub returns-clause-found : goal.returns-clause-found
returns-clause-found c = found_pushed c.args.self.now c.enter.new.entries.items _ _ (search rules) (search rules)

pub returns-clause-others : goal.returns-clause-others
returns-clause-others c = others_pushed c.args.self.now c.enter.new.entries.items (new_allocation c.args.self.now c.args.size c.args.align c.args.kind c.args.made) _ (search rules) (search rules)
