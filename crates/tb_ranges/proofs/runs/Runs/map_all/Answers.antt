use Rattle.std.proofs.Common.{length, sym, ap, ◌∙◌, arith}
use Rattle.std.proofs.lemmas.Result.{on_ok_weaker}
use Rattle.std.specs.Fn.{FnReturnsAt}
use Rattle.tb_ranges.proofs.Values.{size_of, mapped_all, map_of_all}
use Rattle.tb_ranges.proofs.runs.Runs.map_all.Goals as goal

pub map_range-requires-clause-within : goal.map_range-requires-clause-within
map_range-requires-clause-within g c =
    omega (arith, size_of c.map_range.inside.size c.map_range.inside.runs.items c.map_range.invariant, ap length c.map_range.view_is)

pub returns-clause-value : goal.returns-clause-value
returns-clause-value g c =
    let size = c.map_range.inside.size in
    let many = sym (size_of size c.map_range.inside.runs.items c.map_range.invariant) ∙ ap length c.map_range.view_is in
    on_ok_weaker c.map_range-2.result (mapped_all (FnReturnsAt g.F.Fn c.args.f) size c.args.self.now c.map_range-2.new.self many) c.map_range-2.ensures.value

pub returns-clause-function : goal.returns-clause-function
returns-clause-function g c =
    let size = c.map_range.inside.size in
    let many = sym (size_of size c.map_range.inside.runs.items c.map_range.invariant) ∙ ap length c.map_range.view_is in
    on_ok_weaker c.map_range-2.result (λ is f by. map_of_all size c.args.self.now c.map_range-2.new.self f many (is f by)) c.map_range-2.ensures.function
