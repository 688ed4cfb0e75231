use Rattle.std.proofs.Common.{ap, sym, ◌∙◌}
use Rattle.std.specs.List.{splice}
use Rattle.std.proofs.lemmas.List.{map-id}
use Rattle.std.proofs.lemmas.Iterator.{items_from_drains}
use Rattle.std.proofs.lemmas.Iterator.Adapters.{YieldsList-from_vec}
use Rattle.tb_ranges.proofs.patch.apply.Goals as goal

pub returns-in-Ok-clause-ok : goal.returns-in-Ok-clause-ok
returns-in-Ok-clause-ok g c =
    let new = c.args.patch.runs.items in
    let e = c.in-Ok.ensures.items in
    let long = e.2.1 ∙ c.args.patch.runs.ok.0 in
    let all = sym (map-id e.1) ∙ items_from_drains e.1 (e.3.1.0, e.3.1.1, λ _. (e.3.0, e.3.1.2)) (YieldsList-from_vec new e.2.0 long) in
    e.4 ∙ ap (splice c.args.runs.now.items c.args.patch.start c.args.patch.end) all
