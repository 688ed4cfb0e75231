use Rattle.std.proofs.Common.{◌≡◌, true, Some, ◌∙◌, sym, ap}
use Rattle.tb_ranges.proofs.RunLaws.{last_item}
use Rattle.tb_ranges.proofs.pieces.ends_in.Goals as goal

pub returns-in-Some-clause-same : goal.returns-in-Some-clause-same
returns-in-Some-clause-same g c = λ is.
    let last = last_item c.args.out.now c.in-Some.last.now c.in-Some.ensures.value in
    last ∙ ap (λ v. Some v) (c.requires _ _ (sym c.eq.ensures ∙ is))

pub returns-in-Some-clause-differs : goal.returns-in-Some-clause-differs
returns-in-Some-clause-differs g c = λ not_equal is.
    let last = last_item c.args.out.now c.in-Some.last.now c.in-Some.ensures.value in
    let same : c.in-Some.last.now.value ≡ c.args.value = cc (last, is) in
    let equal : g.V.PartialEq.eq c.in-Some.last.now.value c.args.value ≡ true = rw same (g.met.V.Eq.laws.refl c.args.value) in
    cc (equal, not_equal, c.eq.ensures)
