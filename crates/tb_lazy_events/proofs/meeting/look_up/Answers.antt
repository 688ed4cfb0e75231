use Rattle.std.proofs.Common.{◌∙◌, ap, sym, arith, Some}
use Rattle.std.proofs.lemmas.List.{get_or_default}
use Rattle.tb_lazy_rows.specs.declared.row.LazyRow.{LazyRow}
use Rattle.tb_lazy_events.proofs.Search.{found_at, missing_at}
use Rattle.tb_lazy_events.proofs.meeting.look_up.Goals as goal

pub returns-then-at-rows : goal.returns-then-at-rows
returns-then-at-rows c =
    sym (missing_at c.args.key c.place-at.result c.args.rows.now c.requires c.place-at.ensures.bound c.place-at.ensures.below c.place-at.ensures.above (λ within d. absurd (omega (arith, within, c.if-at-rows.true))))

pub returns-then-rows-at : goal.returns-then-rows-at
returns-then-rows-at c =
    sym (missing_at c.args.key c.place-at.result c.args.rows.now c.requires c.place-at.ensures.bound c.place-at.ensures.below c.place-at.ensures.above (λ within d same. c.if-rows-at.true (ap (λ (row : LazyRow). row.tag.0) (get_or_default c.args.rows.now c.place-at.result c.index-rows-at.result d within) ∙ same)))

pub returns : goal.returns
returns c =
    let rows = c.args.rows.now in
    let at = c.place-at.result in
    let item = c.index-rows-at-2.result in
    let same = ap (λ (row : LazyRow). row.tag.0) (get_or_default rows at item c.index-rows-at.result c.if-at-rows.false) ∙ c.if-rows-at.false in
    sym (found_at c.args.key at rows item c.place-at.ensures.below c.if-at-rows.false same ∙ ap (λ r. Some r) (sym c.index-rows-at-2.is))
