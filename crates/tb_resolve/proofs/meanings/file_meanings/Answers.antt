use Rattle.std.proofs.Common.{◌∙◌, ap, Err}
use Rattle.std.proofs.lemmas.Result.{err_from_is_err_and}
use Rattle.tb_resolve.proofs.Listing.{list_on, item_refused}
use Rattle.tb_resolve.proofs.meanings.file_meanings.Goals as goal

pub loop-item-preserved : goal.loop-item-preserved
loop-item-preserved c =
    list_on c.args.file.now c.args.types.now c.loop-item.types c.add_item.new.types c.loop-item.lists.items c.add_item.new.lists.items c.args.items.now c.loop-item.item-index _ _ _
    c.loop-item-test.true c.item-item.is c.loop-item.invariant c.in_ok-add_item.ensures.0 c.in_ok-add_item.ensures.1

pub returns-in_err-add_item : goal.returns-in_err-add_item
returns-in_err-add_item c =
    let p = err_from_is_err_and c.from_residual.result c.from_residual.ensures.1 in
    record {
      meanings = item_refused _ _ c.args.file.now c.args.items.now c.loop-item.item-index _ _ c.in_err-add_item.field-0.0 c.from_residual.result
          c.loop-item-test.true c.item-item.is c.loop-item.invariant.known c.in_err-add_item.ensures (p.1 ∙ ap (λ e. Err e) p.2);
    }
