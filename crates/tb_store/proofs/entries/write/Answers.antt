use Rattle.std.proofs.Common.{sym, ◌∙◌, ap, ◌+◌, length, None}
use Rattle.std.specs.List.{splice}
use Rattle.tb_store.specs.Store.{kept_bytes}
use Rattle.tb_store.proofs.Places.{on_ok, on_err, nth_is, set_again, set_mapped}
use Rattle.tb_store.proofs.entries.write.Goals as goal

pub returns-clause-ok : goal.returns-clause-ok
returns-clause-ok c =
    on_ok c.write_entry.result
    (λ e. set_mapped kept_bytes c.args.entries.now.items c.args.id.0 c.write_entry.new.entry _ c.requires.number
    (e ∙ ap (λ entry. splice (kept_bytes entry) c.args.lo (c.args.lo + length c.args.bytes.now) c.args.bytes.now) (sym (nth_is c.args.entries.now.items c.args.id.0 c.index_mut.result.now None c.requires.number c.requires.given c.index_mut.ensures.value))))
    c.write_entry.ensures

pub returns-clause-err : goal.returns-clause-err
returns-clause-err c = on_err c.write_entry.result (set_again c.args.entries.now.items c.args.id.0 c.write_entry.new.entry None c.requires.number)
