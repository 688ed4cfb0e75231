use Rattle.std.proofs.Common.{◌≡◌, sym, ◌∙◌, ap, subst, List, map, Option, None, MatchOption}
use Rattle.std.specs.Option.{option_copied}
use Rattle.tb_bytes.specs.declared.byte_val.ByteVal.{ByteVal}
use Rattle.tb_bytes.specs.Bytes.{prov_of, HasNoProv, IsNextRun}
use Rattle.tb_store.specs.Store.{Blocks, nth, kept_bytes, bytes_at}
use Rattle.tb_store.proofs.Places.{nth_map}
use Rattle.tb_store.proofs.store.Store.next_prov.Goals as goal

pub returns-in-Some : goal.returns-in-Some
returns-in-Some c =
    let items = c.self.inside.entries.items in
    let are : c.in-Some.bytes.now ≡ bytes_at c.args.self.now.contents c.args.id.0 =
    ap kept_bytes (ap option_copied (sym c.in-Some.is) ∙ c.at.ensures ∙ ap (λ (list : List (Option (List ByteVal))). nth list c.args.id.0 None) c.deref.ensures.value)
    ∙ sym (nth_map kept_bytes items c.args.id.0 None) ∙ ap (λ (blocks : Blocks). bytes_at blocks.contents c.args.id.0) c.self.view_is in
    subst (λ (bytes : List ByteVal). MatchOption c.next_prov.result (HasNoProv c.args.place bytes) (λ run. IsNextRun c.args.place (map prov_of bytes) run.0 run.1)) are c.next_prov.ensures
