use Rattle.std.proofs.Common.{sym, ◌∙◌, ap, subst, [], map, None}
use Rattle.tb_store.specs.Store.{Blocks, kept_bytes, with_nth, AreBlocks}
use Rattle.tb_store.proofs.Places.{map_with}
use Rattle.tb_store.proofs.Blocks.{blocks_gone}
use Rattle.tb_store.proofs.store.Store.write.Goals as goal

pub returns-in-Err-clause-gone : goal.returns-in-Err-clause-gone
returns-in-Err-clause-gone c =
    ap (map kept_bytes) (c.empty.ensures ∙ c.in-Err.ensures.err) ∙ map_with kept_bytes c.self.inside.entries.items c.args.id.0 None
    ∙ ap (λ (blocks : Blocks). with_nth blocks.contents c.args.id.0 []) c.self.view_is

pub invariant_of-self-in-Err : goal.invariant_of-self-in-Err
invariant_of-self-in-Err c =
    subst (AreBlocks c.kill.new.self) (sym (ap (map kept_bytes) (c.empty.ensures ∙ c.in-Err.ensures.err) ∙ map_with kept_bytes c.self.inside.entries.items c.args.id.0 None))
    (blocks_gone c.self.inside.table c.kill.new.self (map kept_bytes c.self.inside.entries.items) c.args.id.0 c.self.invariant c.kill.ensures.count c.kill.ensures.dead c.kill.ensures.others)
