use Rattle.std.proofs.Common.{sym, ◌∙◌, ap, subst, refl, ◌∷◌, ◌++◌, [], List, map}
use Rattle.tb_bytes.specs.declared.byte_val.ByteVal.{ByteVal}
use Rattle.tb_alloc.specs.Allocations.{new_allocation}
use Rattle.tb_store.specs.Store.{kept_bytes, AreBlocks}
use Rattle.tb_store.proofs.Blocks.{blocks_made, map_end, length_end}
use Rattle.tb_store.proofs.store.Store.allocate.Goals as goal

pub invariant_of-self-in-Ok-allocate : goal.invariant_of-self-in-Ok-allocate
invariant_of-self-in-Ok-allocate c =
    let old = c.self.inside.table in
    subst (AreBlocks c.allocate.new.self) (sym (ap (map kept_bytes) c.in-Ok-put.ensures.ok ∙ map_end c.self.inside.entries.items c.in-Ok.bytes ∙ ap (λ (bytes : List ByteVal). map kept_bytes c.self.inside.entries.items ++ bytes ∷ []) c.in-Ok.ensures))
    (blocks_made old c.allocate.new.self (map kept_bytes c.self.inside.entries.items) c.in-Ok-allocate.id.0 c.args.size (new_allocation old c.args.size c.args.align c.args.kind c.args.made)
    c.self.invariant (length_end old c.allocate.new.self _ c.in-Ok-allocate.ensures.ok) c.in-Ok-allocate.ensures.number refl c.in-Ok-allocate.ensures.found c.in-Ok-allocate.ensures.others)
