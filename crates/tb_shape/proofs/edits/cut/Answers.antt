use Rattle.std.proofs.Common.{sym, subst}
use Rattle.tb_shape.proofs.Keep.{IsShape-dropped}
use Rattle.tb_shape.proofs.Uses.{entry_below, parent_below, is_some_at, has_child, slot_there, slot_kept, entries_dropped, tree_dropped, leaf_entries}
use Rattle.tb_shape.specs.Shape.{IsShape}
use Rattle.tb_shape.proofs.edits.cut.Goals as goal

pub present-entry-requires-clause-there : goal.present-entry-requires-clause-there
present-entry-requires-clause-there c =
    let e = entry_below c.args.entries.now.items c.args.key c.requires.below in
    rw c.deref.ensures.value (is_some_at _ e.0 e.1)

pub above-over-requires-clause-below : goal.above-over-requires-clause-below
above-over-requires-clause-below c =
    parent_below c.args.entries.now.items c.args.key _ (rw c.deref.ensures.value at c.present-entry.ensures) c.requires.below

pub remove_child-requires : goal.remove_child-requires
remove_child-requires c =
    has_child c.args.entries.now.items c.args.nodes.now c.requires.shape.0 c.args.key _ _ c.requires.shape.1 (rw c.deref.ensures.value at c.present-entry.ensures) c.above-over.ensures.parent (rw c.deref-2.ensures.value at c.above-over.ensures.there)

pub remove_node-requires : goal.remove_node-requires
remove_node-requires c =
    slot_kept _ _ _ _ _ _ c.remove_child.ensures (slot_there c.args.entries.now.items c.args.nodes.now c.requires.shape.0 c.args.key _ c.requires.shape.1 (rw c.deref.ensures.value at c.present-entry.ensures))

pub returns-clause-tree : goal.returns-clause-tree
returns-clause-tree c =
    tree_dropped c.args.entries.now.items _ c.args.key (entries_dropped c.args.entries.now.items _ c.args.key _ c.requires.shape.1.rising (rw c.deref.ensures.value at c.present-entry.ensures) c.remove_entry.ensures)

pub returns-clause-shape : goal.returns-clause-shape
returns-clause-shape c = λ root is.
    let found = rw c.deref.ensures.value at c.present-entry.ensures in
    let above = rw c.deref-2.ensures.value at c.above-over.ensures.there in
    let left = entries_dropped c.args.entries.now.items _ c.args.key _ is.rising found c.remove_entry.ensures in
    subst (λ zs. IsShape zs c.remove_node.new.nodes root) (sym left)
    (IsShape-dropped c.args.entries.now.items c.args.nodes.now _ _ root c.args.key _ _ _ is found c.above-over.ensures.parent above (leaf_entries c.args.entries.now.items c.args.key c.requires.leaf) c.remove_child.ensures c.remove_node.ensures)
