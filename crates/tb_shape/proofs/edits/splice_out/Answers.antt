use Rattle.std.proofs.Common.{◌∙◌, ap, map, slice_index}
use Rattle.tb_shape.specs.Entries.{reparented}
use Rattle.tb_shape.proofs.Uses.{entry_below, parent_below, is_some_at, has_child, slot_there, slot_kept, entries_dropped, tree_spliced, shape_spliced, only_first}
use Rattle.tb_shape.proofs.edits.splice_out.Goals as goal

pub present-entry-requires-clause-there : goal.present-entry-requires-clause-there
present-entry-requires-clause-there c =
    let e = entry_below c.args.entries.now.items c.args.key c.requires.below in
    rw c.deref.ensures.value (is_some_at _ e.0 e.1)

pub above-over-requires-clause-below : goal.above-over-requires-clause-below
above-over-requires-clause-below c =
    parent_below c.args.entries.now.items c.args.key _ (rw c.deref.ensures.value at c.present-entry.ensures) c.requires.below

pub first-child-requires : goal.first-child-requires
first-child-requires c =
    let found = rw c.deref.ensures.value at c.present-entry.ensures in
    let node = c.requires.shape.1.linked c.args.key _ found in
    rw (c.children_at.ensures node.node node.there) (only_first _ c.args.key c.requires.one.0 _ node.children c.requires.one.1 c.requires.one.2).0

pub swap_child-requires : goal.swap_child-requires
swap_child-requires c =
    has_child c.args.entries.now.items c.args.nodes.now c.requires.shape.0 c.args.key _ _ c.requires.shape.1 (rw c.deref.ensures.value at c.present-entry.ensures) c.above-over.ensures.parent (rw c.deref-2.ensures.value at c.above-over.ensures.there)

pub remove_node-requires : goal.remove_node-requires
remove_node-requires c =
    slot_kept _ _ _ _ _ _ c.swap_child.ensures (slot_there c.args.entries.now.items c.args.nodes.now c.requires.shape.0 c.args.key _ c.requires.shape.1 (rw c.deref.ensures.value at c.present-entry.ensures))

pub returns-clause-tree : goal.returns-clause-tree
returns-clause-tree c =
    let found = rw c.deref.ensures.value at c.present-entry.ensures in
    let left = entries_dropped c.args.entries.now.items _ c.args.key _ c.requires.shape.1.rising found c.remove_entry.ensures in
    tree_spliced c.args.entries.now.items _ c.args.key _ found (c.reparent.ensures ∙ ap (map (reparented c.args.key c.present-entry.result.parent)) left)

pub returns-clause-shape : goal.returns-clause-shape
returns-clause-shape c = λ root is.
    let found = rw c.deref.ensures.value at c.present-entry.ensures in
    let above = rw c.deref-2.ensures.value at c.above-over.ensures.there in
    let left = entries_dropped c.args.entries.now.items _ c.args.key _ is.rising found c.remove_entry.ensures in
    let node = is.linked c.args.key _ found in
    let first = only_first _ c.args.key c.requires.one.0 node.node.children.items node.children c.requires.one.1 c.requires.one.2 in
    shape_spliced c.args.entries.now.items _ _ c.args.nodes.now _ _ root c.args.key _ c.requires.one.0 _ _ is found c.above-over.ensures.parent above c.requires.one.1 c.requires.one.2
    (c.first-child.ensures ∙ ap (λ cs. slice_index cs 0) (c.children_at.ensures node.node node.there) ∙ first.1)
    c.swap_child.ensures c.remove_node.ensures left c.reparent.ensures
