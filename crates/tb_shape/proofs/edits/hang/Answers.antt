use Rattle.std.proofs.Common.{refl, arith}
use Rattle.tb_shape.proofs.Keep.{IsShape-room}
use Rattle.tb_shape.proofs.Uses.{entry_there, entry_missing, IsShape-made, slot_there, tree_placed, shape_placed}
use Rattle.tb_shape.proofs.edits.hang.Goals as goal

pub present-over-requires-clause-there : goal.present-over-requires-clause-there
present-over-requires-clause-there c = rw c.deref.ensures.value (entry_there c.args.entries.now.items c.args.parent c.requires.parent)

pub returns-in_err-make_room-clause-shape : goal.returns-in_err-make_room-clause-shape
returns-in_err-make_room-clause-shape c = λ root is. IsShape-made _ _ _ _ root c.make_room.ensures.entries c.make_room.ensures.nodes is

pub push_child-requires : goal.push_child-requires
push_child-requires c =
    let found = rw c.deref.ensures.value at c.present-over.ensures in
    let made = IsShape-made c.args.entries.now.items _ _ _ c.requires.shape.0 refl c.make_room.ensures.nodes c.requires.shape.1 in
    slot_there c.args.entries.now.items _ c.requires.shape.0 c.args.parent _ made found

pub returns-in_err-push_child-clause-shape : goal.returns-in_err-push_child-clause-shape
returns-in_err-push_child-clause-shape c = λ root is.
    IsShape-room _ _ _ root _ (IsShape-made _ _ _ _ root c.make_room.ensures.entries c.make_room.ensures.nodes is) c.in_err-push_child.ensures.err

pub returns-clause-ok : goal.returns-clause-ok
returns-clause-ok c = tree_placed _ _ _ _ _ c.make_room.ensures.entries c.insert_entry.ensures refl

pub returns-clause-shape : goal.returns-clause-shape
returns-clause-shape c = λ root is.
    let found = rw c.deref.ensures.value at c.present-over.ensures in
    let made = IsShape-made c.args.entries.now.items c.args.entries.now.items _ _ root refl c.make_room.ensures.nodes is in
    shape_placed _ _ _ _ _ _ root _ _ _ _ c.make_room.ensures.entries c.insert_entry.ensures made (entry_missing c.args.entries.now.items c.args.key c.requires.fresh) refl found (omega (arith, c.in-Some.ensures)) c.in_ok-push_child.ensures.ok c.insert_node-slot.ensures.vacant c.insert_node-slot.ensures.made.1 c.insert_node-slot.ensures.made.2 c.insert_node-slot.ensures.made.3
