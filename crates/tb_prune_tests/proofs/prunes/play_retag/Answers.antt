use Rattle.std.proofs.Common.{refl, sym, ◌∙◌}
use Rattle.tb_prune_tests.proofs.Ready.{ready_free, ready_made, frame_kept}
use Rattle.tb_prune_tests.proofs.prunes.play_retag.Goals as goal

pub returns-then-is_free : goal.returns-then-is_free
returns-then-is_free g c =
    ready_free c.args.tree.now c.retag.new.self c.args.protectors.now
    (record { parent = c.args.parent; tag = c.args.tag; lo = 0; hi = 0; perm = c.args.perm; outside = c.args.perm; cells = c.from_vec.result; guard = c.args.guard; made = record { lo = 3; hi = 5 } })
    c.requires c.retag.ensures.continues c.in_ok-retag.ensures.moved (c.if-not-is_above.ensures refl) (c.if-is_free.ensures.yes refl) (sym c.kind_of.ensures ∙ c.if-not-is_free.ensures.yes refl)

pub returns-in-Ok : goal.returns-in-Ok
returns-in-Ok g c =
    ready_made c.args.tree.now c.retag.new.self c.args.protectors.now c.protect.new.self
    (record { parent = c.args.parent; tag = c.args.tag; lo = 0; hi = 0; perm = c.args.perm; outside = c.args.perm; cells = c.from_vec.result; guard = c.args.guard; made = record { lo = 3; hi = 5 } })
    c.requires c.retag.ensures.continues c.in_ok-retag.ensures.moved (c.if-not-is_above.ensures refl)
    (frame_kept (record { alloc = record { 0 = 1 }; tag = c.args.tag }) c.args.guard c.args.protectors.now c.protect.new.self c.requires.frame c.in-Ok.ensures.ok)
    c.in-Ok.ensures.kinds
