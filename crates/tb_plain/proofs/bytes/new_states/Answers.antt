use Rattle.std.proofs.Common.{◌∙◌, ◌++◌, [], ◌∷◌, ap, sym}
use Rattle.tb_perm.specs.Reborrow.{new_state}
use Rattle.tb_plain.proofs.Moves.{map_range_more}
use Rattle.tb_plain.proofs.bytes.new_states.Goals as goal

pub loop-byte-preserved : goal.loop-byte-preserved
loop-byte-preserved c =
    c.in_ok-put.ensures
    ∙ ap (λ x. c.loop-byte.states ++ x ∷ []) c.state_of.ensures
    ∙ ap (λ xs. xs ++ new_state c.args.new.now c.loop-byte.byte ∷ []) c.loop-byte.invariant
    ∙ sym (map_range_more (new_state c.args.new.now) c.loop-byte.byte)
