use Rattle.std.proofs.Common.{◌∙◌, ◌++◌, [], ◌∷◌, ap, sym}
use Rattle.tb_plain.specs.Bytes.{reborrow_at}
use Rattle.tb_plain.proofs.Moves.{map_range_more}
use Rattle.tb_plain.proofs.bytes.reborrow_kinds.Goals as goal

pub loop-byte-preserved : goal.loop-byte-preserved
loop-byte-preserved c =
    c.in_ok-put.ensures
    ∙ ap (λ x. c.loop-byte.kinds ++ x ∷ []) c.reborrow_in.ensures
    ∙ ap (λ xs. xs ++ reborrow_at c.args.new.now c.loop-byte.byte ∷ []) c.loop-byte.invariant
    ∙ sym (map_range_more (reborrow_at c.args.new.now) c.loop-byte.byte)
