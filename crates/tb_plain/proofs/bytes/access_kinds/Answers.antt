use Rattle.std.proofs.Common.{◌∙◌, ◌++◌, [], ◌∷◌, ap, sym}
use Rattle.tb_plain.specs.Bytes.{access_at}
use Rattle.tb_plain.proofs.Moves.{map_range_more}
use Rattle.tb_plain.proofs.bytes.access_kinds.Goals as goal

pub loop-byte-preserved : goal.loop-byte-preserved
loop-byte-preserved c =
    c.in_ok-put.ensures
    ∙ ap (λ x. c.loop-byte.kinds ++ x ∷ []) c.access_in.ensures
    ∙ ap (λ xs. xs ++ access_at c.args.lo c.args.hi c.args.kind c.loop-byte.byte ∷ []) c.loop-byte.invariant
    ∙ sym (map_range_more (access_at c.args.lo c.args.hi c.args.kind) c.loop-byte.byte)
