use Rattle.std.proofs.Common.{◌∙◌, sym}
use Rattle.std.specs.List.{list_any}
use Rattle.tb_plain.specs.Sweep.{refuses_by}
use Rattle.tb_plain.proofs.Moves.{find_range_more}
use Rattle.tb_plain.proofs.choice.refused_byte.Goals as goal

pub loop-byte-preserved : goal.loop-byte-preserved
loop-byte-preserved c =
    find_range_more (λ byte. list_any (refuses_by c.args.sweep.now byte) c.args.rows.now) c.loop-byte.byte c.args.size c.loop-byte-test.true (sym c.is_refused.ensures ∙ c.if-is_refused.false) ∙ c.loop-byte.invariant
