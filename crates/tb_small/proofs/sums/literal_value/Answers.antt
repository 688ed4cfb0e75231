use Rattle.std.proofs.Common.{arith}
use Rattle.tb_small.proofs.Bytes.{too_large}
use Rattle.tb_small.proofs.sums.literal_value.Goals as goal

pub returns-then-value-gt-MAX_VALUE : goal.returns-then-value-gt-MAX_VALUE
returns-then-value-gt-MAX_VALUE c =
    too_large c.loop-rest.value c.loop-rest.rest.now c.args.word.now c.in-len1-up.len_at_least (omega arith) c.loop-rest.invariant.same
