use Rattle.std.proofs.Common.{length}
use Rattle.tb_lex.proofs.Decoding.{IsRead}
use Rattle.tb_lex.proofs.decoded.characters_in.Given as goal

abbrev pub invariant-loop-rest : goal.invariant-loop-rest
invariant-loop-rest l = IsRead l.list.items l.text l.rest

abbrev pub decreases-loop-rest : goal.decreases-loop-rest
decreases-loop-rest l = length l.rest
