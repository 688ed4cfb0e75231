use Rattle.std.proofs.Common.{◌≡◌, ◌+◌, length}
use Rattle.tb_lex.specs.Characters.{width}
use Rattle.tb_lex.specs.Texts.{Reads}
use Rattle.tb_lex.proofs.source.tokens_from.Given as goal

abbrev pub invariant-loop-rest : goal.invariant-loop-rest
invariant-loop-rest l = record {
  reads : Reads (l.start + width l.text) l.text l.list.items l.rest;
  place : l.at + width l.rest ≡ l.start + width l.text;
}

abbrev pub decreases-loop-rest : goal.decreases-loop-rest
decreases-loop-rest l = length l.rest
