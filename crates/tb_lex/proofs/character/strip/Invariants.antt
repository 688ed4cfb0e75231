use Rattle.std.proofs.Common.{◌≡◌, drop}
use Rattle.tb_lex.specs.Tables.{strip}
use Rattle.tb_lex.proofs.character.strip.Given as goal

abbrev pub invariant-loop-byte : goal.invariant-loop-byte
invariant-loop-byte l = strip (drop l.byte-index l.byte-items) l.rest ≡ strip l.word l.text
