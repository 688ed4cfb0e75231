use Rattle.std.proofs.Common.{◌≡◌, drop}
use Rattle.tb_lex.specs.Tables.{first_written, keyword_text}
use Rattle.tb_lex.proofs.keyword.first_written.Given as goal

abbrev pub invariant-loop-keyword : goal.invariant-loop-keyword
invariant-loop-keyword l = first_written keyword_text (drop l.keyword-index l.keywords) l.word ≡ first_written keyword_text l.keywords l.word
