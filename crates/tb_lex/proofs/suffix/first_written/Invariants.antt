use Rattle.std.proofs.Common.{◌≡◌, drop}
use Rattle.tb_lex.specs.Tables.{first_written, suffix_text}
use Rattle.tb_lex.proofs.suffix.first_written.Given as goal

abbrev pub invariant-loop-suffix : goal.invariant-loop-suffix
invariant-loop-suffix l = first_written suffix_text (drop l.suffix-index l.suffixes) l.word ≡ first_written suffix_text l.suffixes l.word
