use Rattle.std.proofs.Common.{◌≡◌, [], drop, fold}
use Rattle.tb_lookup.specs.Paths.{words_of, followed}
use Rattle.tb_lookup.proofs.path.spelled.Given as goal

abbrev pub invariant-loop-word : goal.invariant-loop-word
invariant-loop-word l = fold followed l.text.items (words_of (drop l.word-index l.words)) ≡ fold followed [] (words_of l.words)
