use Rattle.tb_small.specs.Words.{after_space}
use Rattle.tb_small.proofs.Bytes.{word-cut}
use Rattle.tb_small.proofs.words.next_word.Goals as goal

pub returns-clause-word : goal.returns-clause-word
returns-clause-word c =
    rw (c.after_word-rest.ensures.after, c.after_space-text.ensures) (word-cut (after_space c.args.text.now))
