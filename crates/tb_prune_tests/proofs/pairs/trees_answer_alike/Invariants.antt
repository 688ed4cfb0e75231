use Rattle.tb_prune_tests.proofs.pairs.trees_answer_alike.Given as goal

abbrev pub ghosts-written : goal.ghosts-written
ghosts-written g a = record { name = a.blank.name; parts = a.blank.parts }
