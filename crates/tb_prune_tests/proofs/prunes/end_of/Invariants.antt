use Rattle.tb_prune_tests.proofs.prunes.end_of.Given as goal

abbrev pub ghosts-outcome : goal.ghosts-outcome
ghosts-outcome a = record { name = a.blank.name; parts = a.blank.parts }
