use Rattle.tb_memory_tests.proofs.permissions.ticks.Given as goal

abbrev pub ghosts-two_ticks : goal.ghosts-two_ticks
ghosts-two_ticks g a = record { name = a.blank.name; parts = a.blank.parts }
