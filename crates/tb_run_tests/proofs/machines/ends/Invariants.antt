use Rattle.tb_run_tests.proofs.machines.ends.Given as goal

abbrev pub ghosts-ends_from : goal.ghosts-ends_from
ghosts-ends_from g a = record { name = a.blank.name; parts = a.blank.parts }
