use Rattle.tb_run_tests.proofs.machines.one_step.Given as goal

abbrev pub ghosts-goes_from : goal.ghosts-goes_from
ghosts-goes_from g a = record { name = a.blank.name; parts = a.blank.parts }
