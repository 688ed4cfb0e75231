use Rattle.tb_value_tests.proofs.heaps.checks_stand_in_order.Given as goal

abbrev pub ghosts-both_from : goal.ghosts-both_from
ghosts-both_from g a = record { name = a.blank.name; parts = a.blank.parts }
