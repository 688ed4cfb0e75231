use Rattle.tb_memory_tests.proofs.heaps.pointers_to_nothing.Given as goal

abbrev pub ghosts-through_nothing_from : goal.ghosts-through_nothing_from
ghosts-through_nothing_from g a = record { name = a.blank.name; parts = a.blank.parts }
