use Rattle.tb_borrow_cases.proofs.play.misses.Given as goal

abbrev pub ghosts-plain_misses : goal.ghosts-plain_misses
ghosts-plain_misses a = record { name = a.blank.name; parts = a.blank.parts }
