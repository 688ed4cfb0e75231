use Rattle.tb_value_tests.proofs.retags.guards_go_with_their_call.Given as goal

abbrev pub ghosts-guarded_from : goal.ghosts-guarded_from
ghosts-guarded_from g a = record { name = a.blank.name; parts = a.blank.parts }
