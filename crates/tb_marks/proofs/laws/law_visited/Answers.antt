use Rattle.tb_marks.proofs.Sound.{visited_sound, visited_raised, visited_more}
use Rattle.tb_marks.proofs.laws.law_visited.Goals as goal

pub returns-clause-sound : goal.returns-clause-sound
returns-clause-sound c = visited_sound

pub returns-clause-raised : goal.returns-clause-raised
returns-clause-raised c = visited_raised

pub returns-clause-never_less : goal.returns-clause-never_less
returns-clause-never_less c = visited_more
