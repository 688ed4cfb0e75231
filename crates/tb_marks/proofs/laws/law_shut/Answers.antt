use Rattle.std.proofs.Common.{[]}
use Rattle.tb_marks.proofs.Sound.{shut_still, shut_silent}
use Rattle.tb_marks.proofs.laws.law_shut.Goals as goal

pub returns-clause-still : goal.returns-clause-still
returns-clause-still c = λ tree path kind tags key sound shut. shut_still tree path [] kind tags sound key shut

pub returns-clause-silent : goal.returns-clause-silent
returns-clause-silent c = λ tree path kind tags key sound shut. shut_silent tree path [] kind tags sound key shut
