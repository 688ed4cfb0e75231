use Rattle.tb_perm.proofs.CallEnds.{release_all-append, release_dead, call_end-keeps}
use Rattle.tb_perm.proofs.Freed.{call_end-frees}
use Rattle.tb_perm.proofs.call_end.law_call_end.Goals as goal

pub returns-clause-parts : goal.returns-clause-parts
returns-clause-parts c = release_all-append

pub returns-clause-dead : goal.returns-clause-dead
returns-clause-dead c = release_dead

pub returns-clause-keeps : goal.returns-clause-keeps
returns-clause-keeps c = call_end-keeps

pub returns-clause-freed : goal.returns-clause-freed
returns-clause-freed c = call_end-frees
