use Rattle.tb_prune.proofs.GuardLaws.{guards_event, guards_made, guards_free, guards_pruned}
use Rattle.tb_prune.proofs.guards.law_guards.Goals as goal

pub returns-clause-event : goal.returns-clause-event
returns-clause-event c = guards_event

pub returns-clause-made : goal.returns-clause-made
returns-clause-made c = guards_made

pub returns-clause-free : goal.returns-clause-free
returns-clause-free c = guards_free

pub returns-clause-pruned : goal.returns-clause-pruned
returns-clause-pruned c = guards_pruned
