use Rattle.tb_stands.proofs.Ends.{alloc_found, state_changed, state_reached}
use Rattle.tb_stands.proofs.states.law_allocs.Goals as goal

pub returns-clause-found : goal.returns-clause-found
returns-clause-found c reached next id owns eagers state = alloc_found reached id owns eagers state.stand state.numbered

pub returns-clause-changed : goal.returns-clause-changed
returns-clause-changed c = state_changed

pub returns-clause-reached : goal.returns-clause-reached
returns-clause-reached c = state_reached
