use Rattle.tb_syntax.proofs.Attributed.{attributes-take, attributes-complete, inners-take, inners-complete}
use Rattle.tb_syntax.proofs.laws.law_attributes.Goals as goal

pub returns-clause-sound : goal.returns-clause-sound
returns-clause-sound c = λ state list rest e. let r = attributes-take state list rest e in (r.stands, r.good, r.ends)

pub returns-clause-complete : goal.returns-clause-complete
returns-clause-complete c = attributes-complete

pub returns-clause-inner_sound : goal.returns-clause-inner_sound
returns-clause-inner_sound c = λ state list rest e. let r = inners-take state list rest e in (r.stands, r.good, r.ends)

pub returns-clause-inner_complete : goal.returns-clause-inner_complete
returns-clause-inner_complete c = inners-complete
