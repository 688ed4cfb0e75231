use Rattle.tb_forms.proofs.Begins.{front-begins}
use Rattle.tb_forms.proofs.FrontSound.{front-sound}
use Rattle.tb_forms.proofs.FrontComplete.{front-complete}
use Rattle.tb_forms.proofs.laws.law_fronts.Goals as goal

pub returns-clause-sound : goal.returns-clause-sound
returns-clause-sound c = front-sound

pub returns-clause-complete : goal.returns-clause-complete
returns-clause-complete c = front-complete

pub returns-clause-begins : goal.returns-clause-begins
returns-clause-begins c = front-begins
