use Rattle.tb_lower.proofs.Numbered.{numbers_are, brings_are}
use Rattle.tb_lower.proofs.laws.law_names.Goals as goal

pub returns-clause-numbers : goal.returns-clause-numbers
returns-clause-numbers c = numbers_are

pub returns-clause-locals : goal.returns-clause-locals
returns-clause-locals c = brings_are
