use Rattle.tb_syntax.proofs.Joining.{stands-joined, joined-stands}
use Rattle.tb_syntax.proofs.laws.law_pieces.Goals as goal

pub returns-clause-joined : goal.returns-clause-joined
returns-clause-joined c = stands-joined

pub returns-clause-stands : goal.returns-clause-stands
returns-clause-stands c = joined-stands
