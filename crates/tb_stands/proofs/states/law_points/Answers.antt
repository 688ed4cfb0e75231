use Rattle.tb_stands.proofs.Told.{to_points, from_points}
use Rattle.tb_stands.proofs.states.law_points.Goals as goal

pub returns-clause-points : goal.returns-clause-points
returns-clause-points c = to_points

pub returns-clause-stands : goal.returns-clause-stands
returns-clause-stands c = from_points
