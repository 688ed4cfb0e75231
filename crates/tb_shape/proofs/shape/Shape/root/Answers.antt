use Rattle.tb_shape.proofs.Uses.{IsKeys-shape}
use Rattle.tb_shape.proofs.shape.Shape.root.Goals as goal

pub returns : goal.returns
returns c = rw (← c.self.view_is) (IsKeys-shape _ _ _ c.self.invariant)
