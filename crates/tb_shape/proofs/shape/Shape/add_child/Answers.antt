use Rattle.tb_shape.proofs.shape.Shape.add_child.Goals as goal

pub invariant_of-self : goal.invariant_of-self
invariant_of-self c = c.hang.ensures.shape c.self.inside.root c.self.invariant
