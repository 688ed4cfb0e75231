use Rattle.tb_shape.proofs.shape.Shape.drop_leaf.Goals as goal

pub invariant_of-self : goal.invariant_of-self
invariant_of-self c = c.cut.ensures.shape c.self.inside.root c.self.invariant
