use Rattle.tb_shape.proofs.shape.Shape.splice.Goals as goal

pub invariant_of-self : goal.invariant_of-self
invariant_of-self c = c.splice_out.ensures.shape c.self.inside.root c.self.invariant
