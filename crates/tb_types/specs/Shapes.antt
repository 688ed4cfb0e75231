-- When two shapes are the same.
use Rattle.std.specs.Prelude.{Bool}
use Rattle.tb_types.specs.declared.shape.TyShape.{TyShape}
use Rattle.tb_types.specs.contracts.shape.TyShapePartialEq.TheImpl as shape_law

abbrev pub shape_eq : TyShape → TyShape → Bool
shape_eq = (shape_law.ghosts).eq
