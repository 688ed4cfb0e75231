-- The program that runs for a source.
use Rattle.tb_lower.specs.Lowering.{Realises}
use Rattle.tb_mir.specs.Retags.{RetagPlaced}
use Rattle.tb_mir.specs.declared.mir.Mir.{Mir}
use Rattle.tb_small.specs.declared.tree.SmallTree.{SmallTree}

-- what the tree is lowered to, with its retags at their places
pub record IsProgram (tree : SmallTree) (mir : Mir) : Type 0 where
  pub realised : Realises tree mir
  pub retags : RetagPlaced mir
