-- What names are in scope.
use Rattle.std.specs.Prelude.{ℕ, Bool, List}
use Rattle.tb_small.specs.declared.tree.Ty.{Ty}

-- a name, whether its variable may be assigned, and its type
pub record Binding : Type 0 where
  pub name : List ℕ
  pub mutable : Bool
  pub ty : Ty
