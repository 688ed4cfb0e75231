-- Types that a shape names.
use Rattle.std.proofs.Common.{◌≡◌, refl, Bool, true, false, ◌&&◌, List, [], ◌∷◌, length}
use Rattle.std.specs.List.{AllByRecursion}
use Rattle.std.proofs.lemmas.Bool.{ltb-true}
use Rattle.tb_types.specs.declared.shape.Ty.{Ty}
use Rattle.tb_types.specs.Table.{TypeTable, IsType}
use Rattle.tb_rules.specs.Made.{is_type, are_types}

both : (a b : Bool) → (a && b) ≡ true → (a ≡ true) × (b ≡ true)
both true true e = (refl, refl)
both true false e = absurd cc
both false b e = absurd cc

pub types_are : (types : TypeTable) (list : List Ty) → are_types types list ≡ true → AllByRecursion (IsType types) list
types_are types [] e = tt
types_are types (ty ∷ list) e = let b = both (is_type types ty) (are_types types list) e in (ltb-true ty.0 (length types.shapes) b.0, types_are types list b.1)
