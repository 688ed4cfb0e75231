-- When two types, and two lists of types, are the same.
use Rattle.std.specs.Prelude.{Bool, List, nat_eq}
use Rattle.std.specs.Cmp.{IsEquivalence, on_equiv, nat_eq_equiv, unsigned_Decides}
use Rattle.std.specs.Cmp.Lexicographic.{pointwise}
use Rattle.std.specs.Hash as fed
use Rattle.std.specs.Hash.{Alike, HashWrites, on_Alike, same_Alike}
use Rattle.tb_types.specs.declared.shape.Ty.{Ty}

abbrev pub ty_eq : Ty → Ty → Bool
ty_eq a b = nat_eq a.0 b.0

abbrev pub parts_eq : List Ty → List Ty → Bool
parts_eq = pointwise ty_eq

pub ty_equiv : IsEquivalence ty_eq
ty_equiv = on_equiv (λ (ty : Ty). ty.0) nat_eq_equiv

abbrev pub ty_input : Ty → HashWrites
ty_input ty = fed.u32 ty.0

pub ty_alike : Alike ty_eq ty_input
ty_alike = on_Alike (λ (ty : Ty). ty.0) (same_Alike fed.u32 unsigned_Decides)
