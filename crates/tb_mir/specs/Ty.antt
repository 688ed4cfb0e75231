-- How many bytes the values of a type have.
use Rattle.std.specs.Prelude.{ℕ}
use Rattle.tb_mir.specs.declared.mir.Ty.{Ty}
use Rattle.tb_mir.specs.declared.mir.Ty.TheVariants.{Unit as TheUnit, Int32, Pointer}

abbrev pub size_of : Ty → ℕ
size_of TheUnit = 0
size_of Int32 = 4
size_of (Pointer kind) = 8
