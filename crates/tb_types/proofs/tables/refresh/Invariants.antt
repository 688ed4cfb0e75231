use Rattle.std.proofs.Common.{◌≡◌, ◌<◌, ◌≤◌, length, Some, slice_get}
use Rattle.tb_types.specs.declared.shape.Ty.{Ty}
use Rattle.tb_types.specs.Known.{known_of, ArePlain, AreSmall}
use Rattle.tb_types.specs.Kept.{table_of}
use Rattle.tb_types.proofs.tables.refresh.Given as goal

-- what was gone over is right, what was right is so still, and the rest is as it was
abbrev pub invariant-loop-at : goal.invariant-loop-at
invariant-loop-at l = record {
  len : length l.known ≡ length l.shapes;
  done : (ty : Ty) → ty.0 < l.at → slice_get l.known ty.0 ≡ Some (known_of (table_of l.shapes l.items) ty);
  kept : (ty : Ty) → slice_get l.fn.known ty.0 ≡ Some (known_of (table_of l.shapes l.items) ty) → slice_get l.known ty.0 ≡ Some (known_of (table_of l.shapes l.items) ty);
  rest : (ty : Ty) → l.at ≤ ty.0 → slice_get l.known ty.0 ≡ slice_get l.fn.known ty.0;
  plain : ArePlain (table_of l.shapes l.items) l.known;
  small : AreSmall l.known;
}
