use Rattle.std.proofs.Common.{◌≡◌, map, drop}
use Rattle.std.specs.List.{AllByRecursion}
use Rattle.tb_types.specs.Facts.{beside, joined}
use Rattle.tb_types.specs.Known.{fact_at, IsWithin}
use Rattle.tb_types.specs.Folded.{types_in}
use Rattle.tb_types.proofs.facts.facts_of_fields.Given as goal

abbrev pub invariant-loop-field : goal.invariant-loop-field
invariant-loop-field l = record {
  within : AllByRecursion (IsWithin l.known) (types_in (drop l.field-index l.fields));
  told : joined l.all (beside (map (fact_at l.known) (types_in (drop l.field-index l.fields)))) ≡ beside (map (fact_at l.known) (types_in l.fields));
}
