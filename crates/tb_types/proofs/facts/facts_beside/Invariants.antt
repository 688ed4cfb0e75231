use Rattle.std.proofs.Common.{◌≡◌, map, drop}
use Rattle.std.specs.List.{AllByRecursion}
use Rattle.tb_types.specs.Facts.{beside, joined}
use Rattle.tb_types.specs.Known.{fact_at, IsWithin}
use Rattle.tb_types.proofs.facts.facts_beside.Given as goal

abbrev pub invariant-loop-part : goal.invariant-loop-part
invariant-loop-part l = record {
  within : AllByRecursion (IsWithin l.known) (drop l.part-index l.parts);
  told : joined l.all (beside (map (fact_at l.known) (drop l.part-index l.parts))) ≡ beside (map (fact_at l.known) l.parts);
}
