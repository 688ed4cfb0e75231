use Rattle.std.proofs.Common.{◌≡◌, ◌&&◌, [], drop}
use Rattle.std.specs.List.{AllByRecursion}
use Rattle.tb_types.specs.Table.{IsType}
use Rattle.tb_types.specs.Trees.{trees_by, tree_of, are_plain}
use Rattle.tb_types.specs.Kept.{table_of}
use Rattle.tb_types.proofs.known.are_plain.Given as goal

abbrev pub invariant-loop-part : goal.invariant-loop-part
invariant-loop-part l = record {
  named : AllByRecursion (IsType (table_of l.shapes [])) (drop l.part-index l.parts);
  told : (l.plain && are_plain (trees_by (tree_of (table_of l.shapes [])) (drop l.part-index l.parts))) ≡ are_plain (trees_by (tree_of (table_of l.shapes [])) l.parts);
}
