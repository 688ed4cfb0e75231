use Rattle.std.proofs.Common.{◌≡◌, ◌++◌, drop, map}
use Rattle.tb_ast.specs.Pieces.{in_order}
use Rattle.tb_ast.specs.Files.{inner_row}
use Rattle.tb_yield.proofs.pieces.Pieces.inner_attributes.Given as goal

abbrev pub invariant-loop-attribute : goal.invariant-loop-attribute
invariant-loop-attribute l =
    l.self.list.items ++ in_order (map inner_row (drop l.attribute-index l.attributes)) ≡ l.initial.self.list.items ++ in_order (map inner_row l.attributes)
