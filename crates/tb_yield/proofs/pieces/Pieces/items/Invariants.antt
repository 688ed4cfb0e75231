use Rattle.std.proofs.Common.{◌≡◌, ◌++◌, drop, map}
use Rattle.tb_ast.specs.Pieces.{in_order}
use Rattle.tb_ast.specs.Files.{item_row}
use Rattle.tb_yield.proofs.pieces.Pieces.items.Given as goal

abbrev pub invariant-loop-item : goal.invariant-loop-item
invariant-loop-item l =
    l.self.list.items ++ in_order (map item_row (drop l.item-index l.items)) ≡ l.initial.self.list.items ++ in_order (map item_row l.items)
