use Rattle.std.proofs.Common.{◌≡◌, ◌++◌, drop, map}
use Rattle.tb_ast.specs.Pieces.{in_order}
use Rattle.tb_ast.specs.Files.{foreign_row}
use Rattle.tb_yield.proofs.pieces.Pieces.foreign_functions.Given as goal

abbrev pub invariant-loop-function : goal.invariant-loop-function
invariant-loop-function l =
    l.self.list.items ++ in_order (map foreign_row (drop l.function-index l.functions)) ≡ l.initial.self.list.items ++ in_order (map foreign_row l.functions)
