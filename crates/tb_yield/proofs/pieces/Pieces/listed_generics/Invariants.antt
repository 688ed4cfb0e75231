use Rattle.std.proofs.Common.{◌≡◌, ◌++◌, drop, map}
use Rattle.tb_lex.specs.declared.punctuation.Punctuation.TheVariants.{Comma}
use Rattle.tb_ast.specs.Pieces.{separated}
use Rattle.tb_ast.specs.Files.{generic_row}
use Rattle.tb_yield.proofs.pieces.Pieces.listed_generics.Given as goal

abbrev pub invariant-loop-at : goal.invariant-loop-at
invariant-loop-at l =
    l.self.list.items ++ separated Comma (map generic_row (drop l.at l.parameters)) (drop l.at l.commas) ≡ l.initial.self.list.items ++ separated Comma (map generic_row l.parameters) l.commas
