use Rattle.std.proofs.Common.{◌≡◌, ◌++◌, drop, map}
use Rattle.tb_lex.specs.declared.punctuation.Punctuation.TheVariants.{Comma}
use Rattle.tb_ast.specs.Pieces.{separated}
use Rattle.tb_ast.specs.Types.{type_pieces, argument_pieces}
use Rattle.tb_yield.proofs.pieces.Pieces.+types.Given as goal

abbrev pub invariant-types-loop-at : goal.invariant-types-loop-at
invariant-types-loop-at l =
    l.self.list.items ++ separated Comma (map type_pieces (drop l.at l.types)) (drop l.at l.commas) ≡ l.initial.self.list.items ++ separated Comma (map type_pieces l.types) l.commas

abbrev pub invariant-listed_arguments-loop-at : goal.invariant-listed_arguments-loop-at
invariant-listed_arguments-loop-at l =
    l.self.list.items ++ separated Comma (map argument_pieces (drop l.at l.arguments)) (drop l.at l.commas) ≡ l.initial.self.list.items ++ separated Comma (map argument_pieces l.arguments) l.commas
