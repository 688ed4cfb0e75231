use Rattle.std.proofs.Common.{◌≡◌, ◌++◌, drop, map}
use Rattle.tb_lex.specs.declared.punctuation.Punctuation.TheVariants.{Comma}
use Rattle.tb_ast.specs.Pieces.{separated}
use Rattle.tb_ast.specs.Files.{member_row}
use Rattle.tb_yield.proofs.pieces.Pieces.members.Given as goal

abbrev pub invariant-loop-at : goal.invariant-loop-at
invariant-loop-at l =
    l.self.list.items ++ separated Comma (map member_row (drop l.at l.fields)) (drop l.at l.commas) ≡ l.initial.self.list.items ++ separated Comma (map member_row l.fields) l.commas
