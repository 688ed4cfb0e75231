use Rattle.std.proofs.Common.{◌≡◌, ◌++◌, drop}
use Rattle.tb_ast.specs.Pieces.{named}
use Rattle.tb_yield.proofs.pieces.Pieces.idents.Given as goal

abbrev pub invariant-loop-at : goal.invariant-loop-at
invariant-loop-at l =
    l.self.list.items ++ named l.punctuation (drop l.at l.names) (drop l.at l.marks) ≡ l.initial.self.list.items ++ named l.punctuation l.names l.marks
