use Rattle.std.proofs.Common.{◌≡◌, ◌++◌, drop, map}
use Rattle.tb_lex.specs.declared.punctuation.Punctuation.TheVariants.{Comma}
use Rattle.tb_ast.specs.Pieces.{separated, in_order}
use Rattle.tb_ast.specs.Expressions.{expr_pieces, field_pieces, stmt_pieces}
use Rattle.tb_yield.proofs.pieces.Pieces.+expressions.Given as goal

abbrev pub invariant-exprs-loop-at : goal.invariant-exprs-loop-at
invariant-exprs-loop-at l =
    l.self.list.items ++ separated Comma (map expr_pieces (drop l.at l.list)) (drop l.at l.commas) ≡ l.initial.self.list.items ++ separated Comma (map expr_pieces l.list) l.commas

abbrev pub invariant-fields-loop-at : goal.invariant-fields-loop-at
invariant-fields-loop-at l =
    l.self.list.items ++ separated Comma (map field_pieces (drop l.at l.fields)) (drop l.at l.commas) ≡ l.initial.self.list.items ++ separated Comma (map field_pieces l.fields) l.commas

abbrev pub invariant-statements-loop-statement : goal.invariant-statements-loop-statement
invariant-statements-loop-statement l =
    l.self.list.items ++ in_order (map stmt_pieces (drop l.statement-index l.statements)) ≡ l.initial.self.list.items ++ in_order (map stmt_pieces l.statements)
