use Rattle.std.proofs.Common.{rules, ◌<◌, map}
use Rattle.tb_ast.specs.Depth.{capped, stmt_depth}
use Rattle.tb_syntax.specs.State.{State, piece_of}
use Rattle.tb_expr.specs.declared.lines.Line.{Line}
use Rattle.tb_expr.specs.Grammar.{IsLineAt, IsStmtAt, line_depth}
use Rattle.tb_parse.proofs.Ends.{statement-deep, statement-last-line, statement-refused}
use Rattle.tb_parse.proofs.fronts.statement_end.Goals as goal

pub returns-in-Stmt-clause-none : goal.returns-in-Stmt-clause-none
returns-in-Stmt-clause-none c =
    let is : IsStmtAt (map piece_of c.args.tokens.now) c.in-Stmt.statement c.in-Ok.rest = search rules in
    let deep : 127 < capped (stmt_depth c.in-Stmt.statement) = search rules in
    statement-deep (map piece_of c.args.tokens.now) c.in-Stmt.statement c.in-Ok.rest is deep

pub returns-in-Ok-clause-none : goal.returns-in-Ok-clause-none
returns-in-Ok-clause-none c =
    statement-last-line (map piece_of c.args.tokens.now) c.new.result c.in-Ok.line c.in-Last.field-0 c.in-Ok.rest c.new.ensures.pieces c.in-Ok.ensures.read c.in-Last.is

pub returns-in-Err-Unexpected-clause-none : goal.returns-in-Err-Unexpected-clause-none
returns-in-Err-Unexpected-clause-none c =
    let refused : (l : Line) (rest : State) → IsLineAt (map piece_of c.args.tokens.now) l rest → 126 < line_depth l = search rules in
    statement-refused (map piece_of c.args.tokens.now) refused
