-- Reading expressions, statements and blocks: an operand, and then as far as it goes on.
use Rattle.std.specs.Prelude.{ℕ, zero, suc, if◌then◌else◌, List, [], ◌∷◌, length, Option, None, Some}
use Rattle.tb_perm.specs.declared.span.Span.{Span}
use Rattle.tb_lex.specs.declared.keyword.Keyword.TheVariants as keyword_of
use Rattle.tb_lex.specs.declared.punctuation.Punctuation.TheVariants.{OpenBrace, CloseBrace, Semicolon, Colon, Eq}
use Rattle.tb_ast.specs.declared.leaf.Mark.{Mark}
use Rattle.tb_ast.specs.declared.leaf.Ident.{Ident}
use Rattle.tb_ast.specs.declared.written.TypeNote.{TypeNote}
use Rattle.tb_ast.specs.declared.expression.Expr.{Expr}
use Rattle.tb_ast.specs.declared.expression.Else.{Else, roll-Else}
use Rattle.tb_ast.specs.declared.expression.Block.{Block, roll-Block}
use Rattle.tb_ast.specs.declared.expression.Stmt.{Stmt, roll-Stmt}
use Rattle.tb_ast.specs.declared.expression.FieldValue.{FieldValue, roll-FieldValue}
use Rattle.tb_ast.specs.declared.expression.Initializer.{Initializer, roll-Initializer}
use Rattle.tb_ast.specs.declared.expression.Else.TheOpen.{Else-F, FieldValue-F, Stmt-F}
use Rattle.tb_ast.specs.Spans.{expr_span}
use Rattle.tb_syntax.specs.Reading.{◌>>=◌}
use Rattle.tb_syntax.specs.State.{State}
use Rattle.tb_syntax.specs.Marks.{mark_at, punct_at, has_mark}
use Rattle.tb_syntax.specs.Leaves.{keyword_at, has_keyword, name_at, optional_keyword_at}
use Rattle.tb_syntax.specs.Lists.{listed_at}
use Rattle.tb_syntax.specs.Paths.{from_to}
use Rattle.tb_syntax.specs.Notes.{note_at}
use Rattle.tb_forms.specs.declared.place.Where.{Where}
use Rattle.tb_forms.specs.declared.place.Where.TheVariants.{Anywhere, Condition}
use Rattle.tb_forms.specs.declared.wanted.Wanted.{Wanted}
use Rattle.tb_forms.specs.declared.wanted.Wanted.TheVariants as wanted
use Rattle.tb_forms.specs.declared.wanted.Got.{Got}
use Rattle.tb_forms.specs.declared.wanted.Got.TheVariants as got
use Rattle.tb_forms.specs.Beginnings.{begins_blocky}
use Rattle.tb_forms.specs.Levels.{operand_alone, loosest_level, level_of, goes_on}
use Rattle.tb_forms.specs.Fronts.{front_at}
use Rattle.tb_forms.specs.Steps.{step_at}
use Rattle.tb_forms.specs.Wants.{wants, finished_at, step_wants, step_finished_at}
use Rattle.tb_expr.specs.declared.start.Start.{Start}
use Rattle.tb_expr.specs.declared.start.Start.TheVariants as start
use Rattle.tb_expr.specs.declared.lines.Line.{Line}
use Rattle.tb_expr.specs.declared.lines.Line.TheVariants as line

-- Trees by their parts.

abbrev pub block_in : Span → List Stmt → Option Expr → Span → Block
block_in opening statements last closing = roll-Block (record { span = from_to opening closing; opening = opening; statements = statements; last = last; closing = closing })

abbrev pub ended_by : Expr → Span → Stmt
ended_by e semicolon = roll-Stmt (Stmt-F.Expr (from_to (expr_span e) semicolon) e semicolon)

-- one statement before others
abbrev pub Lines : Type 0
Lines = List Stmt × Option Expr

abbrev pub put_first : Stmt → Option (Lines × State) → Option (Lines × State)
put_first statement None = None
put_first statement (Some x) = Some ((statement ∷ x.0.0, x.0.1), x.1)

-- Lines, but for the expression in them: what a line begins with, what it wants to be read next, and what it is with that.

unfoldable pub equals_at : State → Option (Option Mark × State)
equals_at state = if has_mark Eq state then (mark_at Eq state >>= λ equals. Some (Some equals.0, equals.1)) else Some (None, state)

-- with types of at most this depth
unfoldable pub let_start_at : ℕ → State → Option (Start × State)
let_start_at depth state = do
  word ← keyword_at keyword_of.Let state
  mutable ← optional_keyword_at keyword_of.Mut word.1
  name ← name_at mutable.1
  note ← note_at depth name.1
  equals ← equals_at note.1
  Some (start.Let word.0 mutable.0 name.0 note.0 equals.0, equals.1)

unfoldable pub start_at : ℕ → State → Option (Start × State)
start_at depth state =
    if has_mark Semicolon state then (punct_at Semicolon state >>= λ semicolon. Some (start.Empty semicolon.0, semicolon.1))
    else (if has_keyword keyword_of.Let state then let_start_at depth state
    else (if begins_blocky state then Some (start.Blocky, state) else Some (start.Plain, state)))

-- the level of the expression that a line wants, if it wants one: what begins with a block ends with it

abbrev pub equals_wants : Option Mark → Option ℕ
equals_wants None = None
equals_wants (Some equals) = Some loosest_level

unfoldable pub line_wants : Start → Option ℕ
line_wants (start.Empty span) = None
line_wants (start.Let word mutable name ty equals) = equals_wants equals
line_wants start.Blocky = Some operand_alone
line_wants start.Plain = Some loosest_level

abbrev pub initializer_of : Option Mark → Option Expr → Option (Option Initializer)
initializer_of None None = Some None
initializer_of (Some equals) (Some e) = Some (Some (roll-Initializer (record { equals = equals; value = e })))
initializer_of equals other = None

abbrev pub let_end_at : Span → Option Span → Ident → Option TypeNote → Option Initializer → State → Option (Line × State)
let_end_at word mutable name ty value state =
    punct_at Semicolon state >>= λ semicolon. Some (line.Stmt (roll-Stmt (Stmt-F.Let (from_to word semicolon.0) word mutable name ty value semicolon.0)), semicolon.1)

abbrev pub blocky_end_at : Expr → State → Option (Line × State)
blocky_end_at e state = if has_mark CloseBrace state then Some (line.Last e, state) else Some (line.Stmt (roll-Stmt (Stmt-F.Blocky e)), state)

abbrev pub plain_end_at : Expr → State → Option (Line × State)
plain_end_at e state =
    if has_mark Semicolon state then (punct_at Semicolon state >>= λ semicolon. Some (line.Stmt (ended_by e semicolon.0), semicolon.1))
    else (if has_mark CloseBrace state then Some (line.Last e, state) else None)

unfoldable pub line_end_at : Start → Option Expr → State → Option (Line × State)
line_end_at (start.Empty span) value state = Some (line.Stmt (roll-Stmt (Stmt-F.Empty span)), state)
line_end_at (start.Let word mutable name ty equals) value state = initializer_of equals value >>= λ initializer. let_end_at word mutable name ty initializer state
line_end_at start.Blocky (Some e) state = blocky_end_at e state
line_end_at start.Plain (Some e) state = plain_end_at e state
line_end_at other value state = None

abbrev pub Reader : Type 0
Reader = Where → ℕ → State → Option (Expr × State)

-- With types of at most this depth, where expressions are read by `one`, in this place and up to this level.
module _ (depth : ℕ) (one : Reader) where
  abbrev pub whole_at : State → Option (Expr × State)
  whole_at state = one Anywhere loosest_level state

  unfoldable pub field_at : State → Option (FieldValue × State)
  field_at state = name_at state >>= λ name.
      if has_mark Colon name.1 then (punct_at Colon name.1 >>= λ colon. whole_at colon.1 >>= λ value. Some (roll-FieldValue (FieldValue-F.Named name.0 colon.0 value.0), value.1))
      else Some (roll-FieldValue (FieldValue-F.Short name.0), name.1)

  -- an expression up to this level, or none
  unfoldable pub value_at : Option ℕ → State → Option (Option Expr × State)
  value_at None state = Some (None, state)
  value_at (Some most) state = one Anywhere most state >>= λ x. Some (Some x.0, x.1)

  unfoldable pub line_in : State → Option (Line × State)
  line_in state = start_at depth state >>= λ x. value_at (line_wants x.0) x.1 >>= λ y. line_end_at x.0 y.0 y.1

  abbrev pub behind_line : Line → State → Option (Lines × State) → Option (Lines × State)
  behind_line (line.Stmt statement) state others = put_first statement others
  behind_line (line.Last e) state others = Some (([], Some e), state)

  unfoldable pub lines_in : ℕ → State → Option (Lines × State)
  lines_in zero state = None
  lines_in (suc fuel) state =
      if has_mark CloseBrace state then Some (([], None), state)
      else (line_in state >>= λ x. behind_line x.0 x.1 (lines_in fuel x.1))

  unfoldable pub block_in_at : State → Option (Block × State)
  block_in_at state = do
    opening ← punct_at OpenBrace state
    lines ← lines_in (length opening.1) opening.1
    closing ← punct_at CloseBrace lines.1
    Some (block_in opening.0 lines.0.0 lines.0.1 closing.0, closing.1)

  -- a block or an `if` behind `else`
  unfoldable pub branch_at : Span → State → Option (Else × State)
  branch_at at state =
      if has_keyword keyword_of.If state then (one Anywhere operand_alone state >>= λ branch. Some (roll-Else (Else-F.ElseIf at branch.0), branch.1))
      else (block_in_at state >>= λ body. Some (roll-Else (Else-F.ElseBlock at body.0), body.1))

  unfoldable pub else_at : State → Option (Option Else × State)
  else_at state =
      if has_keyword keyword_of.Else state then (keyword_at keyword_of.Else state >>= λ word. branch_at word.0 word.1 >>= λ x. Some (Some x.0, x.1))
      else Some (None, state)

  -- a condition and a block
  unfoldable pub tested_at : State → Option ((Expr × Block) × State)
  tested_at state = one Condition loosest_level state >>= λ condition. block_in_at condition.1 >>= λ body. Some ((condition.0, body.0), body.1)

  unfoldable pub got_at : Wanted → State → Option (Got × State)
  got_at wanted.Nothing state = Some (got.Nothing, state)
  got_at (wanted.One place most) state = one place most state >>= λ x. Some (got.One x.0, x.1)
  got_at (wanted.Values close) state = listed_at whole_at close state >>= λ x. Some (got.Values x.0.0 x.0.1, x.1)
  got_at wanted.Fields state = listed_at field_at CloseBrace state >>= λ x. Some (got.Fields x.0.0 x.0.1, x.1)
  got_at wanted.Body state = block_in_at state >>= λ x. Some (got.Body x.0, x.1)
  got_at wanted.Repeated state = tested_at state >>= λ x. Some (got.Repeated x.0.0 x.0.1, x.1)
  got_at wanted.Chosen state = tested_at state >>= λ x. else_at x.1 >>= λ y. Some (got.Chosen x.0.0 x.0.1 y.0, y.1)

  unfoldable pub operand_at : Where → State → Option (Expr × State)
  operand_at place state = front_at depth place state >>= λ x. got_at (wants x.0 place x.1) x.1 >>= λ y. finished_at x.0 y.0 y.1

  -- one step further behind this left operand
  unfoldable pub further_at : Where → Expr → State → Option (Expr × State)
  further_at place left state = step_at depth state >>= λ x. got_at (step_wants place x.0) x.1 >>= λ y. step_finished_at left x.0 y.0 y.1

  -- as far as it goes on, up to this level
  unfoldable pub longest_at : Where → ℕ → ℕ → Expr → State → Option (Expr × State)
  longest_at place most zero left state = None
  longest_at place most (suc fuel) left state =
      if goes_on (level_of left) most state then (further_at place left state >>= λ x. longest_at place most fuel x.0 x.1)
      else Some (left, state)

-- an expression in which expressions of one depth less stand
unfoldable pub expr_at : ℕ → Reader
expr_at zero place most state = None
expr_at (suc depth) place most state = operand_at depth (expr_at depth) place state >>= λ x. longest_at depth (expr_at depth) place most (suc depth) x.0 x.1

-- a block, and a statement or last expression, with expressions of at most this depth in it
unfoldable pub block_at : ℕ → State → Option (Block × State)
block_at depth state = block_in_at depth (expr_at depth) state

unfoldable pub line_at : ℕ → State → Option (Line × State)
line_at depth state = line_in depth (expr_at depth) state
