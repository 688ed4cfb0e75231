-- What is read stands there: statements, blocks, and what stands behind `if`, `while` and `else`.
use Rattle.std.proofs.Common.{◌≡◌, ◌⊎◌, ℕ, zero, suc, true, false, [], ◌∷◌, length, Option, Some, None, refl, subst, inl, inr}
use Rattle.tb_perm.specs.declared.span.Span.{Span}
use Rattle.tb_lex.specs.declared.keyword.Keyword.TheVariants as keyword_of
use Rattle.tb_lex.specs.declared.punctuation.Punctuation.TheVariants.{OpenBrace, CloseBrace, Semicolon, Eq}
use Rattle.tb_ast.specs.declared.leaf.Mark.{Mark}
use Rattle.tb_ast.specs.declared.leaf.Ident.{Ident}
use Rattle.tb_ast.specs.declared.written.TypeNote.{TypeNote}
use Rattle.tb_ast.specs.declared.expression.Expr.{Expr}
use Rattle.tb_ast.specs.declared.expression.Else.{Else, roll-Else}
use Rattle.tb_ast.specs.declared.expression.Block.{Block}
use Rattle.tb_ast.specs.declared.expression.Stmt.{Stmt, roll-Stmt}
use Rattle.tb_ast.specs.declared.expression.Initializer.{Initializer}
use Rattle.tb_ast.specs.declared.expression.Else.TheOpen.{Else-F, Stmt-F}
use Rattle.tb_ast.specs.Pieces.{punct, mark, keyword, ident, optional_keyword}
use Rattle.tb_ast.specs.Types.{note_pieces}
use Rattle.tb_syntax.specs.State.{State, Begins, Stands}
use Rattle.tb_syntax.specs.Marks.{mark_at, punct_at, has_mark}
use Rattle.tb_syntax.specs.Leaves.{keyword_at, has_keyword, name_at, optional_keyword_at}
use Rattle.tb_syntax.specs.Paths.{from_to}
use Rattle.tb_syntax.specs.Notes.{note_at, IsNote, NoteEnds}
use Rattle.tb_syntax.proofs.Options.{bind_some, kept, chosen, some_is}
use Rattle.tb_syntax.proofs.Marks.{mark-sound, punct-sound}
use Rattle.tb_syntax.proofs.Tokens.{keyword-sound, name-sound}
use Rattle.tb_syntax.proofs.Fronts.{optional-keyword-sound}
use Rattle.tb_syntax.proofs.Noted.{note-sound}
use Rattle.tb_forms.specs.declared.place.Where.TheVariants.{Anywhere, Condition}
use Rattle.tb_forms.specs.Levels.{operand_alone, loosest_level}
use Rattle.tb_forms.specs.Beginnings.{begins_blocky}
use Rattle.tb_expr.specs.declared.start.Start.{Start}
use Rattle.tb_expr.specs.declared.start.Start.TheVariants as start
use Rattle.tb_expr.specs.declared.lines.Line.{Line}
use Rattle.tb_expr.specs.declared.lines.Line.TheVariants as line
use Rattle.tb_expr.specs.Exprs.{Reader, Lines, put_first, block_in, ended_by, equals_at, let_start_at, start_at, line_wants, let_end_at, blocky_end_at, plain_end_at, line_end_at, value_at, line_in, behind_line, lines_in, block_in_at, branch_at, else_at, tested_at}
use Rattle.tb_expr.specs.Grammar.{IsWholeAt, IsElseAt, NoElse, ElseBlock, ElseIf, IsBlockAt, Braced, AreLinesAt, NoLines, LastLine, MoreLines, BlockyValue, PlainValue, EmptyStmt, LetStmt, PlainStmt, BlockyStmt, IsLineAt, NoInitializer, AnInitializer}
use Rattle.tb_expr.proofs.Got.{IsValue, NoValue, AValue, value-is}
use Rattle.tb_expr.proofs.Sound.{Sound, prefix-loosest, value-sound}

-- one statement before lines that are read
put_some : (statement : Stmt) (others : Option (Lines × State)) (y : Lines × State) → put_first statement others ≡ Some y
    → (z : Lines × State) × (others ≡ Some z) × (((statement ∷ z.0.0, z.0.1), z.1) ≡ y)
put_some statement None y e = absurd cc
put_some statement (Some z) y e = (z, refl, some_is ((statement ∷ z.0.0, z.0.1), z.1) y e)

-- What a line begins with.

pub data IsStart (depth : ℕ) : State → Start → State → Type 0 where
  StartEmpty : {state rest : State} (span : Span) → Begins (punct Semicolon span) state rest → IsStart depth state (start.Empty span) rest
  -- without a value, and with one
  StartLet : {state rest : State} (word : Span) (mutable : Option Span) (name : Ident) (ty : Option TypeNote) (a b c : State)
      → Begins (keyword keyword_of.Let word) state a → Stands (optional_keyword keyword_of.Mut mutable) a b → Begins (ident name) b c
      → Stands (note_pieces ty) c rest → IsNote depth ty → NoteEnds ty rest → has_mark Eq rest ≡ false → IsStart depth state (start.Let word mutable name ty None) rest
  StartLetOf : {state rest : State} (word : Span) (mutable : Option Span) (name : Ident) (ty : Option TypeNote) (equals : Mark) (a b c d : State)
      → Begins (keyword keyword_of.Let word) state a → Stands (optional_keyword keyword_of.Mut mutable) a b → Begins (ident name) b c
      → Stands (note_pieces ty) c d → IsNote depth ty → NoteEnds ty d → Begins (mark Eq equals) d rest → IsStart depth state (start.Let word mutable name ty (Some equals)) rest
  StartBlocky : {state : State} → begins_blocky state ≡ true → IsStart depth state start.Blocky state
  StartPlain : {state : State} → begins_blocky state ≡ false → IsStart depth state start.Plain state

-- `=` comes next or not
equals-ways : (state : State) (z : Option Mark × State) → equals_at state ≡ Some z
    → ((has_mark Eq state ≡ false) × ((None, state) ≡ z)) ⊎ ((m : Mark × State) × Begins (mark Eq m.0) state m.1 × ((Some m.0, m.1) ≡ z))
unfolding equals_at
equals-ways state z e =
    elim (chosen (has_mark Eq state) _ _ z e) [
      | inl k ↦
          let m = bind_some (mark_at Eq state) _ z k.1 in
          inr (m.0, mark-sound Eq state m.0.0 m.0.1 m.1, some_is (Some m.0.0, m.0.1) z m.2)
      | inr k ↦ inl (k.0, some_is (None, state) z k.1)
    ]

-- a `let` with a value or without
let-made : (depth : ℕ) (state : State) (word : Span) (mutable : Option Span) (name : Ident) (ty : Option TypeNote) (a b c d : State) (z : Option Mark × State)
    → Begins (keyword keyword_of.Let word) state a → Stands (optional_keyword keyword_of.Mut mutable) a b → Begins (ident name) b c → Stands (note_pieces ty) c d → IsNote depth ty → NoteEnds ty d
    → ((has_mark Eq d ≡ false) × ((None, d) ≡ z)) ⊎ ((m : Mark × State) × Begins (mark Eq m.0) d m.1 × ((Some m.0, m.1) ≡ z))
    → IsStart depth state (start.Let word mutable name ty z.0) z.1
let-made depth state word mutable name ty a b c d z first second third fourth noted ends (inl k) =
    let made : Option Mark × State → Type 0 = λ x. IsStart depth state (start.Let word mutable name ty x.0) x.1 in
    subst made k.1 (StartLet word mutable name ty a b c first second third fourth noted ends k.0)
let-made depth state word mutable name ty a b c d z first second third fourth noted ends (inr k) =
    let made : Option Mark × State → Type 0 = λ x. IsStart depth state (start.Let word mutable name ty x.0) x.1 in
    subst made k.2 (StartLetOf word mutable name ty k.0.0 a b c d first second third fourth noted ends k.1)

let-start-is : (depth : ℕ) (state : State) (y : Start × State) → let_start_at depth state ≡ Some y → IsStart depth state y.0 y.1
unfolding let_start_at
let-start-is depth state y e =
    let is : Start × State → Type 0 = λ z. IsStart depth state z.0 z.1 in
    let at = bind_some (keyword_at keyword_of.Let state) _ y e in
    let mutable = bind_some (optional_keyword_at keyword_of.Mut at.0.1) _ y at.2 in
    let name = bind_some (name_at mutable.0.1) _ y mutable.2 in
    let note = bind_some (note_at depth name.0.1) _ y name.2 in
    let equals = bind_some (equals_at note.0.1) _ y note.2 in
    let noted = note-sound depth name.0.1 note.0 note.1 in
    subst is (some_is (start.Let at.0.0 mutable.0.0 name.0.0 note.0.0 equals.0.0, equals.0.1) y equals.2)
    (let-made depth state at.0.0 mutable.0.0 name.0.0 note.0.0 at.0.1 mutable.0.1 name.0.1 note.0.1 equals.0
    (keyword-sound keyword_of.Let state at.0.0 at.0.1 at.1) (optional-keyword-sound keyword_of.Mut at.0.1 mutable.0.0 mutable.0.1 mutable.1)
    (name-sound mutable.0.1 name.0.0 name.0.1 name.1) noted.0 noted.1 noted.2 (equals-ways note.0.1 equals.0 equals.1))

start-is : (depth : ℕ) (state : State) (y : Start × State) → start_at depth state ≡ Some y → IsStart depth state y.0 y.1
unfolding start_at
start-is depth state y e =
    let is : Start × State → Type 0 = λ z. IsStart depth state z.0 z.1 in
    elim (chosen (has_mark Semicolon state) _ _ y e) [
      | inl k ↦
          let semicolon = bind_some (punct_at Semicolon state) _ y k.1 in
          subst is (some_is (start.Empty semicolon.0.0, semicolon.0.1) y semicolon.2) (StartEmpty semicolon.0.0 (punct-sound Semicolon state semicolon.0.0 semicolon.0.1 semicolon.1))
      | inr k ↦ elim (chosen (has_keyword keyword_of.Let state) _ _ y k.1) [
        | inl l ↦ let-start-is depth state y l.1
        | inr l ↦ elim (chosen (begins_blocky state) _ _ y l.1) [
          | inl b ↦ subst is (some_is (start.Blocky, state) y b.1) (StartBlocky b.0)
          | inr b ↦ subst is (some_is (start.Plain, state) y b.1) (StartPlain b.0)
        ]
      ]
    ]

-- how a line ends
let-ends : (word : Span) (mutable : Option Span) (name : Ident) (ty : Option TypeNote) (value : Option Initializer) (state : State) (y : Line × State) → let_end_at word mutable name ty value state ≡ Some y
    → (semicolon : Span × State) × Begins (punct Semicolon semicolon.0) state semicolon.1 × ((line.Stmt (roll-Stmt (Stmt-F.Let (from_to word semicolon.0) word mutable name ty value semicolon.0)), semicolon.1) ≡ y)
let-ends word mutable name ty value state y e =
    let semicolon = bind_some (punct_at Semicolon state) _ y e in
    (semicolon.0, punct-sound Semicolon state semicolon.0.0 semicolon.0.1 semicolon.1, some_is _ y semicolon.2)

module _ (depth : ℕ) (one : Reader) (h : Sound one) where
  blocky-ends : (state : State) (e : Expr) (rest : State) (y : Line × State) → begins_blocky state ≡ true → one Anywhere operand_alone state ≡ Some (e, rest) → blocky_end_at e rest ≡ Some y → IsLineAt state y.0 y.1
  blocky-ends state e rest y begins r end =
      let is : Line × State → Type 0 = λ z. IsLineAt state z.0 z.1 in
      let blocky = h.blocky state (e, rest) begins r in
      elim (chosen (has_mark CloseBrace rest) _ _ y end) [
        | inl k ↦ subst is (some_is (line.Last e, rest) y k.1) (BlockyValue e blocky k.0)
        | inr k ↦ subst is (some_is (line.Stmt (roll-Stmt (Stmt-F.Blocky e)), rest) y k.1) (BlockyStmt e blocky k.0)
      ]

  plain-ends : (state : State) (e : Expr) (rest : State) (y : Line × State) → begins_blocky state ≡ false → one Anywhere loosest_level state ≡ Some (e, rest) → plain_end_at e rest ≡ Some y → IsLineAt state y.0 y.1
  plain-ends state e rest y begins r end =
      let is : Line × State → Type 0 = λ z. IsLineAt state z.0 z.1 in
      let value = value-sound depth one h state (e, rest) r in
      elim (chosen (has_mark Semicolon rest) _ _ y end) [
        | inl k ↦
            let semicolon = bind_some (punct_at Semicolon rest) _ y k.1 in
            subst is (some_is (line.Stmt (ended_by e semicolon.0.0), semicolon.0.1) y semicolon.2)
            (PlainStmt e semicolon.0.0 rest begins value (punct-sound Semicolon rest semicolon.0.0 semicolon.0.1 semicolon.1))
        | inr k ↦
            let close = kept (has_mark CloseBrace rest) (Some (line.Last e, rest)) y k.1 in
            subst is (some_is (line.Last e, rest) y close.1) (PlainValue e begins value close.0)
      ]

  -- by what the line begins with
  line-ends : (state : State) (x : Start) (a : State) (v : Option Expr) (b : State) (y : Line × State) → IsStart depth state x a → IsValue depth one (line_wants x) a v b
      → line_end_at x v b ≡ Some y → IsLineAt state y.0 y.1
  unfolding line_wants line_end_at
  line-ends state x a v b y (StartEmpty span first) NoValue e =
      let is : Line × State → Type 0 = λ z. IsLineAt state z.0 z.1 in
      subst is (some_is (line.Stmt (roll-Stmt (Stmt-F.Empty span)), a) y e) (EmptyStmt span first)
  line-ends state x rest v b y (StartLet word mutable name ty p q r first second third fourth noted ends stop) NoValue e =
      let is : Line × State → Type 0 = λ z. IsLineAt state z.0 z.1 in
      let end = let-ends word mutable name ty None rest y e in
      subst is end.2 (LetStmt word mutable name ty depth None end.0.0 p q r rest rest first second third fourth noted ends (NoInitializer stop) end.1)
  line-ends state x a v b y (StartLetOf word mutable name ty equals p q r d first second third fourth noted ends sign) (AValue value read) e =
      let is : Line × State → Type 0 = λ z. IsLineAt state z.0 z.1 in
      let end = let-ends word mutable name ty _ b y e in
      subst is end.2 (LetStmt word mutable name ty depth _ end.0.0 p q r d b first second third fourth noted ends
      (AnInitializer equals value a sign (value-sound depth one h a (value, b) read)) end.1)
  line-ends state x a v b y (StartBlocky begins) (AValue value read) e = blocky-ends state value b y begins read e
  line-ends state x a v b y (StartPlain begins) (AValue value read) e = plain-ends state value b y begins read e

  pub line-taken : (state : State) (y : Line × State) → line_in depth one state ≡ Some y → IsLineAt state y.0 y.1
  unfolding line_in
  line-taken state y e =
      let x = bind_some (start_at depth state) _ y e in
      let v = bind_some (value_at depth one (line_wants x.0.0) x.0.1) _ y x.2 in
      line-ends state x.0.0 x.0.1 v.0.0 v.0.1 y (start-is depth state x.0 x.1) (value-is depth one (line_wants x.0.0) x.0.1 v.0 v.1) v.2

  -- a line before others, or the last one
  behind-line-sound : (l : Line) (start state : State) (others : Option (Lines × State)) (y : Lines × State) → IsLineAt start l state
      → ((z : Lines × State) → others ≡ Some z → AreLinesAt state z.0.0 z.0.1 z.1) → behind_line depth one l state others ≡ Some y → AreLinesAt start y.0.0 y.0.1 y.1
  behind-line-sound (line.Stmt statement) start state others y first more e =
      let are : Lines × State → Type 0 = λ z. AreLinesAt start z.0.0 z.0.1 z.1 in
      let z = put_some statement others y e in
      subst are z.2 (MoreLines statement z.0.0.0 z.0.0.1 state first (more z.0 z.1))
  behind-line-sound (line.Last value) start state others y first more e =
      let are : Lines × State → Type 0 = λ z. AreLinesAt start z.0.0 z.0.1 z.1 in
      subst are (some_is (([], Some value), state) y e) (LastLine value first)

  -- lines, and a block
  lines-take : (fuel : ℕ) (state : State) (y : Lines × State) → lines_in depth one fuel state ≡ Some y → AreLinesAt state y.0.0 y.0.1 y.1
  unfolding lines_in
  lines-take zero state y e = absurd cc
  lines-take (suc fuel) state y e =
      let are : Lines × State → Type 0 = λ z. AreLinesAt state z.0.0 z.0.1 z.1 in
      elim (chosen (has_mark CloseBrace state) _ _ y e) [
        | inl k ↦ subst are (some_is (([], None), state) y k.1) (NoLines k.0)
        | inr k ↦
            let x = bind_some (line_in depth one state) _ y k.1 in
            behind-line-sound x.0.0 state x.0.1 (lines_in depth one fuel x.0.1) y (line-taken state x.0 x.1) (lines-take fuel x.0.1) x.2
      ]

  pub block-taken : (state : State) (y : Block × State) → block_in_at depth one state ≡ Some y → IsBlockAt state y.0 y.1
  unfolding block_in_at
  block-taken state y e =
      let is : Block × State → Type 0 = λ z. IsBlockAt state z.0 z.1 in
      let opening = bind_some (punct_at OpenBrace state) _ y e in
      let lines = bind_some (lines_in depth one (length opening.0.1) opening.0.1) _ y opening.2 in
      let closing = bind_some (punct_at CloseBrace lines.0.1) _ y lines.2 in
      subst is (some_is (block_in opening.0.0 lines.0.0.0 lines.0.0.1 closing.0.0, closing.0.1) y closing.2)
      (Braced opening.0.0 lines.0.0.0 lines.0.0.1 closing.0.0 opening.0.1 lines.0.1 (punct-sound OpenBrace state opening.0.0 opening.0.1 opening.1)
      (lines-take (length opening.0.1) opening.0.1 lines.0 lines.1) (punct-sound CloseBrace lines.0.1 closing.0.0 closing.0.1 closing.1))

  -- what stands behind a block of an `if`
  branch-sound : (at : Span) (start state : State) (y : Else × State) → Begins (keyword keyword_of.Else at) start state → branch_at depth one at state ≡ Some y → IsElseAt start (Some y.0) y.1
  unfolding branch_at
  branch-sound at start state y begins e =
      let is : Else × State → Type 0 = λ z. IsElseAt start (Some z.0) z.1 in
      elim (chosen (has_keyword keyword_of.If state) _ _ y e) [
        | inl k ↦
            let branch = bind_some (one Anywhere operand_alone state) _ y k.1 in
            subst is (some_is (roll-Else (Else-F.ElseIf at branch.0.0), branch.0.1) y branch.2) (ElseIf at branch.0.0 state begins (h.ifs state branch.0 k.0 branch.1))
        | inr k ↦
            let body = bind_some (block_in_at depth one state) _ y k.1 in
            subst is (some_is (roll-Else (Else-F.ElseBlock at body.0.0), body.0.1) y body.2) (ElseBlock at body.0.0 state begins (block-taken state body.0 body.1))
      ]

  pub else-sound : (state : State) (y : Option Else × State) → else_at depth one state ≡ Some y → IsElseAt state y.0 y.1
  unfolding else_at
  else-sound state y e =
      let is : Option Else × State → Type 0 = λ z. IsElseAt state z.0 z.1 in
      elim (chosen (has_keyword keyword_of.Else state) _ _ y e) [
        | inl k ↦
            let at = bind_some (keyword_at keyword_of.Else state) _ y k.1 in
            let x = bind_some (branch_at depth one at.0.0 at.0.1) _ y at.2 in
            subst is (some_is (Some x.0.0, x.0.1) y x.2) (branch-sound at.0.0 state at.0.1 x.0 (keyword-sound keyword_of.Else state at.0.0 at.0.1 at.1) x.1)
        | inr k ↦ subst is (some_is (None, state) y k.1) (NoElse k.0)
      ]

  -- a condition and a block
  pub tested-sound : (state : State) (y : (Expr × Block) × State) → tested_at depth one state ≡ Some y → (a : State) × IsWholeAt Condition loosest_level state y.0.0 a × IsBlockAt a y.0.1 y.1
  unfolding tested_at
  tested-sound state y e =
      let is : (Expr × Block) × State → Type 0 = λ z. (a : State) × IsWholeAt Condition loosest_level state z.0.0 a × IsBlockAt a z.0.1 z.1 in
      let condition = bind_some (one Condition loosest_level state) _ y e in
      let body = bind_some (block_in_at depth one condition.0.1) _ y condition.2 in
      subst is (some_is ((condition.0.0, body.0.0), body.0.1) y body.2)
      (condition.0.1, h.whole Condition loosest_level state condition.0 prefix-loosest condition.1, block-taken condition.0.1 body.0 body.1)
