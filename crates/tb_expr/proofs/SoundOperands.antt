-- What is read stands there: behind the front of an operand.
use Rattle.std.proofs.Common.{◌≡◌, ℕ, suc, ◌≤◌, Bool, true, false, true≢false, if◌then◌else◌, List, [], ◌∷◌, length, Option, Some, None, refl, sym, subst, ap, ◌∙◌, inl, inr, arith}
use Rattle.tb_perm.specs.declared.span.Span.{Span}
use Rattle.tb_lex.specs.declared.keyword.Keyword.TheVariants as keyword_of
use Rattle.tb_lex.specs.declared.punctuation.Punctuation.{Punctuation}
use Rattle.tb_lex.specs.declared.punctuation.Punctuation.TheVariants.{OpenParen, CloseParen, OpenBracket, CloseBracket, CloseBrace, Semicolon}
use Rattle.tb_ast.specs.declared.leaf.Mark.{Mark}
use Rattle.tb_ast.specs.declared.expression.PrintText.{PrintText}
use Rattle.tb_ast.specs.declared.expression.Expr.{Expr, roll-Expr}
use Rattle.tb_ast.specs.declared.expression.Else.{Else}
use Rattle.tb_ast.specs.declared.expression.Block.{Block}
use Rattle.tb_ast.specs.declared.expression.Stmt.{Stmt}
use Rattle.tb_ast.specs.declared.expression.FieldValue.{FieldValue}
use Rattle.tb_ast.specs.declared.expression.Initializer.{Initializer}
use Rattle.tb_ast.specs.declared.expression.Else.TheOpen.{Expr-F}
use Rattle.tb_ast.specs.declared.expression.Else.TheViews.{out-roll-Expr}
use Rattle.tb_ast.specs.Pieces.{punct, keyword}
use Rattle.tb_syntax.specs.State.{State, Begins}
use Rattle.tb_syntax.specs.Marks.{punct_at, has_mark}
use Rattle.tb_syntax.specs.Leaves.{has_keyword}
use Rattle.tb_syntax.specs.Lists.{Listed}
use Rattle.tb_syntax.proofs.Options.{bind_some, chosen, some_is}
use Rattle.tb_syntax.proofs.Marks.{punct-sound}
use Rattle.tb_syntax.proofs.Listed.{begins-has}
use Rattle.tb_forms.specs.declared.place.Where.{Where}
use Rattle.tb_forms.specs.declared.place.Where.TheVariants.{Anywhere}
use Rattle.tb_forms.specs.declared.front.Front.{Front}
use Rattle.tb_forms.specs.declared.front.Front.TheVariants as front
use Rattle.tb_forms.specs.Beginnings.{begins_expr, begins_blocky}
use Rattle.tb_forms.specs.Levels.{tightest_level, prefix_level, loosest_level, level_in, level_of}
use Rattle.tb_forms.specs.Trees.{unary_to, borrow_to, return_to, unsafe_to, loop_to, while_to, if_to, struct_literal, call_of, print_of, panic_of, assert_of, array_in, repeat_in}
use Rattle.tb_forms.specs.Fronts.{front_at, optional_comma_at, IsFrontAt}
use Rattle.tb_forms.specs.Closings.{group_of, group_at, count_at, repeated_in, repeat_at, array_at, literal_at, call_at, print_at, assert_at}
use Rattle.tb_forms.specs.declared.wanted.Wanted.TheVariants as wanted
use Rattle.tb_forms.specs.declared.wanted.Got.{Got}
use Rattle.tb_forms.specs.Wants.{takes_values, wants, finished_at}
use Rattle.tb_expr.specs.Exprs.{Reader, got_at, operand_at}
use Rattle.tb_expr.specs.Grammar.{IsExprAt, ALiteral, APath, AStruct, ACall, AUnit, AParen, ATuple, AnArray, ARepeat, ABlocky, AReturn, AReturnOf, ABreak, AContinue, APrint, APanic, AnAssert, AUnary, ABorrow, IsWholeAt, IsBlockyAt, ABlock, AnUnsafe, AWhile, ALoop, AnIf, IsIfAt, If, AreExprsAt, NoExprs, LastExpr}
use Rattle.tb_forms.proofs.FrontSound.{front-sound}
use Rattle.tb_forms.proofs.Begins.{front-blocks, front-ifs, is_blocky, is_if}
use Rattle.tb_forms.proofs.Counts.{count-sound, comma-sound}
use Rattle.tb_expr.proofs.Got.{IsGot, GotNothing, GotOne, GotValues, GotFields, GotBody, GotRepeated, GotChosen, got-is}
use Rattle.tb_expr.proofs.Sound.{Sound, prefix-loosest, value-sound, exprs-take, fields-take}
use Rattle.tb_expr.proofs.SoundLines.{block-taken, tested-sound, else-sound}

-- an expression by its form
abbrev pub Form : Type 0
Form = Expr-F Else Expr FieldValue Stmt Block Initializer

-- the level of a form
pub level-roll : (row : Form) → level_of (roll-Expr row) ≡ level_in row
level-roll row = ap level_in (out-roll-Expr row)

-- operands bind as tightly as prefixes
tight-roll : (row : Form) → level_in row ≤ prefix_level → level_of (roll-Expr row) ≤ prefix_level
tight-roll row l = subst (λ n. n ≤ prefix_level) (sym (level-roll row)) l

tightest-prefix : tightest_level ≤ prefix_level
tightest-prefix = omega arith

prefix-prefix : prefix_level ≤ prefix_level
prefix-prefix = omega arith

-- what is read behind this front, from where the front begins
pub record IsOperand (place : Where) (f : Front) (start : State) (y : Expr × State) : Type 0 where
  pub is : IsExprAt place start y.0 y.1
  pub tight : level_of y.0 ≤ prefix_level
  pub blocky : is_blocky f ≡ true → IsBlockyAt start y.0 y.1
  pub ifs : is_if f ≡ true → IsIfAt start y.0 y.1

-- what is false is not true
untrue : {A : Type 0} (b : Bool) → b ≡ false → b ≡ true → A
untrue true e t = absurd cc
untrue false e t = absurd cc

-- without a block of its own
plain : (place : Where) (f : Front) (start : State) (row : Form) (rest : State) → is_blocky f ≡ false → is_if f ≡ false → level_in row ≤ prefix_level
    → IsExprAt place start (roll-Expr row) rest → IsOperand place f start (roll-Expr row, rest)
plain place f start row rest b i l is = record { is = is; tight = tight-roll row l; blocky = untrue (is_blocky f) b; ifs = untrue (is_if f) i }

-- what has a block of its own binds the tightest
if-tight : (state : State) (e : Expr) (rest : State) → IsIfAt state e rest → level_of e ≤ prefix_level
if-tight state e rest (If at condition body otherwise a b c begins w is o) = tight-roll _ tightest-prefix

blocky-tight : (state : State) (e : Expr) (rest : State) → IsBlockyAt state e rest → level_of e ≤ prefix_level
blocky-tight state e rest (ABlock body is) = tight-roll _ tightest-prefix
blocky-tight state e rest (AnUnsafe at body a begins is) = tight-roll _ tightest-prefix
blocky-tight state e rest (AWhile at condition body a b begins w is) = tight-roll _ tightest-prefix
blocky-tight state e rest (ALoop at body a begins is) = tight-roll _ tightest-prefix
blocky-tight state e rest (AnIf branch is) = if-tight state e rest is

-- with one, and no `if`
blocked : (place : Where) (f : Front) (start : State) (y : Expr × State) → is_if f ≡ false → IsBlockyAt start y.0 y.1 → IsOperand place f start y
blocked place f start y i is = record { is = ABlocky y.0 is; tight = blocky-tight start y.0 y.1 is; blocky = λ _. is; ifs = untrue (is_if f) i }

-- what lists of none, and of one without a comma, are
no-exprs : (close : Punctuation) (state : State) (commas : List Span) (rest : State) → AreExprsAt close state [] commas rest → state ≡ rest
no-exprs close state commas rest (NoExprs c) = refl

one-expr : (close : Punctuation) (state : State) (e : Expr) (rest : State) → AreExprsAt close state (e ∷ []) [] rest → IsWholeAt Anywhere loosest_level state e rest
one-expr close state e rest (LastExpr x w stop) = w

-- in round brackets: nothing, one expression, or a tuple
group-of : (place : Where) (opening : Span) (parts : List Expr) (commas : List Span) (closing : Span) (start state middle : State) (e : Expr) (rest : State)
    → Begins (punct OpenParen opening) start state → AreExprsAt CloseParen state parts commas middle → Begins (punct CloseParen closing) middle rest
    → group_of opening parts commas closing ≡ Some e → IsOperand place (front.Paren opening) start (e, rest)
group-of place opening [] commas closing start state middle e rest begins are ends q =
    let end : Begins (punct CloseParen closing) state rest = subst (λ s. Begins (punct CloseParen closing) s rest) (sym (no-exprs CloseParen state commas middle are)) ends in
    subst (λ t. IsOperand place (front.Paren opening) start (t, rest)) (some_is _ e q) (plain place (front.Paren opening) start _ rest refl refl tightest-prefix (AUnit opening closing state begins end))
group-of place opening (inner ∷ []) [] closing start state middle e rest begins are ends q =
    subst (λ t. IsOperand place (front.Paren opening) start (t, rest)) (some_is _ e q)
    (plain place (front.Paren opening) start _ rest refl refl tightest-prefix (AParen opening inner closing state middle begins (one-expr CloseParen state inner middle are) ends))
group-of place opening (inner ∷ []) (comma ∷ commas) closing start state middle e rest begins are ends q = absurd cc
group-of place opening (first ∷ second ∷ parts) commas closing start state middle e rest begins are ends q =
    let two : 2 ≤ suc (suc (length parts)) = omega arith in
    subst (λ t. IsOperand place (front.Paren opening) start (t, rest)) (some_is _ e q)
    (plain place (front.Paren opening) start _ rest refl refl tightest-prefix (ATuple opening (first ∷ second ∷ parts) commas closing state middle begins are two ends))

group-sound : (place : Where) (opening : Span) (parts : Listed Expr) (start state middle : State) (y : Expr × State)
    → Begins (punct OpenParen opening) start state → AreExprsAt CloseParen state parts.0 parts.1 middle → group_at opening parts middle ≡ Some y → IsOperand place (front.Paren opening) start y
unfolding group_at
group-sound place opening parts start state middle y begins are e =
    let closing = bind_some (punct_at CloseParen middle) _ y e in
    let x = bind_some (group_of opening parts.0 parts.1 closing.0.0) _ y closing.2 in
    subst (IsOperand place (front.Paren opening) start) (some_is (x.0, closing.0.1) y x.2)
    (group-of place opening parts.0 parts.1 closing.0.0 start state middle x.0 closing.0.1 begins are (punct-sound CloseParen middle closing.0.0 closing.0.1 closing.1) x.1)

-- one element alone
repeated-is : (elements : List Expr) (commas : List Span) (element : Expr) (state rest : State) → AreExprsAt CloseBracket state elements commas rest
    → repeated_in elements commas ≡ Some element → IsWholeAt Anywhere loosest_level state element rest
repeated-is (first ∷ []) [] element state rest are q =
    subst (λ t. IsWholeAt Anywhere loosest_level state t rest) (some_is first element q) (one-expr CloseBracket state first rest are)
repeated-is elements commas element state rest are q = absurd cc

-- in square brackets: one element and a number, or elements
repeat-sound : (place : Where) (opening : Span) (element : Expr) (start state middle : State) (y : Expr × State)
    → Begins (punct OpenBracket opening) start state → IsWholeAt Anywhere loosest_level state element middle → repeat_at opening element middle ≡ Some y → IsOperand place (front.Bracket opening) start y
unfolding repeat_at
repeat-sound place opening element start state middle y begins whole e =
    let semicolon = bind_some (punct_at Semicolon middle) _ y e in
    let count = bind_some (count_at semicolon.0.1) _ y semicolon.2 in
    let closing = bind_some (punct_at CloseBracket count.0.1) _ y count.2 in
    let counted = count-sound semicolon.0.1 count.0.0 count.0.1 count.1 in
    subst (IsOperand place (front.Bracket opening) start) (some_is (repeat_in opening element semicolon.0.0 count.0.0 closing.0.0, closing.0.1) y closing.2)
    (plain place (front.Bracket opening) start _ closing.0.1 refl refl tightest-prefix
    (ARepeat opening element semicolon.0.0 count.0.0 closing.0.0 state middle semicolon.0.1 count.0.1 begins whole (punct-sound Semicolon middle semicolon.0.0 semicolon.0.1 semicolon.1)
    counted.0 counted.1 (punct-sound CloseBracket count.0.1 closing.0.0 closing.0.1 closing.1)))

array-sound : (place : Where) (opening : Span) (elements : Listed Expr) (start state middle : State) (y : Expr × State)
    → Begins (punct OpenBracket opening) start state → AreExprsAt CloseBracket state elements.0 elements.1 middle → array_at opening elements middle ≡ Some y → IsOperand place (front.Bracket opening) start y
unfolding array_at
array-sound place opening elements start state middle y begins are e =
    elim (chosen (has_mark Semicolon middle) _ _ y e) [
      | inl k ↦
          let element = bind_some (repeated_in elements.0 elements.1) _ y k.1 in
          repeat-sound place opening element.0 start state middle y begins (repeated-is elements.0 elements.1 element.0 state middle are element.1) element.2
      | inr k ↦
          let closing = bind_some (punct_at CloseBracket middle) _ y k.1 in
          subst (IsOperand place (front.Bracket opening) start) (some_is (array_in opening elements.0 elements.1 closing.0.0, closing.0.1) y closing.2)
          (plain place (front.Bracket opening) start _ closing.0.1 refl refl tightest-prefix
          (AnArray opening elements.0 elements.1 closing.0.0 state middle begins are (punct-sound CloseBracket middle closing.0.0 closing.0.1 closing.1)))
    ]

module _ (depth : ℕ) (one : Reader) (h : Sound one) (place : Where) (start : State) where
  abbrev Goal : Front → Expr × State → Type 0
  Goal f y = IsOperand place f start y

  -- `return`, with the longest expression behind it or none
  return-sound : (at : Span) (state : State) (g : Got) (middle : State) (y : Expr × State) → Begins (keyword keyword_of.Return at) start state → (b : Bool) → begins_expr state ≡ b
      → IsGot depth one (if b then wanted.One place loosest_level else wanted.Nothing) state g middle → finished_at (front.Return at) g middle ≡ Some y → Goal (front.Return at) y
  unfolding finished_at
  return-sound at state g middle y begins true k (GotOne value read) e =
      subst (Goal (front.Return at)) (some_is (return_to at (Some value), middle) y e)
      (plain place (front.Return at) start _ middle refl refl tightest-prefix (AReturnOf at value state begins (h.whole place loosest_level state (value, middle) prefix-loosest read)))
  return-sound at state g middle y begins false k GotNothing e =
      subst (Goal (front.Return at)) (some_is (return_to at None, state) y e) (plain place (front.Return at) start _ state refl refl tightest-prefix (AReturn at begins k))

  -- a print, with values or none
  print-sound : (name : Span) (newline : Bool) (bang opening : Span) (text : Option PrintText) (state : State) (g : Got) (middle : State) (y : Expr × State)
      → IsFrontAt depth place start (front.Print name newline bang opening text) state → (b : Bool) → takes_values text ≡ b
      → IsGot depth one (if b then wanted.Values CloseParen else wanted.Nothing) state g middle → finished_at (front.Print name newline bang opening text) g middle ≡ Some y
      → Goal (front.Print name newline bang opening text) y
  unfolding finished_at print_at
  print-sound name newline bang opening text state g middle y is true k (GotValues values commas read) e =
      let closing = bind_some (punct_at CloseParen middle) _ y e in
      subst (Goal (front.Print name newline bang opening text)) (some_is (print_of name newline bang opening text values commas closing.0.0, closing.0.1) y closing.2)
      (plain place (front.Print name newline bang opening text) start _ closing.0.1 refl refl tightest-prefix
      (APrint name newline bang opening text values commas closing.0.0 state middle is (exprs-take depth one h CloseParen state ((values, commas), middle) read)
      (λ none. absurd (true≢false (sym k ∙ none))) (punct-sound CloseParen middle closing.0.0 closing.0.1 closing.1)))
  print-sound name newline bang opening text state g middle y is false k GotNothing e =
      let closing = bind_some (punct_at CloseParen state) _ y e in
      let ends = punct-sound CloseParen state closing.0.0 closing.0.1 closing.1 in
      let m : Mark = record { span = closing.0.0; glued = false } in
      subst (Goal (front.Print name newline bang opening text)) (some_is (print_of name newline bang opening text [] [] closing.0.0, closing.0.1) y closing.2)
      (plain place (front.Print name newline bang opening text) start _ closing.0.1 refl refl tightest-prefix
      (APrint name newline bang opening text [] [] closing.0.0 state state is (NoExprs (begins-has CloseParen m state closing.0.1 ends)) (λ _. refl) ends))

  -- each front
  behind-front-sound : (f : Front) (state : State) (g : Got) (middle : State) (y : Expr × State) → IsFrontAt depth place start f state → IsGot depth one (wants f place state) state g middle
      → finished_at f g middle ≡ Some y → Goal f y
  unfolding wants finished_at literal_at call_at assert_at
  behind-front-sound (front.Literal value) state g middle y is GotNothing e =
      subst (Goal (front.Literal value)) (some_is (roll-Expr (Expr-F.Literal value), state) y e) (plain place (front.Literal value) start _ state refl refl tightest-prefix (ALiteral value is))
  behind-front-sound (front.Path path) state g middle y is GotNothing e =
      subst (Goal (front.Path path)) (some_is (roll-Expr (Expr-F.Path path), state) y e) (plain place (front.Path path) start _ state refl refl tightest-prefix (APath path depth is))
  behind-front-sound (front.StructLiteral path opening) state g middle y is (GotFields fields commas read) e =
      let closing = bind_some (punct_at CloseBrace middle) _ y e in
      subst (Goal (front.StructLiteral path opening)) (some_is (struct_literal path opening fields commas closing.0.0, closing.0.1) y closing.2)
      (plain place (front.StructLiteral path opening) start _ closing.0.1 refl refl tightest-prefix
      (AStruct path opening fields commas closing.0.0 state middle is (fields-take depth one h state ((fields, commas), middle) read) (punct-sound CloseBrace middle closing.0.0 closing.0.1 closing.1)))
  behind-front-sound (front.Call callee opening) state g middle y is (GotValues arguments commas read) e =
      let closing = bind_some (punct_at CloseParen middle) _ y e in
      subst (Goal (front.Call callee opening)) (some_is (call_of callee opening arguments commas closing.0.0, closing.0.1) y closing.2)
      (plain place (front.Call callee opening) start _ closing.0.1 refl refl tightest-prefix
      (ACall callee depth opening arguments commas closing.0.0 state middle is (exprs-take depth one h CloseParen state ((arguments, commas), middle) read)
      (punct-sound CloseParen middle closing.0.0 closing.0.1 closing.1)))
  behind-front-sound (front.Paren opening) state g middle y is (GotValues parts commas read) e =
      group-sound place opening (parts, commas) start state middle y is (exprs-take depth one h CloseParen state ((parts, commas), middle) read) e
  behind-front-sound (front.Bracket opening) state g middle y is (GotValues elements commas read) e =
      array-sound place opening (elements, commas) start state middle y is (exprs-take depth one h CloseBracket state ((elements, commas), middle) read) e
  behind-front-sound front.Block state g middle y is (GotBody body read) e =
      let same : start ≡ state = is.1 in
      subst (Goal front.Block) (some_is (roll-Expr (Expr-F.Block body), middle) y e)
      (blocked place front.Block start (roll-Expr (Expr-F.Block body), middle) refl
      (subst (λ s. IsBlockyAt s (roll-Expr (Expr-F.Block body)) middle) (sym same) (ABlock body (block-taken depth one h state (body, middle) read))))
  behind-front-sound (front.Unsafe at) state g middle y is (GotBody body read) e =
      subst (Goal (front.Unsafe at)) (some_is (unsafe_to at body, middle) y e)
      (blocked place (front.Unsafe at) start (unsafe_to at body, middle) refl (AnUnsafe at body state is (block-taken depth one h state (body, middle) read)))
  behind-front-sound (front.While at) state g middle y is (GotRepeated condition body read) e =
      let t = tested-sound depth one h state ((condition, body), middle) read in
      subst (Goal (front.While at)) (some_is (while_to at condition body, middle) y e)
      (blocked place (front.While at) start (while_to at condition body, middle) refl (AWhile at condition body state t.0 is t.1 t.2))
  behind-front-sound (front.Loop at) state g middle y is (GotBody body read) e =
      subst (Goal (front.Loop at)) (some_is (loop_to at body, middle) y e)
      (blocked place (front.Loop at) start (loop_to at body, middle) refl (ALoop at body state is (block-taken depth one h state (body, middle) read)))
  behind-front-sound (front.If at) state g middle y is (GotChosen condition body otherwise a read more) e =
      let t = tested-sound depth one h state ((condition, body), a) read in
      let branch = If at condition body otherwise state t.0 a is t.1 t.2 (else-sound depth one h a (otherwise, middle) more) in
      let x = if_to at condition body otherwise in
      subst (Goal (front.If at)) (some_is (x, middle) y e)
      (record { is = ABlocky x (AnIf x branch); tight = if-tight start x middle branch; blocky = λ _. AnIf x branch; ifs = λ _. branch })
  behind-front-sound (front.Return at) state g middle y is read e = return-sound at state g middle y is (begins_expr state) refl read e
  behind-front-sound (front.Break span) state g middle y is GotNothing e =
      subst (Goal (front.Break span)) (some_is (roll-Expr (Expr-F.Break span), state) y e) (plain place (front.Break span) start _ state refl refl tightest-prefix (ABreak span is))
  behind-front-sound (front.Continue span) state g middle y is GotNothing e =
      subst (Goal (front.Continue span)) (some_is (roll-Expr (Expr-F.Continue span), state) y e) (plain place (front.Continue span) start _ state refl refl tightest-prefix (AContinue span is))
  behind-front-sound (front.Print name newline bang opening text) state g middle y is read e = print-sound name newline bang opening text state g middle y is (takes_values text) refl read e
  behind-front-sound (front.Panic name bang opening text closing) state g middle y is GotNothing e =
      subst (Goal (front.Panic name bang opening text closing)) (some_is (panic_of name bang opening text closing, state) y e)
      (plain place (front.Panic name bang opening text closing) start _ state refl refl tightest-prefix (APanic name bang opening text closing is))
  behind-front-sound (front.Assert name bang opening) state g middle y is (GotOne condition read) e =
      let comma = bind_some (optional_comma_at middle) _ y e in
      let closing = bind_some (punct_at CloseParen comma.0.1) _ y comma.2 in
      subst (Goal (front.Assert name bang opening)) (some_is (assert_of name bang opening condition comma.0.0 closing.0.0, closing.0.1) y closing.2)
      (plain place (front.Assert name bang opening) start _ closing.0.1 refl refl tightest-prefix
      (AnAssert name bang opening condition comma.0.0 closing.0.0 state middle comma.0.1 is (value-sound depth one h state (condition, middle) read)
      (comma-sound middle comma.0.0 comma.0.1 comma.1) (punct-sound CloseParen comma.0.1 closing.0.0 closing.0.1 closing.1)))
  behind-front-sound (front.Unary operator at) state g middle y is (GotOne operand read) e =
      subst (Goal (front.Unary operator at)) (some_is (unary_to operator at operand, middle) y e)
      (plain place (front.Unary operator at) start _ middle refl refl prefix-prefix (AUnary operator at operand state is (h.whole place prefix_level state (operand, middle) prefix-prefix read)))
  behind-front-sound (front.Borrow and kind) state g middle y is (GotOne operand read) e =
      subst (Goal (front.Borrow and kind)) (some_is (borrow_to and kind operand, middle) y e)
      (plain place (front.Borrow and kind) start _ middle refl refl prefix-prefix (ABorrow and kind operand state is (h.whole place prefix_level state (operand, middle) prefix-prefix read)))

-- what an operand is
pub operand-sound : (depth : ℕ) (one : Reader) (h : Sound one) (place : Where) (state : State) (y : Expr × State) → operand_at depth one place state ≡ Some y
    → (f : Front) × (begins_blocky state ≡ is_blocky f) × (has_keyword keyword_of.If state ≡ is_if f) × IsOperand place f state y
unfolding operand_at
operand-sound depth one h place state y e =
    let f = bind_some (front_at depth place state) _ y e in
    let is = front-sound depth place state f.0.0 f.0.1 f.1 in
    let g = bind_some (got_at depth one (wants f.0.0 place f.0.1) f.0.1) _ y f.2 in
    let got_there = got-is depth one (wants f.0.0 place f.0.1) f.0.1 g.0 g.1 in
    (f.0.0, front-blocks depth place state f.0.0 f.0.1 is, front-ifs depth place state f.0.0 f.0.1 is, behind-front-sound depth one h place state f.0.0 f.0.1 g.0.0 g.0.1 y is got_there g.2)
