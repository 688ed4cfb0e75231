-- What stands first in an expression.
use Rattle.std.proofs.Common.{◌≡◌, ℕ, true, false, refl, ◌∙◌}
use Rattle.tb_lex.specs.declared.keyword.Keyword.TheVariants as keyword_of
use Rattle.tb_lex.specs.declared.punctuation.Punctuation.TheVariants.{OpenBrace}
use Rattle.tb_ast.specs.declared.leaf.Mark.{Mark}
use Rattle.tb_ast.specs.declared.expression.Expr.{Expr}
use Rattle.tb_ast.specs.declared.expression.Block.{Block}
use Rattle.tb_syntax.specs.State.{State}
use Rattle.tb_syntax.specs.Marks.{has_mark}
use Rattle.tb_syntax.specs.Leaves.{has_keyword}
use Rattle.tb_syntax.proofs.Listed.{begins-has}
use Rattle.tb_forms.specs.declared.place.Where.TheVariants.{Anywhere}
use Rattle.tb_forms.specs.declared.place.Where.{Where}
use Rattle.tb_forms.specs.declared.front.Front.{Front}
use Rattle.tb_forms.specs.declared.front.Front.TheVariants as front
use Rattle.tb_forms.specs.Beginnings.{begins_expr, begins_blocky}
use Rattle.tb_forms.specs.Fronts.{IsFrontAt}
use Rattle.tb_expr.specs.Grammar.{IsExprAt, ALiteral, APath, AStruct, ACall, AUnit, AParen, ATuple, AnArray, ARepeat, ABlocky, AReturn, AReturnOf, ABreak, AContinue, APrint, APanic, AnAssert, AUnary, ABorrow, AField, ATupleField, AMethod, AnIndex, ACast, ABinary, AnAssign, AnAssignOp, IsBlockyAt, ABlock, AnUnsafe, AWhile, ALoop, AnIf, IsIfAt, If, IsBlockAt, Braced}
use Rattle.tb_forms.proofs.Begins.{front-begins, front-blocks, front-ifs, is_blocky}

-- the front of an operand stands first
record Fronted (place : Where) (state : State) : Type 0 where
  depth : ℕ
  first : Front
  rest : State
  is : IsFrontAt depth place state first rest

abbrev fronted : (depth : ℕ) (place : Where) (state : State) (f : Front) (rest : State) → IsFrontAt depth place state f rest → Fronted place state
fronted depth place state f rest h = record { depth = depth; first = f; rest = rest; is = h }

-- a block begins with `{`
block-opens : (state : State) (body : Block) (rest : State) → IsBlockAt state body rest → has_mark OpenBrace state ≡ true
block-opens state body rest (Braced opening statements last closing a b begins lines ends) =
    let m : Mark = record { span = opening; glued = false } in
    begins-has OpenBrace m state a begins

-- the front of an operand with a block of its own
record Blocked (place : Where) (state : State) : Type 0 where
  front : Fronted place state
  blocky : is_blocky front.first ≡ true

-- what has a block of its own begins with such a front
blocky-front : (place : Where) (state : State) (e : Expr) (rest : State) → IsBlockyAt state e rest → Blocked place state
blocky-front place state e rest (ABlock body is) = record { front = fronted 0 place state front.Block state (block-opens state body rest is, refl); blocky = refl }
blocky-front place state e rest (AnUnsafe at body a begins is) = record { front = fronted 0 place state (front.Unsafe at) a begins; blocky = refl }
blocky-front place state e rest (AWhile at condition body a b begins w is) = record { front = fronted 0 place state (front.While at) a begins; blocky = refl }
blocky-front place state e rest (ALoop at body a begins is) = record { front = fronted 0 place state (front.Loop at) a begins; blocky = refl }
blocky-front place state e rest (AnIf branch (If at condition body otherwise a b c begins w is o)) = record { front = fronted 0 place state (front.If at) a begins; blocky = refl }

-- the first operand of an expression has a front
expr-front : (place : Where) (state : State) (e : Expr) (rest : State) → IsExprAt place state e rest → Fronted place state
expr-front place state e rest (ALiteral value begins) = fronted 0 place state (front.Literal value) rest begins
expr-front place state e rest (APath path depth is) = fronted depth place state (front.Path path) rest is
expr-front place state e rest (AStruct path opening fields commas closing a b is f c) = fronted 0 place state (front.StructLiteral path opening) a is
expr-front place state e rest (ACall callee depth opening arguments commas closing a b is f c) = fronted depth place state (front.Call callee opening) a is
expr-front place state e rest (AUnit opening closing a begins c) = fronted 0 place state (front.Paren opening) a begins
expr-front place state e rest (AParen opening inner closing a b begins w c) = fronted 0 place state (front.Paren opening) a begins
expr-front place state e rest (ATuple opening parts commas closing a b begins f two c) = fronted 0 place state (front.Paren opening) a begins
expr-front place state e rest (AnArray opening elements commas closing a b begins f c) = fronted 0 place state (front.Bracket opening) a begins
expr-front place state e rest (ARepeat opening element semicolon count closing a b c d begins w s n i l) = fronted 0 place state (front.Bracket opening) a begins
expr-front place state e rest (ABlocky x is) = (blocky-front place state e rest is).front
expr-front place state e rest (AReturn at begins stop) = fronted 0 place state (front.Return at) rest begins
expr-front place state e rest (AReturnOf at value a begins w) = fronted 0 place state (front.Return at) a begins
expr-front place state e rest (ABreak span begins) = fronted 0 place state (front.Break span) rest begins
expr-front place state e rest (AContinue span begins) = fronted 0 place state (front.Continue span) rest begins
expr-front place state e rest (APrint name newline bang opening text values commas closing a b is f v c) = fronted 0 place state (front.Print name newline bang opening text) a is
expr-front place state e rest (APanic name bang opening text closing is) = fronted 0 place state (front.Panic name bang opening text closing) rest is
expr-front place state e rest (AnAssert name bang opening condition comma closing a b c is w m l) = fronted 0 place state (front.Assert name bang opening) a is
expr-front place state e rest (AUnary operator at operand a begins w) = fronted 0 place state (front.Unary operator at) a begins
expr-front place state e rest (ABorrow and kind operand a is w) = fronted 0 place state (front.Borrow and kind) a is
expr-front place state e rest (AField base dot name a is l s) = expr-front place state base a is
expr-front place state e rest (ATupleField base dot index a is l s) = expr-front place state base a is
expr-front place state e rest (AMethod receiver depth dot name turbofish opening arguments commas closing a b c is l s f m) = expr-front place state receiver a is
expr-front place state e rest (AnIndex base opening index closing a b c is l s w m) = expr-front place state base a is
expr-front place state e rest (ACast operand depth at ty a is l s) = expr-front place state operand a is
expr-front place state e rest (ABinary left operator at right a b is l s w) = expr-front place state left a is
expr-front place state e rest (AnAssign target equals value a b is l s w) = expr-front place state target a is
expr-front place state e rest (AnAssignOp target operator at value a b is l s w) = expr-front place state target a is

-- an expression begins there
pub expr-begins : (place : Where) (state : State) (e : Expr) (rest : State) → IsExprAt place state e rest → begins_expr state ≡ true
expr-begins place state e rest h = let f = expr-front place state e rest h in front-begins f.depth place state f.first f.rest f.is

-- and one with a block of its own, and an `if`
pub blocky-begins : (state : State) (e : Expr) (rest : State) → IsBlockyAt state e rest → begins_blocky state ≡ true
blocky-begins state e rest h =
    let b = blocky-front Anywhere state e rest h in
    let f = b.front in
    front-blocks f.depth Anywhere state f.first f.rest f.is ∙ b.blocky

pub if-begins : (state : State) (e : Expr) (rest : State) → IsIfAt state e rest → has_keyword keyword_of.If state ≡ true
if-begins state e rest (If at condition body otherwise a b c begins w is o) = front-ifs 0 Anywhere state (front.If at) a begins
