-- How far whole items and statements go where there is no tree, and the token that is refused then.
use Rattle.std.specs.Prelude.{◌≡◌, ◌≤◌, ◌+◌, ℕ, Bool, true, false, ◌||◌, nat_lt, if◌then◌else◌, List, [], ◌∷◌, map, length, drop, Option, None, Some}
use Rattle.std.specs.List.{AllByRecursion}
use Rattle.std.specs.Option.{option_map}
use Rattle.tb_perm.specs.declared.span.Span.{Span}
use Rattle.tb_perm.specs.declared.code.Code.{Code}
use Rattle.tb_perm.specs.declared.code.Code.TheVariants.{UnexpectedToken, TooDeeplyNested}
use Rattle.tb_lex.specs.declared.keyword.Keyword.TheVariants as keyword_of
use Rattle.tb_lex.specs.declared.punctuation.Punctuation.TheVariants.{OpenParen, CloseParen, OpenBracket, CloseBracket, OpenBrace, CloseBrace}
use Rattle.tb_lex.specs.declared.token.Token.{Token}
use Rattle.tb_lex.specs.declared.token.TokenKind.{TokenKind}
use Rattle.tb_lex.specs.declared.token.TokenKind.TheVariants as kind
use Rattle.tb_lex.specs.declared.token.Tokens.{Tokens}
use Rattle.tb_ast.specs.declared.expression.Expr.{Expr}
use Rattle.tb_ast.specs.declared.expression.Else.{roll-Else}
use Rattle.tb_ast.specs.declared.expression.Else.TheOpen.{Else-F}
use Rattle.tb_ast.specs.declared.expression.Block.{Block}
use Rattle.tb_ast.specs.declared.expression.Stmt.{Stmt}
use Rattle.tb_ast.specs.declared.item.InnerAttribute.{InnerAttribute}
use Rattle.tb_ast.specs.declared.item.Attribute.{Attribute}
use Rattle.tb_ast.specs.declared.item.Item.{Item}
use Rattle.tb_ast.specs.Pieces.{punct, keyword, in_order}
use Rattle.tb_ast.specs.Files.{inner_row, attribute_row}
use Rattle.tb_ast.specs.Depth.{deepest, or_none, expr_depth, stmt_depth, block_depth, item_depth}
use Rattle.tb_syntax.specs.declared.heads.FunctionHead.{FunctionHead}
use Rattle.tb_syntax.specs.State.{State, Begins, Stands, piece_of}
use Rattle.tb_syntax.specs.Marks.{punct_at}
use Rattle.tb_syntax.specs.Leaves.{has_keyword}
use Rattle.tb_syntax.specs.Reading.{◌>>=◌}
use Rattle.tb_syntax.specs.Notes.{ResultEnds}
use Rattle.tb_syntax.specs.Attributes.{attributes_at, IsInner, IsAttribute}
use Rattle.tb_syntax.specs.Items.{head_at, head_row, IsHead}
use Rattle.tb_forms.specs.declared.place.Where.TheVariants.{Condition}
use Rattle.tb_forms.specs.Levels.{loosest_level}
use Rattle.tb_forms.specs.Trees.{if_to}
use Rattle.tb_expr.specs.Grammar.{IsWholeAt, IsBlockyAt, IsBlockAt, IsStmtAt, AreLinesAt}
use Rattle.tb_parse.specs.declared.error.ParseError.{ParseError}
use Rattle.tb_parse.specs.declared.error.ParseError.TheVariants as errors
use Rattle.tb_parse.specs.Trees.{IsItemAt}

-- A front is a prefix of the tokens. It is told here by the state at its end: each relation is between a state at the front of a
-- source, and the rest behind what stands there. No node of a front is deeper than 128, counted as in a file: the body of a
-- function is at depth 1, so its statements may be 127 deep, and their expressions 126.

-- the source after some of its pieces
abbrev pub IsSuffix : State → State → Type 0
IsSuffix source rest = (count : ℕ) × (drop count source ≡ rest)

-- an attribute of the file
abbrev pub InnerTo : State → State → Type 0
InnerTo state rest = (inner : InnerAttribute) × Stands (inner_row inner) state rest × IsInner inner

-- a whole item
abbrev pub ItemTo : State → State → Type 0
ItemTo state rest = (item : Item) × IsItemAt state item rest × (item_depth item ≤ 128)

-- a whole statement of a function's body
abbrev pub StatementTo : State → State → Type 0
StatementTo state rest = (statement : Stmt) × IsStmtAt state statement rest × (stmt_depth statement ≤ 127)

-- `if`, a condition and a block, and where an `else` follows, an `if` behind it and so on; the last block stands directly before
-- another `else`, at which the front is cut
pub data IsCutIfAt : State → Expr → State → Type 0 where
  CutIf : {state rest : State} (at : Span) (condition : Expr) (body : Block) (a b : State)
      → Begins (keyword keyword_of.If at) state a → IsWholeAt Condition loosest_level a condition b → IsBlockAt b body rest → has_keyword keyword_of.Else rest ≡ true
      → IsCutIfAt state (if_to at condition body None) rest
  CutElse : {state rest : State} (at : Span) (condition : Expr) (body : Block) (word : Span) (branch : Expr) (a b c d : State)
      → Begins (keyword keyword_of.If at) state a → IsWholeAt Condition loosest_level a condition b → IsBlockAt b body c → Begins (keyword keyword_of.Else word) c d → IsCutIfAt d branch rest
      → IsCutIfAt state (if_to at condition body (Some (roll-Else (Else-F.ElseIf word branch)))) rest

-- Statements of a function's body, one behind another. The source goes on behind a front. A whole statement ends with `;` or with
-- a block, so that what follows the front can matter only to a last one that ends with a block: directly before `}` it would be the value
-- of the body, and an `if` directly before `else` would go on. In the front it is a statement.
pub data StatementsTo : State → State → Type 0 where
  NoStatement : {state : State} → StatementsTo state state
  NextStatement : {state rest : State} (a : State) → StatementTo state a → StatementsTo a rest → StatementsTo state rest
  BeforeBrace : {state rest : State} (e : Expr) (closing : Span) (after : State) → IsBlockyAt state e rest → Begins (punct CloseBrace closing) rest after → expr_depth e ≤ 126 → StatementsTo state rest
  BeforeElse : {state rest : State} (e : Expr) → IsCutIfAt state e rest → expr_depth e ≤ 126 → StatementsTo state rest

-- the attributes and the head of a function, up to and with the `{` of its body; no type in the head is deeper than 128
pub record OpenedTo (state rest : State) : Type 0 where
  pub attributes : List Attribute
  pub head : FunctionHead
  pub opening : Span
  pub a : State
  pub b : State
  pub noted : Stands (in_order (map attribute_row attributes)) state a
  pub are : AllByRecursion IsAttribute attributes
  pub stands : Stands (head_row head) a b
  pub is : IsHead 128 head
  pub ends : ResultEnds head.result b
  pub opens : Begins (punct OpenBrace opening) b rest

-- Whole items, one behind another; behind them a function may begin, of whose body there are whole statements.
pub data ItemsTo : State → State → Type 0 where
  NoItem : {state : State} → ItemsTo state state
  NextItem : {state rest : State} (a : State) → ItemTo state a → ItemsTo a rest → ItemsTo state rest
  InBody : {state rest : State} (a : State) → OpenedTo state a → StatementsTo a rest → ItemsTo state rest

-- Attributes of the file, and then these.
pub data FrontTo : State → State → Type 0 where
  Items : {state rest : State} → ItemsTo state rest → FrontTo state rest
  NextInner : {state rest : State} (a : State) → InnerTo state a → FrontTo a rest → FrontTo state rest

-- so many tokens are a front
abbrev pub IsFront : List Token → ℕ → Type 0
IsFront tokens count = (count ≤ length tokens) × FrontTo (map piece_of tokens) (map piece_of (drop count tokens))

-- the refused token is the one behind the longest front
pub record IsRefusedAt (tokens : List Token) (place : ℕ) : Type 0 where
  pub front : IsFront tokens place
  pub longest : (count : ℕ) → IsFront tokens count → count ≤ place

-- brackets of all kinds
abbrev pub opens : TokenKind → Bool
opens (kind.Punctuation OpenParen) = true
opens (kind.Punctuation OpenBracket) = true
opens (kind.Punctuation OpenBrace) = true
opens other = false

abbrev pub closes : TokenKind → Bool
closes (kind.Punctuation CloseParen) = true
closes (kind.Punctuation CloseBracket) = true
closes (kind.Punctuation CloseBrace) = true
closes other = false

-- 1 for what is so
abbrev pub one_if : Bool → ℕ
one_if true = 1
one_if false = 0

-- so many brackets have been opened and closed, and after some of these tokens more than 100 more have been opened than closed
abbrev pub is_crowded : ℕ → ℕ → List Token → Bool
is_crowded opened closed [] = false
is_crowded opened closed (token ∷ tokens) =
    nat_lt (closed + one_if (closes token.kind) + 100) (opened + one_if (opens token.kind)) || is_crowded (opened + one_if (opens token.kind)) (closed + one_if (closes token.kind)) tokens

-- the code of a refusal at the first of these tokens
abbrev pub code_of : List Token → Code
code_of tokens = if is_crowded 0 0 tokens then TooDeeplyNested else UnexpectedToken

-- where the first of these tokens stands; without tokens, the empty place at the end
abbrev pub place_of : List Token → ℕ → Span
place_of [] end = record { lo = end; hi = end }
place_of (token ∷ tokens) end = token.span

-- the refusal at this token
abbrev pub refusal_at : Tokens → ℕ → ParseError
refusal_at tokens place = errors.Refused (code_of (drop place tokens.list)) (place_of (drop place tokens.list) tokens.end)

-- where tokens are refused, it is at the refused token, with its code and its place
abbrev pub RefusesAs : Tokens → ParseError → Type 0
RefusesAs tokens (errors.Refused code span) = (place : ℕ) × IsRefusedAt tokens.list place × (errors.Refused code span ≡ refusal_at tokens place)
RefusesAs tokens errors.Memory = Unit {0}

-- What the parts of the search for the longest front find.

-- nothing is so related
abbrev pub NoneTo : (State → Type 0) → Type 0
NoneTo Is = (rest : State) → Is rest → ⊥

-- no rest that is so related is longer than this one
abbrev pub IsLongest : (State → Type 0) → ℕ → Type 0
IsLongest Is left = (rest : State) → Is rest → left ≤ length rest

-- a condition, and a block, of at most this depth
abbrev pub ConditionTo : ℕ → State → State → Type 0
ConditionTo depth state rest = (condition : Expr) × IsWholeAt Condition loosest_level state condition rest × (expr_depth condition ≤ depth)

abbrev pub BlockTo : ℕ → State → State → Type 0
BlockTo depth state rest = (body : Block) × IsBlockAt state body rest × (block_depth body ≤ depth)

-- `if` with both
pub record BranchTo (depth : ℕ) (state rest : State) : Type 0 where
  pub at : Span
  pub a : State
  pub b : State
  pub begins : Begins (keyword keyword_of.If at) state a
  pub condition : ConditionTo depth a b
  pub body : BlockTo depth b rest

abbrev pub ElseTo : State → State → Type 0
ElseTo state rest = (word : Span) × Begins (keyword keyword_of.Else word) state rest

-- a cut `if` of at most this depth
abbrev pub CutTo : ℕ → State → State → Type 0
CutTo depth state rest = (e : Expr) × IsCutIfAt state e rest × (expr_depth e ≤ depth)

-- attributes, a head and `{` are read
unfoldable pub opened_at : State → Option State
opened_at state = attributes_at state >>= λ attributes. head_at 128 attributes.1 >>= λ head. punct_at OpenBrace head.1 >>= λ opening. Some opening.1

-- no body whose `{` stands before this state ends in it, with statements of at most this depth
abbrev pub Unfinished : State → Type 0
Unfinished state = (statements : List Stmt) (last : Option Expr) (closing : Span) (rest after : State) → AreLinesAt state statements last rest → Begins (punct CloseBrace closing) rest after
    → deepest (map stmt_depth statements) ≤ 127 → or_none (option_map expr_depth last) ≤ 127 → ⊥
