-- How much an operand's beginning and a step take of what is still to be read.
use Rattle.std.proofs.Common.{◌≡◌, ℕ, ◌+◌, ◌<◌, ◌≤◌, Bool, true, false, List, [], ◌∷◌, ◌++◌, length, refl, ap, arith}
use Rattle.std.specs.Prelude.{codes}
use Rattle.tb_perm.specs.declared.span.Span.{Span}
use Rattle.tb_lex.specs.declared.keyword.Keyword.TheVariants as keyword_of
use Rattle.tb_lex.specs.declared.punctuation.Punctuation.{Punctuation}
use Rattle.tb_lex.specs.declared.punctuation.Punctuation.TheVariants as punct_of
use Rattle.tb_lex.specs.declared.token.TokenKind.TheVariants as kind
use Rattle.tb_ast.specs.declared.leaf.Mark.{Mark}
use Rattle.tb_ast.specs.declared.leaf.Ident.{Ident}
use Rattle.tb_ast.specs.declared.leaf.Literal.{Literal}
use Rattle.tb_ast.specs.declared.leaf.Literal.TheVariants as literals
use Rattle.tb_ast.specs.declared.leaf.Path.{Path}
use Rattle.tb_ast.specs.declared.operator.UnaryOp.{UnaryOp}
use Rattle.tb_ast.specs.declared.operator.UnaryOp.TheVariants as unary
use Rattle.tb_ast.specs.declared.operator.Borrow.{Borrow}
use Rattle.tb_ast.specs.declared.expression.ExprPath.{ExprPath}
use Rattle.tb_ast.specs.Pieces.{punct, mark, ident, number, literal, truth, named, path_pieces, text_pieces}
use Rattle.tb_ast.specs.Types.{turbofish_pieces, type_pieces}
use Rattle.tb_ast.specs.Expressions.{unary_mark, borrow_kind, binary_mark, assign_mark, path_row, print_word, print_text}
use Rattle.tb_syntax.specs.State.{State, Begins, Stands}
use Rattle.tb_syntax.specs.Paths.{AreNamed, IsPath}
use Rattle.tb_syntax.proofs.Chains.{stands-split, begins-shrinks, stands-shrinks}
use Rattle.tb_syntax.proofs.Tokens.{token-shorter}
use Rattle.tb_forms.specs.declared.place.Where.{Where}
use Rattle.tb_forms.specs.declared.front.Front.{Front}
use Rattle.tb_forms.specs.declared.front.Front.TheVariants as front
use Rattle.tb_forms.specs.declared.step.Step.{Step}
use Rattle.tb_forms.specs.declared.step.Step.TheVariants as step
use Rattle.tb_forms.specs.Fronts.{IsFrontAt}
use Rattle.tb_forms.specs.Steps.{IsStepAt}
use Rattle.tb_forms.proofs.Firsts.{is_lone, lone-stands}

-- a mark that is a part of no other token is read whole
pub lone-shorter : (p : Punctuation) (m : Mark) (state rest : State) → is_lone p ≡ true → Begins (mark p m) state rest → length rest < length state
lone-shorter p m state rest lone h =
    let l : length state ≡ length (mark p m ∷ rest) = ap length (lone-stands p m state rest lone h) in
    omega arith

pub punct-shorter : (p : Punctuation) (span : Span) (state rest : State) → is_lone p ≡ true → Begins (punct p span) state rest → length rest < length state
punct-shorter p span state rest lone h = lone-shorter p (record { span = span; glued = false }) state rest lone h

pub literal-shorter : (value : Literal) (state rest : State) → Begins (literal value) state rest → length rest < length state
literal-shorter (literals.Int int) state rest h = token-shorter (kind.Integer int.integer) int.span state rest refl h
literal-shorter (literals.Char c) state rest h = token-shorter (kind.Character c.value) c.span state rest refl h
literal-shorter (literals.Byte b) state rest h = token-shorter (kind.Byte b.value) b.span state rest refl h
literal-shorter (literals.Bool b) state rest h = token-shorter (kind.Keyword (truth b.value)) b.span state rest refl h

-- a path has a name at least
path-shorter : (path : Path) (state rest : State) → IsPath path → Stands (path_pieces path) state rest → length rest < length state
path-shorter path state rest is h = of path.segments path.separators is.1 h where
  of : (names : List Ident) (marks : List Span) → AreNamed names marks → Stands (named punct_of.PathSep names marks) state rest → length rest < length state
  of [] marks are h = let bad : length marks + 1 ≡ 0 = are in absurd (omega arith)
  of (name ∷ names) marks are h =
      let first = token-shorter (kind.Name name.name) name.span state h.0 refl h.1 in
      let others = stands-shrinks _ h.0 rest h.2 in
      omega arith

row-shorter : (path : ExprPath) (state rest : State) → IsPath path.path → Stands (path_row path) state rest → length rest < length state
row-shorter path state rest is h =
    let parts = stands-split (path_pieces path.path) (turbofish_pieces path.turbofish) state rest h in
    let first = path-shorter path.path state parts.0 is parts.1 in
    let others = stands-shrinks (turbofish_pieces path.turbofish) parts.0 rest parts.2 in
    omega arith

unary-lone : (operator : UnaryOp) → is_lone (unary_mark operator) ≡ true
unary-lone unary.Neg = refl
unary-lone other = refl

-- the beginning takes a whole token: not before a block, and a `&` may be a part of a token
abbrev pub takes_token : Front → Bool
takes_token front.Block = false
takes_token (front.Borrow and kind) = false
takes_token other = true

pub front-shorter : (depth : ℕ) (place : Where) (state : State) (f : Front) (rest : State) → takes_token f ≡ true → IsFrontAt depth place state f rest → length rest < length state
front-shorter depth place state (front.Literal value) rest t h = literal-shorter value state rest h
front-shorter depth place state (front.Path path) rest t h = row-shorter path state rest h.0.is_path h.0.stands
front-shorter depth place state (front.StructLiteral path opening) rest t h =
    let first = path-shorter path state h.3 h.2 h.4 in
    let second = begins-shrinks (punct punct_of.OpenBrace opening) h.3 rest h.5 in
    omega arith
front-shorter depth place state (front.Call path opening) rest t h =
    let first = row-shorter path state h.0 h.1.is_path h.1.stands in
    let second = begins-shrinks (punct punct_of.OpenParen opening) h.0 rest h.2 in
    omega arith
front-shorter depth place state (front.Paren opening) rest t h = punct-shorter punct_of.OpenParen opening state rest refl h
front-shorter depth place state (front.Bracket opening) rest t h = punct-shorter punct_of.OpenBracket opening state rest refl h
front-shorter depth place state front.Block rest t h = absurd cc
front-shorter depth place state (front.Unsafe at) rest t h = token-shorter (kind.Keyword keyword_of.Unsafe) at state rest refl h
front-shorter depth place state (front.While at) rest t h = token-shorter (kind.Keyword keyword_of.While) at state rest refl h
front-shorter depth place state (front.Loop at) rest t h = token-shorter (kind.Keyword keyword_of.Loop) at state rest refl h
front-shorter depth place state (front.If at) rest t h = token-shorter (kind.Keyword keyword_of.If) at state rest refl h
front-shorter depth place state (front.Return at) rest t h = token-shorter (kind.Keyword keyword_of.Return) at state rest refl h
front-shorter depth place state (front.Break at) rest t h = token-shorter (kind.Keyword keyword_of.Break) at state rest refl h
front-shorter depth place state (front.Continue at) rest t h = token-shorter (kind.Keyword keyword_of.Continue) at state rest refl h
front-shorter depth place state (front.Print name newline bang opening text) rest t h =
    let first = token-shorter (kind.Name (record { bytes = print_word newline })) name state h.0.0 refl h.0.1 in
    let others = stands-shrinks (punct punct_of.Not bang ∷ punct punct_of.OpenParen opening ∷ print_text text) h.0.0 rest h.0.2 in
    omega arith
front-shorter depth place state (front.Panic name bang opening text closing) rest t h =
    let first = token-shorter (kind.Name (record { bytes = codes "panic" })) name state h.0 refl h.1 in
    let others = stands-shrinks (punct punct_of.Not bang ∷ punct punct_of.OpenParen opening ∷ (text_pieces text ++ punct punct_of.CloseParen closing ∷ [])) h.0 rest h.2 in
    omega arith
front-shorter depth place state (front.Assert name bang opening) rest t h =
    let first = token-shorter (kind.Name (record { bytes = codes "assert" })) name state h.0 refl h.1 in
    let others = stands-shrinks (punct punct_of.Not bang ∷ punct punct_of.OpenParen opening ∷ []) h.0 rest h.2 in
    omega arith
front-shorter depth place state (front.Unary operator at) rest t h = punct-shorter (unary_mark operator) at state rest (unary-lone operator) h
front-shorter depth place state (front.Borrow and borrowed) rest t h = absurd cc

pub borrow-shrinks : (depth : ℕ) (place : Where) (state : State) (and : Mark) (borrowed : Borrow) (rest : State) → IsFrontAt depth place state (front.Borrow and borrowed) rest → length rest ≤ length state
borrow-shrinks depth place state and borrowed rest h =
    let first = begins-shrinks (mark punct_of.And and) state h.0 h.1 in
    let others = stands-shrinks (borrow_kind borrowed) h.0 rest h.2 in
    omega arith

pub step-shorter : (depth : ℕ) (state : State) (s : Step) (rest : State) → IsStepAt depth state s rest → length rest < length state
step-shorter depth state (step.Field dot name) rest h =
    let first = punct-shorter punct_of.Dot dot state h.0 refl h.1 in
    let second = begins-shrinks (ident name) h.0 rest h.2 in
    omega arith
step-shorter depth state (step.TupleField dot index) rest h =
    let first = punct-shorter punct_of.Dot dot state h.0 refl h.1 in
    let second = begins-shrinks (number index) h.0 rest h.2 in
    omega arith
step-shorter depth state (step.MethodCall dot name turbofish opening) rest h =
    let first = punct-shorter punct_of.Dot dot state h.0.0 refl h.0.1 in
    let others = stands-shrinks (ident name ∷ (turbofish_pieces turbofish ++ punct punct_of.OpenParen opening ∷ [])) h.0.0 rest h.0.2 in
    omega arith
step-shorter depth state (step.Index opening) rest h = punct-shorter punct_of.OpenBracket opening state rest refl h
step-shorter depth state (step.Cast at ty) rest h =
    let first = token-shorter (kind.Keyword keyword_of.As) at state h.0 refl h.1 in
    let others = stands-shrinks (type_pieces ty) h.0 rest h.2.stands in
    omega arith
step-shorter depth state (step.Binary operator at) rest h =
    let l : length state ≡ length (mark (binary_mark operator) at ∷ rest) = ap length h in
    omega arith
step-shorter depth state (step.Assign equals) rest h =
    let l : length state ≡ length (mark punct_of.Eq equals ∷ rest) = ap length h in
    omega arith
step-shorter depth state (step.AssignOp operator at) rest h =
    let l : length state ≡ length (punct (assign_mark operator) at ∷ rest) = ap length h in
    omega arith
