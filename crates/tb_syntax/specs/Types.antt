-- Reading types: what stands before the first type in a type, and then what lies behind it.
use Rattle.std.specs.Prelude.{ℕ, zero, suc, nat_le, ◌==◌, if◌then◌else◌, length, Option, None, Some}
use Rattle.tb_perm.specs.declared.span.Span.{Span}
use Rattle.tb_lex.specs.declared.keyword.Keyword.TheVariants.{Const, Mut}
use Rattle.tb_lex.specs.declared.punctuation.Punctuation.TheVariants.{OpenParen, CloseParen, OpenBracket, CloseBracket, Semicolon, Lt, Gt, And, Star}
use Rattle.tb_lex.specs.declared.suffix.Suffix.{Suffix}
use Rattle.tb_ast.specs.declared.leaf.IntLiteral.{IntLiteral}
use Rattle.tb_ast.specs.declared.leaf.Mark.{Mark}
use Rattle.tb_ast.specs.declared.leaf.Lifetime.{Lifetime}
use Rattle.tb_ast.specs.declared.leaf.Path.{Path}
use Rattle.tb_ast.specs.declared.written.PointerKind.{PointerKind}
use Rattle.tb_ast.specs.declared.written.PointerKind.TheVariants as pointer
use Rattle.tb_ast.specs.declared.written.TypeExpr.{TypeExpr, roll-TypeExpr}
use Rattle.tb_ast.specs.declared.written.TypeArgument.{TypeArgument, roll-TypeArgument}
use Rattle.tb_ast.specs.declared.written.TypeArguments.{TypeArguments, roll-TypeArguments, out-TypeArguments}
use Rattle.tb_ast.specs.declared.written.TypeArgument.TheOpen.{TypeArgument-F}
use Rattle.tb_ast.specs.declared.written.TypeArgument.TheOpen.TypeExpr-F.{Unit, Tuple, Slice, Array, Reference, Pointer, Path as PathType}
use Rattle.tb_ast.specs.Spans.{type_span}
use Rattle.tb_syntax.specs.declared.types.TypeFront.{TypeFront}
use Rattle.tb_syntax.specs.declared.types.TypeFront.TheVariants as front
use Rattle.tb_syntax.specs.Reading.{◌>>=◌}
use Rattle.tb_syntax.specs.State.{State}
use Rattle.tb_syntax.specs.Marks.{mark_at, punct_at, has_mark}
use Rattle.tb_syntax.specs.Leaves.{keyword_at, has_keyword, lifetime_at, has_lifetime, number_at, optional_keyword_at, optional_lifetime_at}
use Rattle.tb_syntax.specs.Lists.{Listed, listed_at}
use Rattle.tb_syntax.specs.Paths.{from_to, path_at}

-- what stands before the first type in a type

unfoldable pub reference_front_at : State → Option (TypeFront × State)
reference_front_at state = do
  and ← mark_at And state
  name ← optional_lifetime_at and.1
  mutable ← optional_keyword_at Mut name.1
  Some (front.Reference and.0 name.0 mutable.0, mutable.1)

unfoldable pub pointer_kind_at : State → Option (PointerKind × State)
pointer_kind_at state =
    if has_keyword Const state then (keyword_at Const state >>= λ x. Some (pointer.Const x.0, x.1))
    else (keyword_at Mut state >>= λ x. Some (pointer.Mut x.0, x.1))

unfoldable pub pointer_front_at : State → Option (TypeFront × State)
pointer_front_at state = do
  star ← punct_at Star state
  kind ← pointer_kind_at star.1
  Some (front.Pointer star.0 kind.0, kind.1)

unfoldable pub type_front_at : State → Option (TypeFront × State)
type_front_at state =
    if has_mark OpenParen state then (punct_at OpenParen state >>= λ x. Some (front.Paren x.0, x.1))
    else (if has_mark OpenBracket state then (punct_at OpenBracket state >>= λ x. Some (front.Bracket x.0, x.1))
    else (if has_mark And state then reference_front_at state
    else (if has_mark Star state then pointer_front_at state
    else (path_at state >>= λ x. Some (front.Path x.0, x.1)))))

-- what stands behind it, where types are read so

abbrev pub tuple_of : Span → Listed TypeExpr → Span → Option TypeExpr
tuple_of opening parts closing =
    if length parts.0 == 0 then Some (roll-TypeExpr (Unit (from_to opening closing) opening closing))
    else (if nat_le 2 (length parts.0) then Some (roll-TypeExpr (Tuple (from_to opening closing) opening parts.0 parts.1 closing)) else None)

-- the parts in parentheses are closed: none, or two or more
unfoldable pub tuple_at : Span → Listed TypeExpr → State → Option (TypeExpr × State)
tuple_at opening parts state = do
  closing ← punct_at CloseParen state
  ty ← tuple_of opening parts closing.0
  Some (ty, closing.1)

-- a length has no suffix
abbrev pub length_of : Option Suffix → IntLiteral → State → Option (IntLiteral × State)
length_of None int state = Some (int, state)
length_of (Some suffix) int state = None

unfoldable pub length_at : State → Option (IntLiteral × State)
length_at state = number_at state >>= λ x. length_of x.0.integer.suffix x.0 x.1

unfoldable pub array_at : Span → TypeExpr → State → Option (TypeExpr × State)
array_at opening element state =
    if has_mark Semicolon state then (do
      semicolon ← punct_at Semicolon state
      int ← length_at semicolon.1
      closing ← punct_at CloseBracket int.1
      Some (roll-TypeExpr (Array (from_to opening closing.0) opening element semicolon.0 int.0 closing.0), closing.1))
    else (punct_at CloseBracket state >>= λ closing. Some (roll-TypeExpr (Slice (from_to opening closing.0) opening element closing.0), closing.1))

abbrev pub reference_to : Mark → Option Lifetime → Option Span → TypeExpr → TypeExpr
reference_to and name mutable target = roll-TypeExpr (Reference (from_to and.span (type_span target)) and name mutable target)

abbrev pub pointer_to : Span → PointerKind → TypeExpr → TypeExpr
pointer_to star kind target = roll-TypeExpr (Pointer (from_to star (type_span target)) star kind target)

module _ (one : State → Option (TypeExpr × State)) where
  unfoldable pub argument_at : State → Option (TypeArgument × State)
  argument_at state =
      if has_lifetime state then (lifetime_at state >>= λ x. Some (roll-TypeArgument (TypeArgument-F.Lifetime x.0), x.1))
      else (one state >>= λ x. Some (roll-TypeArgument (TypeArgument-F.TypeExpr x.0), x.1))

  unfoldable pub arguments_at : State → Option (TypeArguments × State)
  arguments_at state = do
    opening ← punct_at Lt state
    list ← listed_at argument_at Gt opening.1
    closing ← mark_at Gt list.1
    Some (roll-TypeArguments (record { opening = opening.0; arguments = list.0.0; commas = list.0.1; closing = closing.0 }), closing.1)

  unfoldable pub path_type_at : Path → State → Option (TypeExpr × State)
  path_type_at path state =
      if has_mark Lt state then (arguments_at state >>= λ x. Some (roll-TypeExpr (PathType (from_to path.span (out-TypeArguments x.0).closing.span) path (Some x.0)), x.1))
      else Some (roll-TypeExpr (PathType path.span path None), state)

  unfoldable pub type_behind : TypeFront → State → Option (TypeExpr × State)
  type_behind (front.Paren opening) state = listed_at one CloseParen state >>= λ parts. tuple_at opening parts.0 parts.1
  type_behind (front.Bracket opening) state = one state >>= λ element. array_at opening element.0 element.1
  type_behind (front.Reference and name mutable) state = one state >>= λ target. Some (reference_to and name mutable target.0, target.1)
  type_behind (front.Pointer star kind) state = one state >>= λ target. Some (pointer_to star kind target.0, target.1)
  type_behind (front.Path path) state = path_type_at path state

-- a type of at most this depth
unfoldable pub type_at : ℕ → State → Option (TypeExpr × State)
type_at zero state = None
type_at (suc depth) state = type_front_at state >>= λ x. type_behind (type_at depth) x.0 x.1
