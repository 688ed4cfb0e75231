-- How types are written: one line for each form.
use Rattle.std.specs.Prelude.{List, [], ◌∷◌, ◌++◌, map, Option, None, Some}
use Rattle.tb_lex.specs.declared.keyword.Keyword.TheVariants.{Const, Mut}
use Rattle.tb_lex.specs.declared.punctuation.Punctuation.TheVariants.{OpenParen, CloseParen, OpenBracket, CloseBracket, Comma, Semicolon, Colon, PathSep, Lt, Gt, And, Star}
use Rattle.tb_ast.specs.declared.leaf.Lifetime.{Lifetime}
use Rattle.tb_ast.specs.declared.piece.Piece.{Piece}
use Rattle.tb_ast.specs.declared.written.PointerKind.{PointerKind}
use Rattle.tb_ast.specs.declared.written.PointerKind.TheVariants as pointer
use Rattle.tb_ast.specs.declared.written.Turbofish.{Turbofish}
use Rattle.tb_ast.specs.declared.written.TypeNote.{TypeNote}
use Rattle.tb_ast.specs.declared.written.TypeExpr.{TypeExpr, out-TypeExpr}
use Rattle.tb_ast.specs.declared.written.TypeArgument.{TypeArgument}
use Rattle.tb_ast.specs.declared.written.TypeArguments.{TypeArguments}
use Rattle.tb_ast.specs.declared.written.TypeArgument.TheOpen.{TypeExpr-F, TypeArgument-F, TypeArguments-F}
use Rattle.tb_ast.specs.declared.written.TypeArgument.TheOpen.TypeExpr-F.{Unit, Tuple, Slice, Array, Reference, Pointer, Path}
use Rattle.tb_ast.specs.declared.written.TypeArgument.TheFolds.{fold-TypeExpr, fold-TypeArgument, fold-TypeArguments, map-TypeExpr}
use Rattle.tb_ast.specs.Pieces.{punct, mark, keyword, lifetime, number, optional_keyword, separated, path_pieces}

abbrev pub Row : Type 0
Row = List Piece

abbrev pub optional_lifetime : Option Lifetime → Row
optional_lifetime None = []
optional_lifetime (Some name) = lifetime name ∷ []

abbrev pub pointer_keyword : PointerKind → Piece
pointer_keyword (pointer.Const span) = keyword Const span
pointer_keyword (pointer.Mut span) = keyword Mut span

abbrev pub optional : Option Row → Row
optional None = []
optional (Some row) = row

-- a type over the pieces of the types in it
abbrev pub type_row : TypeExpr-F Row Row Row → Row
type_row (Unit span opening closing) = punct OpenParen opening ∷ punct CloseParen closing ∷ []
type_row (Tuple span opening parts commas closing) = punct OpenParen opening ∷ (separated Comma parts commas ++ punct CloseParen closing ∷ [])
type_row (Slice span opening element closing) = punct OpenBracket opening ∷ (element ++ punct CloseBracket closing ∷ [])
type_row (Array span opening element semicolon length closing) = punct OpenBracket opening ∷ (element ++ punct Semicolon semicolon ∷ number length ∷ punct CloseBracket closing ∷ [])
type_row (Reference span and name mutable target) = mark And and ∷ (optional_lifetime name ++ (optional_keyword Mut mutable ++ target))
type_row (Pointer span star kind target) = punct Star star ∷ pointer_keyword kind ∷ target
type_row (Path span path arguments) = path_pieces path ++ optional arguments

abbrev pub argument_row : TypeArgument-F Row Row Row → Row
argument_row (TypeArgument-F.Lifetime name) = lifetime name ∷ []
argument_row (TypeArgument-F.TypeExpr ty) = ty

abbrev pub arguments_row : TypeArguments-F Row Row Row → Row
arguments_row row = punct Lt row.opening ∷ (separated Comma row.arguments row.commas ++ mark Gt row.closing ∷ [])

-- the pieces of a type
abbrev pub type_pieces : TypeExpr → Row
type_pieces = fold-TypeExpr Row Row Row argument_row type_row arguments_row

abbrev pub argument_pieces : TypeArgument → Row
argument_pieces = fold-TypeArgument Row Row Row argument_row type_row arguments_row

abbrev pub arguments_pieces : TypeArguments → Row
arguments_pieces = fold-TypeArguments Row Row Row argument_row type_row arguments_row

-- a type, with their pieces in the place of the types in it
abbrev pub type_layer : TypeExpr → TypeExpr-F Row Row Row
type_layer ty = map-TypeExpr _ _ _ Row Row Row argument_pieces type_pieces arguments_pieces (out-TypeExpr ty)

-- what stands before the types that lie in a type, what they and the marks between them are, and what stands behind them
abbrev pub type_front : TypeExpr-F Row Row Row → Row
type_front (Unit span opening closing) = punct OpenParen opening ∷ punct CloseParen closing ∷ []
type_front (Tuple span opening parts commas closing) = punct OpenParen opening ∷ []
type_front (Slice span opening element closing) = punct OpenBracket opening ∷ []
type_front (Array span opening element semicolon length closing) = punct OpenBracket opening ∷ []
type_front (Reference span and name mutable target) = mark And and ∷ (optional_lifetime name ++ optional_keyword Mut mutable)
type_front (Pointer span star kind target) = punct Star star ∷ pointer_keyword kind ∷ []
type_front (Path span path arguments) = path_pieces path

abbrev pub type_inside : TypeExpr-F Row Row Row → Row
type_inside (Unit span opening closing) = []
type_inside (Tuple span opening parts commas closing) = separated Comma parts commas
type_inside (Slice span opening element closing) = element
type_inside (Array span opening element semicolon length closing) = element
type_inside (Reference span and name mutable target) = target
type_inside (Pointer span star kind target) = target
type_inside (Path span path arguments) = optional arguments

abbrev pub type_back : TypeExpr-F Row Row Row → Row
type_back (Tuple span opening parts commas closing) = punct CloseParen closing ∷ []
type_back (Slice span opening element closing) = punct CloseBracket closing ∷ []
type_back (Array span opening element semicolon length closing) = punct Semicolon semicolon ∷ number length ∷ punct CloseBracket closing ∷ []
type_back row = []

-- `::<T, ..>` and `: T`
abbrev pub turbofish_pieces : Option Turbofish → Row
turbofish_pieces None = []
turbofish_pieces (Some turbofish) = punct PathSep turbofish.separator ∷ punct Lt turbofish.opening ∷ (separated Comma (map type_pieces turbofish.types) turbofish.commas ++ mark Gt turbofish.closing ∷ [])

abbrev pub note_pieces : Option TypeNote → Row
note_pieces None = []
note_pieces (Some note) = punct Colon note.colon ∷ type_pieces note.ty
