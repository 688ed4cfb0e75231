-- Reading `use` items, structs, `extern` blocks and the heads of functions.
use Rattle.std.specs.Prelude.{◌≡◌, ℕ, if◌then◌else◌, ◌∷◌, ◌++◌, map, Option, None, Some}
use Rattle.std.specs.List.{AllByRecursion}
use Rattle.tb_perm.specs.declared.span.Span.{Span}
use Rattle.tb_lex.specs.declared.keyword.Keyword.TheVariants as keyword_of
use Rattle.tb_lex.specs.declared.punctuation.Punctuation.TheVariants.{OpenParen, CloseParen, OpenBrace, CloseBrace, Semicolon, Comma, Colon, PathSep, Lt, Gt, Plus}
use Rattle.tb_ast.specs.declared.leaf.Path.{Path}
use Rattle.tb_ast.specs.declared.item.Use.{Use}
use Rattle.tb_ast.specs.declared.item.UseGroup.{UseGroup}
use Rattle.tb_ast.specs.declared.item.Struct.{Struct}
use Rattle.tb_ast.specs.declared.item.Lifetimes.{Lifetimes}
use Rattle.tb_ast.specs.declared.item.Field.{Field}
use Rattle.tb_ast.specs.declared.item.Generics.{Generics}
use Rattle.tb_ast.specs.declared.item.GenericParameter.{GenericParameter}
use Rattle.tb_ast.specs.declared.item.GenericParameter.TheVariants as generic
use Rattle.tb_ast.specs.declared.item.Bounds.{Bounds}
use Rattle.tb_ast.specs.declared.item.Parameter.{Parameter}
use Rattle.tb_ast.specs.declared.item.ExternBlock.{ExternBlock}
use Rattle.tb_ast.specs.declared.item.ForeignFunction.{ForeignFunction}
use Rattle.tb_ast.specs.Pieces.{punct, keyword, ident, optional_keyword, separated}
use Rattle.tb_ast.specs.Types.{Row}
use Rattle.tb_ast.specs.Files.{generics_row, parameter_row, optional_result}
use Rattle.tb_syntax.specs.declared.heads.FunctionHead.{FunctionHead}
use Rattle.tb_syntax.specs.Reading.{◌>>=◌}
use Rattle.tb_syntax.specs.State.{State}
use Rattle.tb_syntax.specs.Marks.{punct_at, has_mark}
use Rattle.tb_syntax.specs.Leaves.{keyword_at, has_keyword, name_at, lifetime_at, has_lifetime, text_at, optional_keyword_at}
use Rattle.tb_syntax.specs.Lists.{IsListed, listed_at}
use Rattle.tb_syntax.specs.Paths.{from_to, names_at, path_at, IsPath, AreNamed}
use Rattle.tb_syntax.specs.Repeats.{repeated_at}
use Rattle.tb_ast.specs.Spans.{type_span}
use Rattle.tb_syntax.specs.Types.{type_at}
use Rattle.tb_syntax.specs.Written.{IsType}
use Rattle.tb_syntax.specs.Notes.{result_at, optional_result_at, IsResult}

-- `use` items.

unfoldable pub group_at : State → Option (Option UseGroup × State)
group_at state =
    if has_mark PathSep state then (do
      separator ← punct_at PathSep state
      opening ← punct_at OpenBrace separator.1
      list ← listed_at name_at CloseBrace opening.1
      closing ← punct_at CloseBrace list.1
      Some (Some (record { separator = separator.0; opening = opening.0; names = list.0.0; commas = list.0.1; closing = closing.0 }), closing.1))
    else Some (None, state)

-- from the first word of the path to before the semicolon
abbrev pub use_span : Path → Option UseGroup → Span
use_span path None = path.span
use_span path (Some group) = from_to path.span group.closing

unfoldable pub use_at : State → Option (Use × State)
use_at state = do
  word ← keyword_at keyword_of.Use state
  path ← path_at word.1
  group ← group_at path.1
  semicolon ← punct_at Semicolon group.1
  Some (record { use_keyword = word.0; span = use_span path.0 group.0; path = path.0; group = group.0; semicolon = semicolon.0 }, semicolon.1)

-- Structs.

unfoldable pub lifetimes_at : State → Option (Option Lifetimes × State)
lifetimes_at state =
    if has_mark Lt state then (do
      opening ← punct_at Lt state
      list ← listed_at lifetime_at Gt opening.1
      closing ← punct_at Gt list.1
      Some (Some (record { opening = opening.0; lifetimes = list.0.0; commas = list.0.1; closing = closing.0 }), closing.1))
    else Some (None, state)

unfoldable pub field_at : ℕ → State → Option (Field × State)
field_at depth state = do
  name ← name_at state
  colon ← punct_at Colon name.1
  ty ← type_at depth colon.1
  Some (record { name = name.0; colon = colon.0; ty = ty.0 }, ty.1)

unfoldable pub struct_at : ℕ → State → Option (Struct × State)
struct_at depth state = do
  word ← keyword_at keyword_of.Struct state
  name ← name_at word.1
  lifetimes ← lifetimes_at name.1
  opening ← punct_at OpenBrace lifetimes.1
  list ← listed_at (field_at depth) CloseBrace opening.1
  closing ← punct_at CloseBrace list.1
  Some (record { struct_keyword = word.0; name = name.0; lifetimes = lifetimes.0; opening = opening.0; fields = list.0.0; commas = list.0.1; closing = closing.0 }, closing.1)

-- Heads of functions.

unfoldable pub bounds_at : State → Option (Option Bounds × State)
bounds_at state =
    if has_mark Colon state then (do
      colon ← punct_at Colon state
      list ← names_at Plus colon.1
      Some (Some (record { colon = colon.0; names = list.0.0; pluses = list.0.1 }), list.1))
    else Some (None, state)

unfoldable pub generic_at : State → Option (GenericParameter × State)
generic_at state =
    if has_lifetime state then (lifetime_at state >>= λ x. Some (generic.Lifetime x.0, x.1))
    else (name_at state >>= λ name. bounds_at name.1 >>= λ bounds. Some (generic.Named name.0 bounds.0, bounds.1))

unfoldable pub generics_at : State → Option (Option Generics × State)
generics_at state =
    if has_mark Lt state then (do
      opening ← punct_at Lt state
      list ← listed_at generic_at Gt opening.1
      closing ← punct_at Gt list.1
      Some (Some (record { opening = opening.0; parameters = list.0.0; commas = list.0.1; closing = closing.0 }), closing.1))
    else Some (None, state)

unfoldable pub parameter_at : ℕ → State → Option (Parameter × State)
parameter_at depth state = do
  mutable ← optional_keyword_at keyword_of.Mut state
  name ← name_at mutable.1
  colon ← punct_at Colon name.1
  ty ← type_at depth colon.1
  Some (record { span = from_to name.0.span (type_span ty.0); mut_keyword = mutable.0; name = name.0; colon = colon.0; ty = ty.0 }, ty.1)

-- a function up to before its body
unfoldable pub head_at : ℕ → State → Option (FunctionHead × State)
head_at depth state = do
  unsafety ← optional_keyword_at keyword_of.Unsafe state
  word ← keyword_at keyword_of.Fn unsafety.1
  name ← name_at word.1
  generics ← generics_at name.1
  opening ← punct_at OpenParen generics.1
  list ← listed_at (parameter_at depth) CloseParen opening.1
  closing ← punct_at CloseParen list.1
  output ← optional_result_at depth closing.1
  Some (record { unsafe_keyword = unsafety.0; fn_keyword = word.0; name = name.0; generics = generics.0; opening = opening.0; parameters = list.0.0; commas = list.0.1; closing = closing.0; result = output.0 }, output.1)

-- `extern` blocks.

unfoldable pub foreign_at : ℕ → State → Option (ForeignFunction × State)
foreign_at depth state = do
  word ← keyword_at keyword_of.Fn state
  name ← name_at word.1
  opening ← punct_at OpenParen name.1
  closing ← punct_at CloseParen opening.1
  output ← result_at depth closing.1
  semicolon ← punct_at Semicolon output.1
  Some (record { span = from_to word.0 semicolon.0; fn_keyword = word.0; name = name.0; opening = opening.0; closing = closing.0; result = output.0; semicolon = semicolon.0 }, semicolon.1)

unfoldable pub extern_at : ℕ → State → Option (ExternBlock × State)
extern_at depth state = do
  unsafety ← optional_keyword_at keyword_of.Unsafe state
  word ← keyword_at keyword_of.Extern unsafety.1
  abi ← text_at word.1
  opening ← punct_at OpenBrace abi.1
  functions ← repeated_at (has_keyword keyword_of.Fn) (foreign_at depth) opening.1
  closing ← punct_at CloseBrace functions.1
  Some (record { unsafe_keyword = unsafety.0; extern_keyword = word.0; abi = abi.0; opening = opening.0; functions = functions.0; closing = closing.0 }, closing.1)

-- As they are written.

abbrev pub IsGroup : Option UseGroup → Type 0
IsGroup None = Unit {0}
IsGroup (Some group) = IsListed group.names group.commas

abbrev pub IsUse : Use → Type 0
IsUse item = (item.span ≡ use_span item.path item.group) × IsPath item.path × IsGroup item.group

abbrev pub AreLifetimes : Option Lifetimes → Type 0
AreLifetimes None = Unit {0}
AreLifetimes (Some list) = IsListed list.lifetimes list.commas

abbrev pub IsField : ℕ → Field → Type 0
IsField depth field = IsType depth field.ty

abbrev pub IsStruct : ℕ → Struct → Type 0
IsStruct depth item = AreLifetimes item.lifetimes × IsListed item.fields item.commas × AllByRecursion (IsField depth) item.fields

abbrev pub AreBounds : Option Bounds → Type 0
AreBounds None = Unit {0}
AreBounds (Some bounds) = AreNamed bounds.names bounds.pluses

abbrev pub IsGeneric : GenericParameter → Type 0
IsGeneric (generic.Lifetime name) = Unit {0}
IsGeneric (generic.Named name bounds) = AreBounds bounds

abbrev pub AreGenerics : Option Generics → Type 0
AreGenerics None = Unit {0}
AreGenerics (Some generics) = IsListed generics.parameters generics.commas × AllByRecursion IsGeneric generics.parameters

abbrev pub IsParameter : ℕ → Parameter → Type 0
IsParameter depth parameter = (parameter.span ≡ from_to parameter.name.span (type_span parameter.ty)) × IsType depth parameter.ty

-- the pieces of a function before its body
abbrev pub head_row : FunctionHead → Row
head_row head = optional_keyword keyword_of.Unsafe head.unsafe_keyword ++ (keyword keyword_of.Fn head.fn_keyword ∷ ident head.name ∷ (generics_row head.generics
    ++ (punct OpenParen head.opening ∷ (separated Comma (map parameter_row head.parameters) head.commas ++ (punct CloseParen head.closing ∷ optional_result head.result)))))

abbrev pub IsHead : ℕ → FunctionHead → Type 0
IsHead depth head = AreGenerics head.generics × IsListed head.parameters head.commas × AllByRecursion (IsParameter depth) head.parameters × IsResult depth head.result

abbrev pub IsForeign : ℕ → ForeignFunction → Type 0
IsForeign depth function = (function.span ≡ from_to function.fn_keyword function.semicolon) × IsType depth function.result.ty

abbrev pub IsExtern : ℕ → ExternBlock → Type 0
IsExtern depth block = AllByRecursion (IsForeign depth) block.functions
