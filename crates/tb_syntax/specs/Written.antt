-- How a type is written beyond its pieces: its place, its commas, its lengths and its depth.
use Rattle.std.specs.Prelude.{◌≡◌, ◌≤◌, ℕ, zero, suc, Bool, true, ◌&&◌, not, length, None, Some}
use Rattle.std.specs.List.{AllByRecursion}
use Rattle.tb_lex.specs.declared.punctuation.Punctuation.TheVariants.{PathSep, Lt}
use Rattle.tb_ast.specs.declared.written.TypeExpr.{TypeExpr, out-TypeExpr}
use Rattle.tb_ast.specs.declared.written.TypeArgument.{TypeArgument, out-TypeArgument}
use Rattle.tb_ast.specs.declared.written.TypeArguments.{TypeArguments, out-TypeArguments}
use Rattle.tb_ast.specs.declared.written.TypeArgument.TheOpen.{TypeExpr-F, TypeArgument-F}
use Rattle.tb_ast.specs.declared.written.TypeArgument.TheOpen.TypeExpr-F.{Unit as Nothing, Tuple, Slice, Array, Reference, Pointer, Path as PathType}
use Rattle.tb_ast.specs.declared.written.TypeArgument.TheFolds.{fold-TypeExpr}
use Rattle.tb_ast.specs.Types.{type_pieces}
use Rattle.tb_syntax.specs.State.{State, Stands}
use Rattle.tb_syntax.specs.Marks.{has_mark}
use Rattle.tb_syntax.specs.Lists.{IsListed}
use Rattle.tb_syntax.specs.Paths.{from_to, goes_on, IsPath}
use Rattle.tb_ast.specs.Spans.{type_span}

-- the types in a type are as `Part` says
module _ (Part : TypeExpr → Type 0) where
  abbrev pub IsArgumentRow : TypeArgument-F TypeArgument TypeExpr TypeArguments → Type 0
  IsArgumentRow (TypeArgument-F.Lifetime name) = Unit {0}
  IsArgumentRow (TypeArgument-F.TypeExpr ty) = Part ty

  abbrev pub IsArgument : TypeArgument → Type 0
  IsArgument argument = IsArgumentRow (out-TypeArgument argument)

  abbrev pub AreArguments : TypeArguments → Type 0
  AreArguments list = IsListed (out-TypeArguments list).arguments (out-TypeArguments list).commas × AllByRecursion IsArgument (out-TypeArguments list).arguments

  -- the place of a type is from its first token to its last; a tuple has two parts or more; a length has no suffix
  abbrev pub IsTypeRow : TypeExpr-F TypeArgument TypeExpr TypeArguments → Type 0
  IsTypeRow (Nothing span opening closing) = span ≡ from_to opening closing
  IsTypeRow (Tuple span opening parts commas closing) = (span ≡ from_to opening closing) × (2 ≤ length parts) × IsListed parts commas × AllByRecursion Part parts
  IsTypeRow (Slice span opening element closing) = (span ≡ from_to opening closing) × Part element
  IsTypeRow (Array span opening element semicolon int closing) = (span ≡ from_to opening closing) × (int.integer.suffix ≡ None) × Part element
  IsTypeRow (Reference span and name mutable target) = (span ≡ from_to and.span (type_span target)) × Part target
  IsTypeRow (Pointer span star kind target) = (span ≡ from_to star (type_span target)) × Part target
  IsTypeRow (PathType span path None) = (span ≡ path.span) × IsPath path
  IsTypeRow (PathType span path (Some list)) = (span ≡ from_to path.span (out-TypeArguments list).closing.span) × IsPath path × AreArguments list

-- a type as it is written, of at most this depth
abbrev pub IsType : ℕ → TypeExpr → Type 0
IsType zero ty = ⊥
IsType (suc depth) ty = IsTypeRow (IsType depth) (out-TypeExpr ty)

-- a path goes on with `::` and a name, and in a type with `<`, which always opens a list
abbrev pub ends_path : State → Bool
ends_path rest = not (goes_on PathSep rest) && not (has_mark Lt rest)

-- what follows is no part of the type, which may end here
abbrev pub Ends : Type 0
Ends = State → Bool

abbrev pub ends_step : TypeExpr-F Ends Ends Ends → Ends
ends_step (Reference span and name mutable target) = target
ends_step (Pointer span star kind target) = target
ends_step (PathType span path None) = ends_path
ends_step row = λ _. true

abbrev pub ends_anywhere : {A : Type 0} → A → Ends
ends_anywhere row = λ _. true

abbrev pub type_ends : TypeExpr → Ends
type_ends = fold-TypeExpr Ends Ends Ends ends_anywhere ends_step ends_anywhere

-- the type stands at the front, as it is written, with at most this depth, and this rest, which is no part of it, stands behind it
pub record IsTypeAt (depth : ℕ) (state : State) (ty : TypeExpr) (rest : State) : Type 0 where
  pub stands : Stands (type_pieces ty) state rest
  pub is : IsType depth ty
  pub ends : type_ends ty rest ≡ true
