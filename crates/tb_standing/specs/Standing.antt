-- The first fault in a written type, walked together with its number.
use Rattle.std.specs.Prelude.{ℕ, ◌+◌, Bool, true, false, not, if◌then◌else◌, List, [], ◌∷◌, Option, None, Some}
use Rattle.std.specs.Option.{option_map}
use Rattle.tb_perm.specs.declared.span.Span.{Span}
use Rattle.tb_perm.specs.declared.code.Code.{Code}
use Rattle.tb_perm.specs.declared.code.Code.TheVariants.{WrongNumber}
use Rattle.tb_types.specs.declared.shape.Ty.{Ty}
use Rattle.tb_types.specs.Table.{TypeTable}
use Rattle.tb_types.specs.Pieces.{content, part}
use Rattle.tb_ast.specs.declared.written.TypeExpr.{TypeExpr}
use Rattle.tb_ast.specs.declared.written.TypeArgument.{TypeArgument}
use Rattle.tb_ast.specs.declared.written.TypeArguments.{TypeArguments}
use Rattle.tb_ast.specs.declared.written.TypeArgument.TheOpen.{TypeExpr-F, TypeArgument-F, TypeArguments-F}
use Rattle.tb_ast.specs.declared.written.TypeArgument.TheFolds.{fold-TypeExpr, fold-TypeArgument, fold-TypeArguments}
use Rattle.tb_rules.specs.declared.type_kind.TypeKind.{TypeKind}
use Rattle.tb_rules.specs.declared.type_kind.TypeKind.TheVariants.{Unit}
use Rattle.tb_rules.specs.Kinds.{kind_at}
use Rattle.tb_rules.specs.Allowed.{type_fault}

abbrev pub Fault : Type 0
Fault = Code × Span

-- what is wrong with a type of this number
abbrev pub Check : Type 0
Check = Ty → Option Fault

abbrev pub or_later : Option Fault → Option Fault → Option Fault
or_later None later = later
or_later (Some fault) later = Some fault

abbrev pub if_known : Check → Option Ty → Option Fault
if_known check None = None
if_known check (Some ty) = check ty

-- a name with a wrong number of type arguments counts as `()`
abbrev pub has_arguments : TypeKind → Bool → Bool
has_arguments Unit is_path = not is_path
has_arguments kind is_path = true

abbrev pub own_code : TypeTable → Ty → Bool → Option Code
own_code types ty is_path = if has_arguments (kind_at types ty) is_path then type_fault types ty else Some WrongNumber

abbrev pub own : TypeTable → Bool → Span → Check
own types is_path span ty = option_map (λ code. (code, span)) (own_code types ty is_path)

-- of the parts of a tuple, each of the type that the tuple has there; counted from here
abbrev pub parts_from : TypeTable → Ty → ℕ → List Check → Option Fault
parts_from types ty at [] = None
parts_from types ty at (check ∷ checks) = or_later (if_known check (part types ty at)) (parts_from types ty (at + 1) checks)

-- of arguments, each of this type
abbrev pub first_among : Option Ty → List (Option Ty → Option Fault) → Option Fault
first_among ty [] = None
first_among ty (check ∷ checks) = or_later (check ty) (first_among ty checks)

abbrev pub if_there : Option (Option Ty → Option Fault) → Option Ty → Option Fault
if_there None ty = None
if_there (Some check) ty = check ty

-- What lies in a type, and then the type itself.
module _ (types : TypeTable) where
  abbrev pub around : Bool → Span → Check → Check
  around is_path span inner ty = or_later (inner ty) (own types is_path span ty)

  abbrev pub of_content : (Option Ty → Option Fault) → Check
  of_content check ty = check (content types ty)

  abbrev pub type_step : TypeExpr-F (Option Ty → Option Fault) Check (Option Ty → Option Fault) → Check
  type_step (TypeExpr-F.Unit span opening closing) = own types false span
  type_step (TypeExpr-F.Tuple span opening parts commas closing) = around false span (λ ty. parts_from types ty 0 parts)
  type_step (TypeExpr-F.Slice span opening element closing) = around false span (of_content (if_known element))
  type_step (TypeExpr-F.Array span opening element semicolon length closing) = around false span (of_content (if_known element))
  type_step (TypeExpr-F.Reference span and lifetime mutable target) = around false span (of_content (if_known target))
  type_step (TypeExpr-F.Pointer span star kind target) = around false span (of_content (if_known target))
  type_step (TypeExpr-F.Path span path arguments) = around true span (of_content (if_there arguments))

  abbrev pub argument_step : TypeArgument-F (Option Ty → Option Fault) Check (Option Ty → Option Fault) → Option Ty → Option Fault
  argument_step (TypeArgument-F.Lifetime lifetime) ty = None
  argument_step (TypeArgument-F.TypeExpr check) ty = if_known check ty

  abbrev pub arguments_step : TypeArguments-F (Option Ty → Option Fault) Check (Option Ty → Option Fault) → Option Ty → Option Fault
  arguments_step arguments ty = first_among ty arguments.arguments

  abbrev pub written_fault : TypeExpr → Check
  written_fault = fold-TypeExpr (Option Ty → Option Fault) Check (Option Ty → Option Fault) argument_step type_step arguments_step

  abbrev pub argument_fault : TypeArgument → Option Ty → Option Fault
  argument_fault = fold-TypeArgument (Option Ty → Option Fault) Check (Option Ty → Option Fault) argument_step type_step arguments_step

  abbrev pub arguments_fault : TypeArguments → Option Ty → Option Fault
  arguments_fault = fold-TypeArguments (Option Ty → Option Fault) Check (Option Ty → Option Fault) argument_step type_step arguments_step
