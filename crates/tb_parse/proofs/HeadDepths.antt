-- A head that is written with types of at most some depth is no deeper.
use Rattle.std.proofs.Common.{◌≡◌, ℕ, zero, suc, ◌≤◌, List, [], ◌∷◌, map, Option, Some, None, sym, subst, arith}
use Rattle.std.specs.List.{AllByRecursion}
use Rattle.tb_ast.specs.declared.written.TypeExpr.{TypeExpr, out-TypeExpr}
use Rattle.tb_ast.specs.declared.written.TypeArgument.{TypeArgument, out-TypeArgument}
use Rattle.tb_ast.specs.declared.written.TypeArguments.{TypeArguments, out-TypeArguments}
use Rattle.tb_ast.specs.declared.written.TypeArgument.TheOpen.{TypeExpr-F, TypeArgument-F}
use Rattle.tb_ast.specs.declared.written.TypeArgument.TheOpen.TypeExpr-F.{Unit as Nothing, Tuple, Slice, Array, Reference, Pointer, Path as PathType}
use Rattle.tb_ast.specs.declared.written.TypeArgument.TheFolds.{fold_out-TypeExpr, fold_out-TypeArgument, fold_out-TypeArguments, map-TypeExpr, map-TypeArgument}
use Rattle.tb_ast.specs.declared.item.ResultType.{ResultType}
use Rattle.tb_ast.specs.Depth.{deepest, type_step, argument_step, arguments_step, type_depth, argument_depth, arguments_depth, parameter_depth, result_depth}
use Rattle.tb_syntax.specs.declared.heads.FunctionHead.{FunctionHead}
use Rattle.tb_syntax.specs.Written.{IsTypeRow, IsArgumentRow, IsArgument, AreArguments, IsType}
use Rattle.tb_syntax.specs.Notes.{IsResult}
use Rattle.tb_syntax.specs.Items.{IsParameter, IsHead}

abbrev Form : Type 0
Form = TypeExpr-F TypeArgument TypeExpr TypeArguments

abbrev form_depth : Form → ℕ
form_depth row = type_step (map-TypeExpr _ _ _ ℕ ℕ ℕ argument_depth type_depth arguments_depth row)

depth-out : (ty : TypeExpr) → type_depth ty ≡ form_depth (out-TypeExpr ty)
depth-out = fold_out-TypeExpr ℕ ℕ ℕ argument_step type_step arguments_step

abbrev part_depth : TypeArgument-F TypeArgument TypeExpr TypeArguments → ℕ
part_depth row = argument_step (map-TypeArgument _ _ _ ℕ ℕ ℕ argument_depth type_depth arguments_depth row)

argument-out : (a : TypeArgument) → argument_depth a ≡ part_depth (out-TypeArgument a)
argument-out = fold_out-TypeArgument ℕ ℕ ℕ argument_step type_step arguments_step

arguments-out : (a : TypeArguments) → arguments_depth a ≡ deepest (map argument_depth (out-TypeArguments a).arguments)
arguments-out = fold_out-TypeArguments ℕ ℕ ℕ argument_step type_step arguments_step

-- where each is no deeper, none is
all-deep : {A : Type 0} (P : A → Type 0) (depth : A → ℕ) (d : ℕ) → ((x : A) → P x → depth x ≤ d) → (xs : List A) → AllByRecursion P xs → deepest (map depth xs) ≤ d
all-deep P depth d one [] h = omega arith
all-deep P depth d one (x ∷ xs) h =
    let first = one x h.0 in
    let others = all-deep P depth d one xs h.1 in
    omega arith

module _ (P : TypeExpr → Type 0) (d : ℕ) (part : (t : TypeExpr) → P t → type_depth t ≤ d) where
  argument-row-deep : (row : TypeArgument-F TypeArgument TypeExpr TypeArguments) → IsArgumentRow P row → part_depth row ≤ d
  argument-row-deep (TypeArgument-F.Lifetime name) h = omega arith
  argument-row-deep (TypeArgument-F.TypeExpr ty) h = part ty h

  argument-deep : (a : TypeArgument) → IsArgument P a → argument_depth a ≤ d
  argument-deep a h = subst (λ n. n ≤ d) (sym (argument-out a)) (argument-row-deep (out-TypeArgument a) h)

  arguments-deep : (a : TypeArguments) → AreArguments P a → arguments_depth a ≤ d
  arguments-deep a h = subst (λ n. n ≤ d) (sym (arguments-out a)) (all-deep (IsArgument P) argument_depth d argument-deep (out-TypeArguments a).arguments h.1)

  form-deep : (row : Form) → IsTypeRow P row → form_depth row ≤ suc d
  form-deep (Nothing span opening closing) h = omega arith
  form-deep (Tuple span opening parts commas closing) h = let less = all-deep P type_depth d part parts h.3 in omega arith
  form-deep (Slice span opening element closing) h = let less = part element h.1 in omega arith
  form-deep (Array span opening element semicolon int closing) h = let less = part element h.2 in omega arith
  form-deep (Reference span and name mutable target) h = let less = part target h.1 in omega arith
  form-deep (Pointer span star kind target) h = let less = part target h.1 in omega arith
  form-deep (PathType span path None) h = omega arith
  form-deep (PathType span path (Some list)) h = let less = arguments-deep list h.2 in omega arith

type-deep : (d : ℕ) (ty : TypeExpr) → IsType d ty → type_depth ty ≤ d
type-deep zero ty h = absurd h
type-deep (suc d) ty h = subst (λ n. n ≤ suc d) (sym (depth-out ty)) (form-deep (IsType d) d (type-deep d) (out-TypeExpr ty) h)

result-deep : (d : ℕ) (output : Option ResultType) → IsResult d output → result_depth output ≤ d
result-deep d None h = omega arith
result-deep d (Some output) h = type-deep d output.ty h

pub head-deep : (d : ℕ) (head : FunctionHead) → IsHead d head → (deepest (map parameter_depth head.parameters) ≤ d) × (result_depth head.result ≤ d)
head-deep d head h = (all-deep (IsParameter d) parameter_depth d (λ parameter is. type-deep d parameter.ty is.1) head.parameters h.2, result-deep d head.result h.3)
