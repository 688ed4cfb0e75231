-- Items are written with their own depth, and with every greater one.
use Rattle.std.proofs.Common.{ℕ, ◌≤◌, max, List, [], ◌∷◌, map, Option, Some, None, arith}
use Rattle.std.specs.List.{AllByRecursion}
use Rattle.tb_ast.specs.declared.item.Struct.{Struct}
use Rattle.tb_ast.specs.declared.item.ResultType.{ResultType}
use Rattle.tb_ast.specs.declared.item.ExternBlock.{ExternBlock}
use Rattle.tb_ast.specs.Depth.{deepest, member_depth, parameter_depth, result_depth, foreign_depth}
use Rattle.tb_syntax.specs.declared.heads.FunctionHead.{FunctionHead}
use Rattle.tb_syntax.specs.Notes.{IsResult}
use Rattle.tb_syntax.specs.Items.{IsField, IsStruct, IsParameter, IsHead, IsForeign, IsExtern}
use Rattle.tb_expr.proofs.Within.{type-within}

pub first-within : (a b d : ℕ) → max a b ≤ d → a ≤ d
first-within a b d h = omega arith

pub second-within : (a b d : ℕ) → max a b ≤ d → b ≤ d
second-within a b d h = omega arith

-- what each is, all are
pub all-within : {A : Type 0} (P Q : A → Type 0) (depth : A → ℕ) (d : ℕ) → ((x : A) → P x → depth x ≤ d → Q x)
    → (xs : List A) → AllByRecursion P xs → deepest (map depth xs) ≤ d → AllByRecursion Q xs
all-within P Q depth d one [] h e = tt
all-within P Q depth d one (x ∷ xs) h e =
    (one x h.0 (first-within (depth x) (deepest (map depth xs)) d e), all-within P Q depth d one xs h.1 (second-within (depth x) (deepest (map depth xs)) d e))

pub struct-within : (n d : ℕ) (item : Struct) → IsStruct n item → deepest (map member_depth item.fields) ≤ d → IsStruct d item
struct-within n d item h e = (h.0, h.1, all-within (IsField n) (IsField d) member_depth d (λ field is below. type-within n d field.ty is below) item.fields h.2 e)

pub extern-within : (n d : ℕ) (block : ExternBlock) → IsExtern n block → deepest (map foreign_depth block.functions) ≤ d → IsExtern d block
extern-within n d block h e = all-within (IsForeign n) (IsForeign d) foreign_depth d (λ function is below. (is.0, type-within n d function.result.ty is.1 below)) block.functions h e

result-within : (n d : ℕ) (output : Option ResultType) → IsResult n output → result_depth output ≤ d → IsResult d output
result-within n d None h e = tt
result-within n d (Some output) h e = type-within n d output.ty h e

pub head-within : (n d : ℕ) (head : FunctionHead) → IsHead n head → deepest (map parameter_depth head.parameters) ≤ d → result_depth head.result ≤ d → IsHead d head
head-within n d head h e r =
    (h.0, h.1, all-within (IsParameter n) (IsParameter d) parameter_depth d (λ parameter is below. (is.0, type-within n d parameter.ty is.1 below)) head.parameters h.2 e, result-within n d head.result h.3 r)
