-- Types are written within their own depth: how deep they may lie beyond it makes no difference.
use Rattle.std.proofs.Common.{◌≡◌, ℕ, zero, suc, ◌+◌, ◌≤◌, List, [], ◌∷◌, map, Option, Some, None, subst, arith}
use Rattle.std.specs.Prelude.{max}
use Rattle.std.specs.List.{AllByRecursion}
use Rattle.tb_ast.specs.declared.written.TypeExpr.{TypeExpr, out-TypeExpr}
use Rattle.tb_ast.specs.declared.written.TypeArgument.{TypeArgument, out-TypeArgument}
use Rattle.tb_ast.specs.declared.written.TypeArguments.{TypeArguments, out-TypeArguments}
use Rattle.tb_ast.specs.declared.written.Turbofish.{Turbofish}
use Rattle.tb_ast.specs.declared.written.TypeNote.{TypeNote}
use Rattle.tb_ast.specs.declared.written.TypeArgument.TheOpen.{TypeExpr-F, TypeArgument-F}
use Rattle.tb_ast.specs.declared.written.TypeArgument.TheOpen.TypeExpr-F.{Unit as Nothing, Tuple, Slice, Array, Reference, Pointer, Path as PathType}
use Rattle.tb_ast.specs.declared.written.TypeArgument.TheFolds.{fold_out-TypeExpr, fold_out-TypeArgument, fold_out-TypeArguments, map-TypeExpr, map-TypeArgument}
use Rattle.tb_ast.specs.Depth.{deepest, type_step, argument_step, arguments_step, type_depth, argument_depth, arguments_depth, turbofish_depth, note_depth}
use Rattle.tb_syntax.specs.State.{State}
use Rattle.tb_syntax.specs.Written.{IsTypeRow, IsArgumentRow, IsArgument, AreArguments, IsType}
use Rattle.tb_syntax.specs.Notes.{IsNote, IsTurbofish}
use Rattle.tb_forms.specs.declared.place.Where.{Where}
use Rattle.tb_forms.specs.declared.front.Front.{Front}
use Rattle.tb_forms.specs.declared.front.Front.TheVariants as front
use Rattle.tb_forms.specs.declared.step.Step.{Step}
use Rattle.tb_forms.specs.declared.step.Step.TheVariants as step
use Rattle.tb_forms.specs.Fronts.{IsFrontAt}
use Rattle.tb_forms.specs.Steps.{IsStepAt}

abbrev Form : Type 0
Form = TypeExpr-F TypeArgument TypeExpr TypeArguments

abbrev form_depth : Form → ℕ
form_depth row = type_step (map-TypeExpr _ _ _ ℕ ℕ ℕ argument_depth type_depth arguments_depth row)

depth-out : (ty : TypeExpr) → type_depth ty ≡ form_depth (out-TypeExpr ty)
depth-out = fold_out-TypeExpr ℕ ℕ ℕ argument_step type_step arguments_step

abbrev part_depth : TypeArgument-F TypeArgument TypeExpr TypeArguments → ℕ
part_depth row = argument_step (map-TypeArgument _ _ _ ℕ ℕ ℕ argument_depth type_depth arguments_depth row)

argument-out : (a : TypeArgument) → argument_depth a ≡ part_depth (out-TypeArgument a)
argument-out = fold_out-TypeArgument ℕ ℕ ℕ argument_step type_step arguments_step

arguments-out : (a : TypeArguments) → arguments_depth a ≡ deepest (map argument_depth (out-TypeArguments a).arguments)
arguments-out = fold_out-TypeArguments ℕ ℕ ℕ argument_step type_step arguments_step

-- what holds of each up to its depth holds of all up to the greatest
all-within : {A : Type 0} (P Q : A → Type 0) (depth : A → ℕ) (d : ℕ) → ((x : A) → P x → depth x ≤ d → Q x)
    → (xs : List A) → AllByRecursion P xs → deepest (map depth xs) ≤ d → AllByRecursion Q xs
all-within P Q depth d part [] all b = tt
all-within P Q depth d part (x ∷ xs) all b =
    let more : max (depth x) (deepest (map depth xs)) ≤ d = b in
    let first : depth x ≤ d = omega arith in
    let others : deepest (map depth xs) ≤ d = omega arith in
    (part x all.0 first, all-within P Q depth d part xs all.1 others)

module _ (P Q : TypeExpr → Type 0) (d : ℕ) (part : (t : TypeExpr) → P t → type_depth t ≤ d → Q t) where
  argument-row-within : (row : TypeArgument-F TypeArgument TypeExpr TypeArguments) → IsArgumentRow P row → part_depth row ≤ d → IsArgumentRow Q row
  argument-row-within (TypeArgument-F.Lifetime name) h b = tt
  argument-row-within (TypeArgument-F.TypeExpr ty) h b = part ty h b

  argument-within : (a : TypeArgument) → IsArgument P a → argument_depth a ≤ d → IsArgument Q a
  argument-within a h b = argument-row-within (out-TypeArgument a) h (subst (λ n. n ≤ d) (argument-out a) b)

  arguments-within : (a : TypeArguments) → AreArguments P a → arguments_depth a ≤ d → AreArguments Q a
  arguments-within a h b =
      (h.0, all-within (IsArgument P) (IsArgument Q) argument_depth d argument-within (out-TypeArguments a).arguments h.1 (subst (λ n. n ≤ d) (arguments-out a) b))

  form-within : (row : Form) → IsTypeRow P row → form_depth row ≤ suc d → IsTypeRow Q row
  form-within (Nothing span opening closing) h b = h
  form-within (Tuple span opening parts commas closing) h b =
      let more : deepest (map type_depth parts) + 1 ≤ suc d = b in
      (h.0, h.1, h.2, all-within P Q type_depth d part parts h.3 (omega arith))
  form-within (Slice span opening element closing) h b = let more : type_depth element + 1 ≤ suc d = b in (h.0, part element h.1 (omega arith))
  form-within (Array span opening element semicolon int closing) h b = let more : type_depth element + 1 ≤ suc d = b in (h.0, h.1, part element h.2 (omega arith))
  form-within (Reference span and name mutable target) h b = let more : type_depth target + 1 ≤ suc d = b in (h.0, part target h.1 (omega arith))
  form-within (Pointer span star kind target) h b = let more : type_depth target + 1 ≤ suc d = b in (h.0, part target h.1 (omega arith))
  form-within (PathType span path None) h b = h
  form-within (PathType span path (Some list)) h b = let more : arguments_depth list + 1 ≤ suc d = b in (h.0, h.1, arguments-within list h.2 (omega arith))

-- a type is a node
form-some : (row : Form) → 1 ≤ form_depth row
form-some (Nothing span opening closing) = omega arith
form-some (Tuple span opening parts commas closing) = omega arith
form-some (Slice span opening element closing) = omega arith
form-some (Array span opening element semicolon int closing) = omega arith
form-some (Reference span and name mutable target) = omega arith
form-some (Pointer span star kind target) = omega arith
form-some (PathType span path None) = omega arith
form-some (PathType span path (Some list)) = omega arith

-- a type that is written with some depth is written with any that its own does not exceed
pub type-within : (n d : ℕ) (ty : TypeExpr) → IsType n ty → type_depth ty ≤ d → IsType d ty
type-within zero d ty h b = absurd h
type-within (suc n) zero ty h b =
    let some = form-some (out-TypeExpr ty) in
    let none : form_depth (out-TypeExpr ty) ≤ 0 = subst (λ m. m ≤ 0) (depth-out ty) b in
    absurd (omega arith)
type-within (suc n) (suc d) ty h b =
    form-within (IsType n) (IsType d) d (λ t i c. type-within n d t i c) (out-TypeExpr ty) h (subst (λ m. m ≤ suc d) (depth-out ty) b)

pub turbofish-within : (n d : ℕ) (turbofish : Option Turbofish) → IsTurbofish n turbofish → turbofish_depth turbofish ≤ d → IsTurbofish d turbofish
turbofish-within n d None h b = tt
turbofish-within n d (Some t) h b = (h.0, all-within (IsType n) (IsType d) type_depth d (type-within n d) t.types h.1 b)

pub note-within : (n d : ℕ) (note : Option TypeNote) → IsNote n note → note_depth note ≤ d → IsNote d note
note-within n d None h b = tt
note-within n d (Some note) h b = type-within n d note.ty h b

-- the depth of the types in what stands before the first expression, and of those in the first part of a step
abbrev pub front_depth : Front → ℕ
front_depth (front.Path path) = turbofish_depth path.turbofish
front_depth (front.Call callee opening) = turbofish_depth callee.turbofish
front_depth other = 0

pub front-within : (n d : ℕ) (place : Where) (state : State) (f : Front) (rest : State) → IsFrontAt n place state f rest → front_depth f ≤ d → IsFrontAt d place state f rest
front-within n d place state (front.Path path) rest h b =
    let p = h.0 in
    (record { plain = p.plain; stands = p.stands; span = p.span; is_path = p.is_path; types = turbofish-within n d path.turbofish p.types b; ends = p.ends }, h.1, h.2)
front-within n d place state (front.Call callee opening) rest h b =
    let p = h.1 in
    (h.0, record { plain = p.plain; stands = p.stands; span = p.span; is_path = p.is_path; types = turbofish-within n d callee.turbofish p.types b; ends = p.ends }, h.2)
front-within n d place state other rest h b = h

abbrev pub step_depth : Step → ℕ
step_depth (step.MethodCall dot name turbofish opening) = turbofish_depth turbofish
step_depth (step.Cast at ty) = type_depth ty
step_depth other = 0

pub step-within : (n d : ℕ) (state : State) (s : Step) (rest : State) → IsStepAt n state s rest → step_depth s ≤ d → IsStepAt d state s rest
step-within n d state (step.MethodCall dot name turbofish opening) rest h b = (h.0, turbofish-within n d turbofish h.1 b, h.2)
step-within n d state (step.Cast at ty) rest h b =
    let t = h.2 in
    (h.0, h.1, record { stands = t.stands; is = type-within n d ty t.is b; ends = t.ends })
step-within n d state other rest h b = h
