-- How an expression goes on behind an operand.
use Rattle.std.specs.Prelude.{◌≡◌, ℕ, Bool, true, false, if◌then◌else◌, [], ◌∷◌, ◌++◌, length, ◌==◌, ◌&&◌, ◌||◌, Option, None, Some}
use Rattle.tb_perm.specs.declared.span.Span.{Span}
use Rattle.tb_lex.specs.declared.keyword.Keyword.TheVariants as keyword_of
use Rattle.tb_lex.specs.declared.punctuation.Punctuation.{Punctuation}
use Rattle.tb_lex.specs.declared.punctuation.Punctuation.TheVariants as punct_of
use Rattle.tb_ast.specs.declared.leaf.Mark.{Mark}
use Rattle.tb_ast.specs.declared.leaf.Ident.{Ident}
use Rattle.tb_ast.specs.declared.operator.BinaryOp.{BinaryOp}
use Rattle.tb_ast.specs.declared.operator.AssignOp.{AssignOp}
use Rattle.tb_ast.specs.declared.written.Turbofish.{Turbofish}
use Rattle.tb_ast.specs.Pieces.{punct, mark, keyword, ident, number}
use Rattle.tb_ast.specs.Types.{turbofish_pieces}
use Rattle.tb_ast.specs.Expressions.{binary_mark, assign_mark}
use Rattle.tb_syntax.specs.Reading.{◌>>=◌}
use Rattle.tb_syntax.specs.State.{State, Begins, Stands}
use Rattle.tb_syntax.specs.Marks.{first_mark, punct_at, has_mark}
use Rattle.tb_syntax.specs.Leaves.{keyword_at, name_at, has_name}
use Rattle.tb_syntax.specs.Notes.{turbofish_at, IsTurbofish}
use Rattle.tb_syntax.specs.Types.{length_at, type_at}
use Rattle.tb_syntax.specs.Written.{IsTypeAt}
use Rattle.tb_forms.specs.declared.step.Step.{Step}
use Rattle.tb_forms.specs.declared.step.Step.TheVariants as step
use Rattle.tb_forms.specs.Levels.{tightest_level, cast_level, target_level, loosest_level, binary_level, left_level, binary_of, assign_of}
use Rattle.tb_forms.specs.Fronts.{unless_glued}

-- Behind a dot.

-- a method may have one type
abbrev pub has_one_type : Option Turbofish → Bool
has_one_type None = true
has_one_type (Some turbofish) = (length turbofish.types == 1) && (length turbofish.commas == 0)

abbrev pub method_at : ℕ → Span → Ident → State → Option (Step × State)
method_at depth dot name state =
    turbofish_at depth state >>= λ turbofish. if has_one_type turbofish.0 then (punct_at punct_of.OpenParen turbofish.1 >>= λ opening. Some (step.MethodCall dot name turbofish.0 opening.0, opening.1)) else None

-- `(` or `::` behind the name makes it a method
abbrev pub is_called : State → Bool
is_called state = has_mark punct_of.OpenParen state || has_mark punct_of.PathSep state

unfoldable pub dot_step_at : ℕ → Span → State → Option (Step × State)
dot_step_at depth dot state =
    if has_name state then (name_at state >>= λ name. if is_called name.1 then method_at depth dot name.0 name.1 else Some (step.Field dot name.0, name.1))
    else (length_at state >>= λ index. Some (step.TupleField dot index.0, index.1))

-- Operators.

abbrev pub operator_step : Option BinaryOp → Option AssignOp → Mark → State → Option (Step × State)
operator_step (Some operator) assigns at rest = Some (step.Binary operator at, rest)
operator_step None (Some operator) at rest = unless_glued at (step.AssignOp operator at.span) rest
operator_step None None at rest = None

abbrev pub marked_step : ℕ → Punctuation → Mark → State → Option (Step × State)
marked_step depth punct_of.Dot at rest = if at.glued then None else dot_step_at depth at.span rest
marked_step depth punct_of.OpenBracket at rest = unless_glued at (step.Index at.span) rest
marked_step depth punct_of.Eq at rest = Some (step.Assign at, rest)
marked_step depth other at rest = operator_step (binary_of other) (assign_of other) at rest

unfoldable pub cast_step_at : ℕ → State → Option (Step × State)
cast_step_at depth state = keyword_at keyword_of.As state >>= λ at. type_at depth at.1 >>= λ ty. Some (step.Cast at.0 ty.0, ty.1)

abbrev pub step_with : ℕ → State → Option (Punctuation × Mark × State) → Option (Step × State)
step_with depth state (Some x) = marked_step depth x.0 x.1 x.2
step_with depth state None = cast_step_at depth state

-- with types of at most this depth
unfoldable pub step_at : ℕ → State → Option (Step × State)
step_at depth state = step_with depth state (first_mark state)

-- The levels of a step: its own, and the loosest operand on its left.

abbrev pub step_level : Step → ℕ
step_level (step.Cast at ty) = cast_level
step_level (step.Binary operator at) = binary_level operator
step_level (step.Assign equals) = loosest_level
step_level (step.AssignOp operator at) = loosest_level
step_level other = tightest_level

abbrev pub operand_level : Step → ℕ
operand_level (step.Cast at ty) = cast_level
operand_level (step.Binary operator at) = left_level operator
operand_level (step.Assign equals) = target_level
operand_level (step.AssignOp operator at) = target_level
operand_level other = tightest_level

-- As they are written.

abbrev pub IsOneType : Option Turbofish → Type 0
IsOneType None = Unit {0}
IsOneType (Some turbofish) = (length turbofish.types ≡ 1) × (length turbofish.commas ≡ 0)

abbrev pub IsStepAt : ℕ → State → Step → State → Type 0
IsStepAt depth state (step.Field dot name) rest =
    (middle : State) × Begins (punct punct_of.Dot dot) state middle × Begins (ident name) middle rest × (has_mark punct_of.OpenParen rest ≡ false) × (has_mark punct_of.PathSep rest ≡ false)
IsStepAt depth state (step.TupleField dot index) rest = (middle : State) × Begins (punct punct_of.Dot dot) state middle × Begins (number index) middle rest × (index.integer.suffix ≡ None)
IsStepAt depth state (step.MethodCall dot name turbofish opening) rest =
    Stands (punct punct_of.Dot dot ∷ ident name ∷ (turbofish_pieces turbofish ++ punct punct_of.OpenParen opening ∷ [])) state rest × IsTurbofish depth turbofish × IsOneType turbofish
IsStepAt depth state (step.Index opening) rest = Begins (punct punct_of.OpenBracket opening) state rest
IsStepAt depth state (step.Cast at ty) rest = (middle : State) × Begins (keyword keyword_of.As at) state middle × IsTypeAt depth middle ty rest
IsStepAt depth state (step.Binary operator at) rest = state ≡ mark (binary_mark operator) at ∷ rest
IsStepAt depth state (step.Assign equals) rest = state ≡ mark punct_of.Eq equals ∷ rest
IsStepAt depth state (step.AssignOp operator at) rest = state ≡ punct (assign_mark operator) at ∷ rest
