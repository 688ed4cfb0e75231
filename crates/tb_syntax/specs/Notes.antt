-- Reading types behind a mark: `: T`, `-> T` and `::<T, ..>`.
use Rattle.std.specs.Prelude.{◌≡◌, ℕ, true, false, if◌then◌else◌, Option, None, Some}
use Rattle.std.specs.List.{AllByRecursion}
use Rattle.tb_lex.specs.declared.punctuation.Punctuation.TheVariants.{Colon, Arrow, PathSep, Lt, Gt}
use Rattle.tb_ast.specs.declared.written.Turbofish.{Turbofish}
use Rattle.tb_ast.specs.declared.written.TypeNote.{TypeNote}
use Rattle.tb_ast.specs.declared.item.ResultType.{ResultType}
use Rattle.tb_syntax.specs.Reading.{◌>>=◌}
use Rattle.tb_syntax.specs.State.{State}
use Rattle.tb_syntax.specs.Marks.{mark_at, punct_at, has_mark}
use Rattle.tb_syntax.specs.Lists.{IsListed, listed_at}
use Rattle.tb_syntax.specs.Types.{type_at}
use Rattle.tb_syntax.specs.Written.{IsType, type_ends}

-- `: T`, or nothing
unfoldable pub note_at : ℕ → State → Option (Option TypeNote × State)
note_at depth state =
    if has_mark Colon state then (do
      colon ← punct_at Colon state
      ty ← type_at depth colon.1
      Some (Some (record { colon = colon.0; ty = ty.0 }), ty.1))
    else Some (None, state)

-- `-> T`
unfoldable pub result_at : ℕ → State → Option (ResultType × State)
result_at depth state = do
  arrow ← punct_at Arrow state
  ty ← type_at depth arrow.1
  Some (record { arrow = arrow.0; ty = ty.0 }, ty.1)

-- the same, or nothing
unfoldable pub optional_result_at : ℕ → State → Option (Option ResultType × State)
optional_result_at depth state =
    if has_mark Arrow state then (result_at depth state >>= λ x. Some (Some x.0, x.1)) else Some (None, state)

-- `::<T, ..>`, or nothing
unfoldable pub turbofish_at : ℕ → State → Option (Option Turbofish × State)
turbofish_at depth state =
    if has_mark PathSep state then (do
      separator ← punct_at PathSep state
      opening ← punct_at Lt separator.1
      list ← listed_at (type_at depth) Gt opening.1
      closing ← mark_at Gt list.1
      Some (Some (record { separator = separator.0; opening = opening.0; types = list.0.0; commas = list.0.1; closing = closing.0 }), closing.1))
    else Some (None, state)

-- as they are written, with types of at most this depth
abbrev pub IsNote : ℕ → Option TypeNote → Type 0
IsNote depth None = Unit {0}
IsNote depth (Some note) = IsType depth note.ty

abbrev pub IsResult : ℕ → Option ResultType → Type 0
IsResult depth None = Unit {0}
IsResult depth (Some output) = IsType depth output.ty

abbrev pub IsTurbofish : ℕ → Option Turbofish → Type 0
IsTurbofish depth None = Unit {0}
IsTurbofish depth (Some turbofish) = IsListed turbofish.types turbofish.commas × AllByRecursion (IsType depth) turbofish.types

-- what follows is no part of them
abbrev pub NoteEnds : Option TypeNote → State → Type 0
NoteEnds None rest = has_mark Colon rest ≡ false
NoteEnds (Some note) rest = type_ends note.ty rest ≡ true

abbrev pub ResultEnds : Option ResultType → State → Type 0
ResultEnds None rest = has_mark Arrow rest ≡ false
ResultEnds (Some output) rest = type_ends output.ty rest ≡ true

abbrev pub TurbofishEnds : Option Turbofish → State → Type 0
TurbofishEnds None rest = has_mark PathSep rest ≡ false
TurbofishEnds (Some turbofish) rest = Unit {0}
