-- Types behind a mark: what is read stands there, and what stands there is read.
use Rattle.std.proofs.Common.{◌≡◌, ℕ, true, false, List, [], ◌∷◌, map, Option, Some, None, refl, ap, subst, ◌∙◌, inl, inr}
use Rattle.std.specs.List.{AllByRecursion}
use Rattle.tb_lex.specs.declared.punctuation.Punctuation.TheVariants.{Colon, Arrow, PathSep, Lt, Gt, Comma}
use Rattle.tb_ast.specs.declared.leaf.Mark.{Mark}
use Rattle.tb_ast.specs.declared.written.TypeExpr.{TypeExpr}
use Rattle.tb_ast.specs.declared.written.Turbofish.{Turbofish}
use Rattle.tb_ast.specs.declared.written.TypeNote.{TypeNote}
use Rattle.tb_ast.specs.declared.item.ResultType.{ResultType}
use Rattle.tb_ast.specs.Pieces.{punct, mark, separated}
use Rattle.tb_ast.specs.Types.{type_pieces, turbofish_pieces, note_pieces}
use Rattle.tb_ast.specs.Files.{result_row, optional_result}
use Rattle.tb_syntax.specs.State.{State, Begins, Stands}
use Rattle.tb_syntax.specs.Marks.{mark_at, punct_at, has_mark}
use Rattle.tb_syntax.specs.Lists.{IsListed, listed_at}
use Rattle.tb_syntax.specs.Types.{type_at}
use Rattle.tb_syntax.specs.Written.{IsType, type_ends}
use Rattle.tb_syntax.specs.Notes.{note_at, result_at, optional_result_at, turbofish_at, IsNote, IsResult, IsTurbofish, NoteEnds, ResultEnds, TurbofishEnds}
use Rattle.tb_syntax.proofs.Options.{bind_some, chosen, some_is}
use Rattle.tb_syntax.proofs.Chains.{stands-then, stands-split, stands-one, one-stands}
use Rattle.tb_syntax.proofs.Marks.{mark-sound, mark-complete, punct-sound, punct-complete, other-mark}
use Rattle.tb_syntax.proofs.Listed.{begins-has, listed-sound, listed-complete}
use Rattle.tb_syntax.proofs.Fronts.{begins-no-angle, mark-ends}
use Rattle.tb_syntax.proofs.Typed.{type-sound, type-complete, type-begins, type-may-end}

-- Types with commas between them, up to a mark that closes.

pub types-take : (depth : ℕ) (state : State) (types : List TypeExpr) (commas : List _) (rest : State) → listed_at (type_at depth) Gt state ≡ Some ((types, commas), rest)
    → Stands (separated Comma (map type_pieces types) commas) state rest × AllByRecursion (IsType depth) types × IsListed types commas
types-take depth state types commas rest e =
    listed-sound (type_at depth) Gt type_pieces (IsType depth) (λ s x r e. let t = type-sound depth s x r e in (t.stands, t.is)) state types commas rest e

pub types-complete : (depth : ℕ) (state : State) (types : List TypeExpr) (commas : List _) (closing : Mark) (middle rest : State) → AllByRecursion (IsType depth) types → IsListed types commas
    → Stands (separated Comma (map type_pieces types) commas) state middle → Begins (mark Gt closing) middle rest → listed_at (type_at depth) Gt state ≡ Some ((types, commas), middle)
types-complete depth state types commas closing middle rest good listed h last =
    listed-complete (type_at depth) Gt type_pieces (IsType depth) type_ends (λ s x r good e h. type-complete depth x s r good e h)
    (λ s x r good h. begins-no-angle s (type-begins depth x s r good h))
    (λ x good m s r h. type-may-end depth x s good (mark-ends Comma (record { span = m; glued = false }) s r refl refl h))
    state types commas middle (λ x good. type-may-end depth x middle good (mark-ends Gt closing middle rest refl refl last))
    (begins-has Gt closing middle rest last) (other-mark Gt Comma closing middle rest refl last) good listed h

-- `: T`

abbrev TakenNote : ℕ → State → Option TypeNote × State → Type 0
TakenNote depth state y = Stands (note_pieces y.0) state y.1 × IsNote depth y.0 × NoteEnds y.0 y.1

pub note-sound : (depth : ℕ) (state : State) (y : Option TypeNote × State) → note_at depth state ≡ Some y → TakenNote depth state y
unfolding note_at
note-sound depth state y e =
    elim (chosen (has_mark Colon state) _ _ y e) [
      | inl k ↦
          let colon = bind_some (punct_at Colon state) _ y k.1 in
          let ty = bind_some (type_at depth colon.0.1) _ y colon.2 in
          let t = type-sound depth colon.0.1 ty.0.0 ty.0.1 ty.1 in
          subst (TakenNote depth state) (some_is (Some (record { colon = colon.0.0; ty = ty.0.0 }), ty.0.1) y ty.2)
          ((colon.0.1, punct-sound Colon state colon.0.0 colon.0.1 colon.1, t.stands), t.is, t.ends)
      | inr k ↦ subst (TakenNote depth state) (some_is (None, state) y k.1) (refl, tt, k.0)
    ]

pub note-complete : (depth : ℕ) (state : State) (note : Option TypeNote) (rest : State) → IsNote depth note → NoteEnds note rest → Stands (note_pieces note) state rest → note_at depth state ≡ Some (note, rest)
unfolding note_at
note-complete depth state None rest is ends h =
    let same : state ≡ rest = h in
    let at : State → Option (Option TypeNote × State) = λ s. Some (None, s) in
    rw (ap (has_mark Colon) same ∙ ends) (ap at same)
note-complete depth state (Some note) rest is ends h =
    let m : Mark = record { span = note.colon; glued = false } in
    let first : Begins (punct Colon note.colon) state h.0 = h.1 in
    rw (begins-has Colon m state h.0 first) (rw (punct-complete Colon state note.colon h.0 first) (rw (type-complete depth note.ty h.0 rest is ends h.2) refl))

-- `-> T`

abbrev TakenResult : ℕ → State → ResultType × State → Type 0
TakenResult depth state y = Stands (result_row y.0) state y.1 × IsType depth y.0.ty × (type_ends y.0.ty y.1 ≡ true)

pub result-sound : (depth : ℕ) (state : State) (y : ResultType × State) → result_at depth state ≡ Some y → TakenResult depth state y
unfolding result_at
result-sound depth state y e =
    let arrow = bind_some (punct_at Arrow state) _ y e in
    let ty = bind_some (type_at depth arrow.0.1) _ y arrow.2 in
    let t = type-sound depth arrow.0.1 ty.0.0 ty.0.1 ty.1 in
    subst (TakenResult depth state) (some_is (record { arrow = arrow.0.0; ty = ty.0.0 }, ty.0.1) y ty.2)
    ((arrow.0.1, punct-sound Arrow state arrow.0.0 arrow.0.1 arrow.1, t.stands), t.is, t.ends)

pub result-complete : (depth : ℕ) (state : State) (output : ResultType) (rest : State) → IsType depth output.ty → type_ends output.ty rest ≡ true → Stands (result_row output) state rest → result_at depth state ≡ Some (output, rest)
unfolding result_at
result-complete depth state output rest is ends h =
    rw (punct-complete Arrow state output.arrow h.0 h.1) (rw (type-complete depth output.ty h.0 rest is ends h.2) refl)

abbrev TakenOutput : ℕ → State → Option ResultType × State → Type 0
TakenOutput depth state y = Stands (optional_result y.0) state y.1 × IsResult depth y.0 × ResultEnds y.0 y.1

pub output-sound : (depth : ℕ) (state : State) (y : Option ResultType × State) → optional_result_at depth state ≡ Some y → TakenOutput depth state y
unfolding optional_result_at
output-sound depth state y e =
    elim (chosen (has_mark Arrow state) _ _ y e) [
      | inl k ↦
          let x = bind_some (result_at depth state) _ y k.1 in
          subst (TakenOutput depth state) (some_is (Some x.0.0, x.0.1) y x.2) (result-sound depth state x.0 x.1)
      | inr k ↦ subst (TakenOutput depth state) (some_is (None, state) y k.1) (refl, tt, k.0)
    ]

pub output-complete : (depth : ℕ) (state : State) (output : Option ResultType) (rest : State) → IsResult depth output → ResultEnds output rest → Stands (optional_result output) state rest → optional_result_at depth state ≡ Some (output, rest)
unfolding optional_result_at
output-complete depth state None rest is ends h =
    let same : state ≡ rest = h in
    let at : State → Option (Option ResultType × State) = λ s. Some (None, s) in
    rw (ap (has_mark Arrow) same ∙ ends) (ap at same)
output-complete depth state (Some output) rest is ends h =
    let m : Mark = record { span = output.arrow; glued = false } in
    rw (begins-has Arrow m state h.0 h.1) (rw (result-complete depth state output rest is ends h) refl)

-- `::<T, ..>`

abbrev TakenTurbofish : ℕ → State → Option Turbofish × State → Type 0
TakenTurbofish depth state y = Stands (turbofish_pieces y.0) state y.1 × IsTurbofish depth y.0 × TurbofishEnds y.0 y.1

pub turbofish-sound : (depth : ℕ) (state : State) (y : Option Turbofish × State) → turbofish_at depth state ≡ Some y → TakenTurbofish depth state y
unfolding turbofish_at
turbofish-sound depth state y e =
    elim (chosen (has_mark PathSep state) _ _ y e) [
      | inl k ↦
          let separator = bind_some (punct_at PathSep state) _ y k.1 in
          let opening = bind_some (punct_at Lt separator.0.1) _ y separator.2 in
          let list = bind_some (listed_at (type_at depth) Gt opening.0.1) _ y opening.2 in
          let closing = bind_some (mark_at Gt list.0.1) _ y list.2 in
          let l = types-take depth opening.0.1 list.0.0.0 list.0.0.1 list.0.1 list.1 in
          subst (TakenTurbofish depth state) (some_is (Some (record { separator = separator.0.0; opening = opening.0.0; types = list.0.0.0; commas = list.0.0.1; closing = closing.0.0 }), closing.0.1) y closing.2) (
            (
              separator.0.1,
              punct-sound PathSep state separator.0.0 separator.0.1 separator.1,
              (
                opening.0.1,
                punct-sound Lt separator.0.1 opening.0.0 opening.0.1 opening.1,
                stands-then (separated Comma (map type_pieces list.0.0.0) list.0.0.1) (mark Gt closing.0.0 ∷ []) opening.0.1 list.0.1 closing.0.1 l.0
                    (one-stands (mark Gt closing.0.0) list.0.1 closing.0.1 (mark-sound Gt list.0.1 closing.0.0 closing.0.1 closing.1)),
              ),
            ),
            (l.2, l.1),
            tt,
          )
      | inr k ↦ subst (TakenTurbofish depth state) (some_is (None, state) y k.1) (refl, tt, k.0)
    ]

pub turbofish-complete : (depth : ℕ) (state : State) (turbofish : Option Turbofish) (rest : State) → IsTurbofish depth turbofish → TurbofishEnds turbofish rest → Stands (turbofish_pieces turbofish) state rest
    → turbofish_at depth state ≡ Some (turbofish, rest)
unfolding turbofish_at
turbofish-complete depth state None rest is ends h =
    let same : state ≡ rest = h in
    let at : State → Option (Option Turbofish × State) = λ s. Some (None, s) in
    rw (ap (has_mark PathSep) same ∙ ends) (ap at same)
turbofish-complete depth state (Some t) rest is ends h =
    let m : Mark = record { span = t.separator; glued = false } in
    let first : Begins (punct PathSep t.separator) state h.0 = h.1 in
    let o = h.2 in
    let second : Begins (punct Lt t.opening) h.0 o.0 = o.1 in
    let s = stands-split (separated Comma (map type_pieces t.types) t.commas) (mark Gt t.closing ∷ []) o.0 rest o.2 in
    let last = stands-one (mark Gt t.closing) s.0 rest s.2 in
    rw (begins-has PathSep m state h.0 first) (rw (punct-complete PathSep state t.separator h.0 first) (rw (punct-complete Lt h.0 t.opening o.0 second)
    (rw (types-complete depth o.0 t.types t.commas t.closing s.0 rest is.1 is.0 s.1 last) (rw (mark-complete Gt s.0 t.closing rest last) refl))))
