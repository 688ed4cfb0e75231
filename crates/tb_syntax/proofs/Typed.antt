-- Types: what is read stands there, and what stands there is read.
use Rattle.std.proofs.Common.{◌≡◌, ℕ, zero, suc, ◌≤◌, Bool, true, false, eqb, not, ◌&&◌, List, [], ◌∷◌, ◌++◌, map, length, Option, Some, None, refl, sym, ap, subst, ◌∙◌, inl, inr, arith}
use Rattle.std.specs.Prelude.{nat_le}
use Rattle.std.specs.List.{AllByRecursion}
use Rattle.std.proofs.lemmas.Bool.{leb-true, le-leb, eqb-true}
use Rattle.std.proofs.lemmas.Bool.Decides.{eqb_tells}
use Rattle.std.proofs.lemmas.List.{nil_from_length}
use Rattle.tb_perm.specs.declared.span.Span.{Span}
use Rattle.tb_lex.specs.declared.keyword.Keyword.TheVariants.{Mut}
use Rattle.tb_lex.specs.declared.suffix.Suffix.{Suffix}
use Rattle.tb_lex.specs.declared.punctuation.Punctuation.TheVariants.{OpenParen, CloseParen, OpenBracket, CloseBracket, And, Star, PathSep, Lt, Gt, Comma, Semicolon}
use Rattle.tb_lex.specs.declared.token.TokenKind.TheVariants as kind
use Rattle.tb_ast.specs.declared.piece.Piece.{Piece}
use Rattle.tb_ast.specs.declared.leaf.Mark.{Mark}
use Rattle.tb_ast.specs.declared.leaf.IntLiteral.{IntLiteral}
use Rattle.tb_ast.specs.declared.leaf.Path.{Path}
use Rattle.tb_ast.specs.declared.written.TypeExpr.{TypeExpr, roll-TypeExpr, out-TypeExpr}
use Rattle.tb_ast.specs.declared.written.TypeArgument.{TypeArgument, roll-TypeArgument, out-TypeArgument}
use Rattle.tb_ast.specs.declared.written.TypeArguments.{TypeArguments, roll-TypeArguments, out-TypeArguments}
use Rattle.tb_ast.specs.declared.written.TypeArgument.TheViews.{out-roll-TypeExpr, roll-out-TypeExpr, out-roll-TypeArgument, roll-out-TypeArgument, out-roll-TypeArguments, roll-out-TypeArguments}
use Rattle.tb_ast.specs.declared.written.TypeArgument.TheOpen.{TypeExpr-F, TypeArgument-F, TypeArguments-F}
use Rattle.tb_ast.specs.declared.written.TypeArgument.TheOpen.TypeExpr-F.{Unit as Nothing, Tuple, Slice, Array, Reference, Pointer, Path as PathType}
use Rattle.tb_ast.specs.declared.written.TypeArgument.TheFolds.{fold-TypeArgument, fold-TypeArguments, fold-roll-TypeExpr, fold-roll-TypeArgument, fold-roll-TypeArguments, fold_out-TypeExpr, fold_out-TypeArgument, fold_out-TypeArguments, map-TypeExpr, map-TypeArgument}
use Rattle.tb_ast.specs.Pieces.{punct, mark, lifetime, number, optional_keyword, separated, path_pieces}
use Rattle.tb_ast.specs.Types.{Row, optional_lifetime, pointer_keyword, type_row, argument_row, arguments_row, type_pieces, argument_pieces, arguments_pieces}
use Rattle.tb_syntax.specs.declared.types.TypeFront.{TypeFront}
use Rattle.tb_syntax.specs.declared.types.TypeFront.TheVariants as front
use Rattle.tb_syntax.specs.State.{State, Begins, Stands}
use Rattle.tb_syntax.specs.Marks.{mark_at, punct_at, has_mark}
use Rattle.tb_syntax.specs.Leaves.{lifetime_at, number_at, has_lifetime}
use Rattle.tb_syntax.specs.Lists.{Listed, IsListed, listed_at}
use Rattle.tb_syntax.specs.Paths.{from_to, goes_on, IsPath}
use Rattle.tb_ast.specs.Spans.{type_span}
use Rattle.tb_syntax.specs.Types.{type_front_at, tuple_of, tuple_at, length_of, length_at, array_at, argument_at, arguments_at, path_type_at, type_behind, type_at}
use Rattle.tb_syntax.specs.Written.{IsTypeRow, IsArgumentRow, IsArgument, AreArguments, IsType, ends_path, Ends, ends_step, ends_anywhere, type_ends, IsTypeAt}
use Rattle.tb_syntax.proofs.Options.{bind_some, kept, chosen, some_is}
use Rattle.tb_syntax.proofs.Chains.{stands-then, stands-split, stands-one, one-stands}
use Rattle.tb_syntax.proofs.Marks.{mark-sound, mark-complete, punct-sound, punct-complete, other-mark}
use Rattle.tb_syntax.proofs.Tokens.{token-no-mark, lifetime-sound, lifetime-complete, lifetime-has, number-sound, number-complete}
use Rattle.tb_syntax.proofs.Named.{goes-has}
use Rattle.tb_syntax.proofs.Listed.{begins-has, listed-sound, listed-complete}
use Rattle.tb_syntax.proofs.Fronts.{front_pieces, IsWhole, front-sound, paren-complete, bracket-complete, reference-complete, pointer-complete, path-first, path-front-complete, BeginsType, WithMark, WithName, begins-no-keyword, begins-no-lifetime, begins-no-paren, begins-no-angle, mark-ends}

-- A type by its form.

abbrev Form : Type 0
Form = TypeExpr-F TypeArgument TypeExpr TypeArguments

abbrev form_pieces : Form → List Piece
form_pieces row = type_row (map-TypeExpr _ _ _ Row Row Row argument_pieces type_pieces arguments_pieces row)

abbrev argument_ends : TypeArgument → Ends
argument_ends = fold-TypeArgument Ends Ends Ends ends_anywhere ends_step ends_anywhere

abbrev arguments_ends : TypeArguments → Ends
arguments_ends = fold-TypeArguments Ends Ends Ends ends_anywhere ends_step ends_anywhere

abbrev form_ends : Form → Ends
form_ends row = ends_step (map-TypeExpr _ _ _ Ends Ends Ends argument_ends type_ends arguments_ends row)

pieces-roll : (row : Form) → type_pieces (roll-TypeExpr row) ≡ form_pieces row
pieces-roll = fold-roll-TypeExpr Row Row Row argument_row type_row arguments_row

pieces-out : (ty : TypeExpr) → type_pieces ty ≡ form_pieces (out-TypeExpr ty)
pieces-out = fold_out-TypeExpr Row Row Row argument_row type_row arguments_row

ends-roll : (row : Form) → type_ends (roll-TypeExpr row) ≡ form_ends row
ends-roll = fold-roll-TypeExpr Ends Ends Ends ends_anywhere ends_step ends_anywhere

ends-out : (ty : TypeExpr) → type_ends ty ≡ form_ends (out-TypeExpr ty)
ends-out = fold_out-TypeExpr Ends Ends Ends ends_anywhere ends_step ends_anywhere

argument-roll : (row : TypeArgument-F TypeArgument TypeExpr TypeArguments) → argument_pieces (roll-TypeArgument row) ≡ argument_row (map-TypeArgument _ _ _ Row Row Row argument_pieces type_pieces arguments_pieces row)
argument-roll = fold-roll-TypeArgument Row Row Row argument_row type_row arguments_row

argument-out : (a : TypeArgument) → argument_pieces a ≡ argument_row (map-TypeArgument _ _ _ Row Row Row argument_pieces type_pieces arguments_pieces (out-TypeArgument a))
argument-out = fold_out-TypeArgument Row Row Row argument_row type_row arguments_row

abbrev list_pieces : TypeArguments-F TypeArgument TypeExpr TypeArguments → List Piece
list_pieces row = punct Lt row.opening ∷ (separated Comma (map argument_pieces row.arguments) row.commas ++ mark Gt row.closing ∷ [])

arguments-roll : (row : TypeArguments-F TypeArgument TypeExpr TypeArguments) → arguments_pieces (roll-TypeArguments row) ≡ list_pieces row
arguments-roll = fold-roll-TypeArguments Row Row Row argument_row type_row arguments_row

arguments-out : (a : TypeArguments) → arguments_pieces a ≡ list_pieces (out-TypeArguments a)
arguments-out = fold_out-TypeArguments Row Row Row argument_row type_row arguments_row

-- a form of type stands there, as it is written, and may end there
record TakenForm (depth : ℕ) (state : State) (row : Form) (rest : State) : Type 0 where
  stands : Stands (form_pieces row) state rest
  is : IsTypeRow (IsType depth) row
  ends : form_ends row rest ≡ true

taken-roll : (depth : ℕ) (state : State) (row : Form) (rest : State) → TakenForm depth state row rest → IsTypeAt (suc depth) state (roll-TypeExpr row) rest
taken-roll depth state row rest t = record {
  stands = subst (λ ps. Stands ps state rest) (sym (pieces-roll row)) t.stands;
  is = subst (IsTypeRow (IsType depth)) (sym (out-roll-TypeExpr row)) t.is;
  ends = ap (λ (f : Ends). f rest) (ends-roll row) ∙ t.ends;
}

-- What is read.

module _ (depth : ℕ) (start : State) where
  abbrev Goal : TypeExpr × State → Type 0
  Goal y = IsTypeAt (suc depth) start y.0 y.1

  close-tuple : (opening : Span) (parts : Listed TypeExpr) (state : State) (y : TypeExpr × State)
      → Stands (punct OpenParen opening ∷ separated Comma (map type_pieces parts.0) parts.1) start state → AllByRecursion (IsType depth) parts.0 → IsListed parts.0 parts.1
      → tuple_at opening parts state ≡ Some y → Goal y
  unfolding tuple_at
  close-tuple opening parts state y stands good listed e =
      let closing = bind_some (punct_at CloseParen state) _ y e in
      let at = closing.0.0 in
      let rest = closing.0.1 in
      let last = punct-sound CloseParen state at rest closing.1 in
      let ty = bind_some (tuple_of opening parts at) _ y closing.2 in
      let whole = stands-then (punct OpenParen opening ∷ separated Comma (map type_pieces parts.0) parts.1) (punct CloseParen at ∷ []) start state rest stands (one-stands (punct CloseParen at) state rest last) in
      let span = from_to opening at in
      subst Goal (some_is (ty.0, rest) y ty.2)
      (elim (chosen (eqb (length parts.0) 0) _ _ ty.0 ty.1) [
        | inl k ↦
            let none = nil_from_length parts.0 (eqb-true (length parts.0) 0 k.0) in
            let unit : Stands (punct OpenParen opening ∷ punct CloseParen at ∷ []) start rest =
            subst (λ (ps : List TypeExpr). Stands ((punct OpenParen opening ∷ separated Comma (map type_pieces ps) parts.1) ++ punct CloseParen at ∷ []) start rest) none whole in
            subst (λ t. IsTypeAt (suc depth) start t rest) (some_is (roll-TypeExpr (Nothing span opening at)) ty.0 k.1)
            (taken-roll depth start (Nothing span opening at) rest (record { stands = unit; is = refl; ends = refl }))
        | inr k ↦
            let two = kept (nat_le 2 (length parts.0)) _ ty.0 k.1 in
            subst (λ t. IsTypeAt (suc depth) start t rest) (some_is (roll-TypeExpr (Tuple span opening parts.0 parts.1 at)) ty.0 two.1)
            (taken-roll depth start (Tuple span opening parts.0 parts.1 at) rest (record { stands = whole; is = (refl, leb-true 2 (length parts.0) two.0, listed, good); ends = refl }))
      ])

  length-plain : (o : Option Suffix) (int : IntLiteral) (state : State) (y : IntLiteral × State) → int.integer.suffix ≡ o → length_of o int state ≡ Some y → (int.integer.suffix ≡ None) × ((int, state) ≡ y)
  length-plain None int state y plain e = (plain, some_is (int, state) y e)
  length-plain (Some suffix) int state y plain e = absurd cc

  length-sound : (state : State) (int : IntLiteral) (rest : State) → length_at state ≡ Some (int, rest) → Begins (number int) state rest × (int.integer.suffix ≡ None)
  unfolding length_at
  length-sound state int rest e =
      let x = bind_some (number_at state) _ (int, rest) e in
      let p = length-plain x.0.0.integer.suffix x.0.0 x.0.1 (int, rest) refl x.2 in
      let is : IntLiteral × State → Type 0 = λ y. Begins (number y.0) state y.1 × (y.0.integer.suffix ≡ None) in
      subst is p.1 (number-sound state x.0.0 x.0.1 x.1, p.0)

  close-array : (opening : Span) (element : TypeExpr) (state : State) (y : TypeExpr × State)
      → Stands (punct OpenBracket opening ∷ type_pieces element) start state → IsType depth element → array_at opening element state ≡ Some y → Goal y
  unfolding array_at
  close-array opening element state y stands good e =
      elim (chosen (has_mark Semicolon state) _ _ y e) [
        | inl k ↦
            let semicolon = bind_some (punct_at Semicolon state) _ y k.1 in
            let int = bind_some (length_at semicolon.0.1) _ y semicolon.2 in
            let closing = bind_some (punct_at CloseBracket int.0.1) _ y int.2 in
            let at = closing.0.0 in
            let rest = closing.0.1 in
            let number_there = length-sound semicolon.0.1 int.0.0 int.0.1 int.1 in
            let back : Stands (punct Semicolon semicolon.0.0 ∷ number int.0.0 ∷ punct CloseBracket at ∷ []) state rest =
            (semicolon.0.1, punct-sound Semicolon state semicolon.0.0 semicolon.0.1 semicolon.1, (int.0.1, number_there.0, one-stands (punct CloseBracket at) int.0.1 rest (punct-sound CloseBracket int.0.1 at rest closing.1))) in
            let row = Array (from_to opening at) opening element semicolon.0.0 int.0.0 at in
            subst Goal (some_is (roll-TypeExpr row, rest) y closing.2)
            (taken-roll depth start row rest (record {
              stands = stands-then (punct OpenBracket opening ∷ type_pieces element) (punct Semicolon semicolon.0.0 ∷ number int.0.0 ∷ punct CloseBracket at ∷ []) start state rest stands back;
              is = (refl, number_there.1, good);
              ends = refl;
            }))
        | inr k ↦
            let closing = bind_some (punct_at CloseBracket state) _ y k.1 in
            let at = closing.0.0 in
            let rest = closing.0.1 in
            let row = Slice (from_to opening at) opening element at in
            subst Goal (some_is (roll-TypeExpr row, rest) y closing.2)
            (taken-roll depth start row rest (record {
              stands = stands-then (punct OpenBracket opening ∷ type_pieces element) (punct CloseBracket at ∷ []) start state rest stands (one-stands (punct CloseBracket at) state rest (punct-sound CloseBracket state at rest closing.1));
              is = (refl, good);
              ends = refl;
            }))
      ]

  module _ (one_sound : (state : State) (ty : TypeExpr) (rest : State) → type_at depth state ≡ Some (ty, rest) → IsTypeAt depth state ty rest) where
    part-sound : (state : State) (ty : TypeExpr) (rest : State) → type_at depth state ≡ Some (ty, rest) → Stands (type_pieces ty) state rest × IsType depth ty
    part-sound state ty rest e = let t = one_sound state ty rest e in (t.stands, t.is)

    argument-sound : (state : State) (a : TypeArgument) (rest : State) → argument_at (type_at depth) state ≡ Some (a, rest) → Stands (argument_pieces a) state rest × IsArgument (IsType depth) a
    unfolding argument_at
    argument-sound state a rest e =
        let is : TypeArgument × State → Type 0 = λ y. Stands (argument_pieces y.0) state y.1 × IsArgument (IsType depth) y.0 in
        let rolled : (row : TypeArgument-F TypeArgument TypeExpr TypeArguments) (r : State) → Stands (argument_row (map-TypeArgument _ _ _ Row Row Row argument_pieces type_pieces arguments_pieces row)) state r → IsArgumentRow (IsType depth) row → is (roll-TypeArgument row, r) =
        λ row r s i. (subst (λ ps. Stands ps state r) (sym (argument-roll row)) s, subst (IsArgumentRow (IsType depth)) (sym (out-roll-TypeArgument row)) i) in
        elim (chosen (has_lifetime state) _ _ (a, rest) e) [
          | inl k ↦
              let x = bind_some (lifetime_at state) _ (a, rest) k.1 in
              subst is (some_is (roll-TypeArgument (TypeArgument-F.Lifetime x.0.0), x.0.1) (a, rest) x.2)
              (rolled (TypeArgument-F.Lifetime x.0.0) x.0.1 (one-stands (lifetime x.0.0) state x.0.1 (lifetime-sound state x.0.0 x.0.1 x.1)) tt)
          | inr k ↦
              let x = bind_some (type_at depth state) _ (a, rest) k.1 in
              let t = part-sound state x.0.0 x.0.1 x.1 in
              subst is (some_is (roll-TypeArgument (TypeArgument-F.TypeExpr x.0.0), x.0.1) (a, rest) x.2)
              (rolled (TypeArgument-F.TypeExpr x.0.0) x.0.1 t.0 t.1)
        ]

    arguments-take : (state : State) (a : TypeArguments) (rest : State) → arguments_at (type_at depth) state ≡ Some (a, rest) → Stands (arguments_pieces a) state rest × AreArguments (IsType depth) a
    unfolding arguments_at
    arguments-take state a rest e =
        let opening = bind_some (punct_at Lt state) _ (a, rest) e in
        let list = bind_some (listed_at (argument_at (type_at depth)) Gt opening.0.1) _ (a, rest) opening.2 in
        let closing = bind_some (mark_at Gt list.0.1) _ (a, rest) list.2 in
        let row : TypeArguments-F TypeArgument TypeExpr TypeArguments = record { opening = opening.0.0; arguments = list.0.0.0; commas = list.0.0.1; closing = closing.0.0 } in
        let l = listed-sound (argument_at (type_at depth)) Gt argument_pieces (IsArgument (IsType depth)) argument-sound opening.0.1 list.0.0.0 list.0.0.1 list.0.1 list.1 in
        let is : TypeArguments × State → Type 0 = λ y. Stands (arguments_pieces y.0) state y.1 × AreArguments (IsType depth) y.0 in
        let whole : Stands (list_pieces row) state closing.0.1 = (
          opening.0.1,
          punct-sound Lt state opening.0.0 opening.0.1 opening.1,
          stands-then (separated Comma (map argument_pieces list.0.0.0) list.0.0.1) (mark Gt closing.0.0 ∷ []) opening.0.1 list.0.1 closing.0.1 l.0
              (one-stands (mark Gt closing.0.0) list.0.1 closing.0.1 (mark-sound Gt list.0.1 closing.0.0 closing.0.1 closing.1)),
        ) in
        let listed : IsListed row.arguments row.commas × AllByRecursion (IsArgument (IsType depth)) row.arguments = (l.2, l.1) in
        let AreIn : TypeArguments-F TypeArgument TypeExpr TypeArguments → Type 0 = λ r. IsListed r.arguments r.commas × AllByRecursion (IsArgument (IsType depth)) r.arguments in
        subst is (some_is (roll-TypeArguments row, closing.0.1) (a, rest) closing.2)
        (subst (λ ps. Stands ps state closing.0.1) (sym (arguments-roll row)) whole, subst AreIn (sym (out-roll-TypeArguments row)) listed)

    path-type-sound : (path : Path) (state : State) (y : TypeExpr × State) → Stands (path_pieces path) start state → IsPath path → goes_on PathSep state ≡ false
        → path_type_at (type_at depth) path state ≡ Some y → Goal y
    unfolding path_type_at
    path-type-sound path state y stands is stop e =
        elim (chosen (has_mark Lt state) _ _ y e) [
          | inl k ↦
              let x = bind_some (arguments_at (type_at depth) state) _ y k.1 in
              let a = arguments-take state x.0.0 x.0.1 x.1 in
              let row = PathType (from_to path.span (out-TypeArguments x.0.0).closing.span) path (Some x.0.0) in
              subst Goal (some_is (roll-TypeExpr row, x.0.1) y x.2)
              (taken-roll depth start row x.0.1 (record { stands = stands-then (path_pieces path) (arguments_pieces x.0.0) start state x.0.1 stands a.0; is = (refl, is, a.1); ends = refl }))
          | inr k ↦
              let row = PathType path.span path None in
              let ends : ends_path state ≡ true = rw (stop, k.0) refl in
              subst Goal (some_is (roll-TypeExpr row, state) y k.1)
              (taken-roll depth start row state (record { stands = stands-then (path_pieces path) [] start state state stands refl; is = (refl, is); ends = ends }))
        ]

    behind-sound : (f : TypeFront) (state : State) (y : TypeExpr × State) → Stands (front_pieces f) start state → IsWhole f state → type_behind (type_at depth) f state ≡ Some y → Goal y
    unfolding type_behind
    behind-sound (front.Paren opening) state y stands whole e =
        let parts = bind_some (listed_at (type_at depth) CloseParen state) _ y e in
        let l = listed-sound (type_at depth) CloseParen type_pieces (IsType depth) part-sound state parts.0.0.0 parts.0.0.1 parts.0.1 parts.1 in
        close-tuple opening parts.0.0 parts.0.1 y (stands-then (punct OpenParen opening ∷ []) (separated Comma (map type_pieces parts.0.0.0) parts.0.0.1) start state parts.0.1 stands l.0) l.1 l.2 parts.2
    behind-sound (front.Bracket opening) state y stands whole e =
        let element = bind_some (type_at depth state) _ y e in
        let t = part-sound state element.0.0 element.0.1 element.1 in
        close-array opening element.0.0 element.0.1 y (stands-then (punct OpenBracket opening ∷ []) (type_pieces element.0.0) start state element.0.1 stands t.0) t.1 element.2
    behind-sound (front.Reference and name mutable) state y stands whole e =
        let target = bind_some (type_at depth state) _ y e in
        let t = one_sound state target.0.0 target.0.1 target.1 in
        let row = Reference (from_to and.span (type_span target.0.0)) and name mutable target.0.0 in
        let first : Begins (mark And and) start stands.0 = stands.1 in
        let parts = stands-split (optional_lifetime name) (optional_keyword Mut mutable) stands.0 state stands.2 in
        let all : Stands (form_pieces row) start target.0.1 = (
          stands.0,
          first,
          stands-then (optional_lifetime name) (optional_keyword Mut mutable ++ type_pieces target.0.0) stands.0 parts.0 target.0.1 parts.1
              (stands-then (optional_keyword Mut mutable) (type_pieces target.0.0) parts.0 state target.0.1 parts.2 t.stands),
        ) in
        subst Goal (some_is (roll-TypeExpr row, target.0.1) y target.2)
        (taken-roll depth start row target.0.1 (record { stands = all; is = (refl, t.is); ends = t.ends }))
    behind-sound (front.Pointer star k) state y stands whole e =
        let target = bind_some (type_at depth state) _ y e in
        let t = one_sound state target.0.0 target.0.1 target.1 in
        let row = Pointer (from_to star (type_span target.0.0)) star k target.0.0 in
        subst Goal (some_is (roll-TypeExpr row, target.0.1) y target.2)
        (taken-roll depth start row target.0.1 (record {
          stands = stands-then (punct Star star ∷ pointer_keyword k ∷ []) (type_pieces target.0.0) start state target.0.1 stands t.stands;
          is = (refl, t.is);
          ends = t.ends;
        }))
    behind-sound (front.Path path) state y stands whole e = path-type-sound path state y stands whole.0 whole.1 e

-- a type that is read stands there
pub type-sound : (depth : ℕ) (state : State) (ty : TypeExpr) (rest : State) → type_at depth state ≡ Some (ty, rest) → IsTypeAt depth state ty rest
unfolding type_at
type-sound zero state ty rest e = absurd cc
type-sound (suc depth) state ty rest e =
    let x = bind_some (type_front_at state) _ (ty, rest) e in
    let f = front-sound state x.0 x.1 in
    behind-sound depth state (type-sound depth) x.0.0 x.0.1 (ty, rest) f.0 f.1 x.2

-- What stands there.

form-begins : (Part : TypeExpr → Type 0) (row : Form) (state rest : State) → IsTypeRow Part row → Stands (form_pieces row) state rest → BeginsType state
form-begins Part (Nothing span opening closing) state rest is h = WithMark OpenParen (record { span = opening; glued = false }) h.0 refl refl h.1
form-begins Part (Tuple span opening parts commas closing) state rest is h = WithMark OpenParen (record { span = opening; glued = false }) h.0 refl refl h.1
form-begins Part (Slice span opening element closing) state rest is h = WithMark OpenBracket (record { span = opening; glued = false }) h.0 refl refl h.1
form-begins Part (Array span opening element semicolon int closing) state rest is h = WithMark OpenBracket (record { span = opening; glued = false }) h.0 refl refl h.1
form-begins Part (Reference span and name mutable target) state rest is h = WithMark And and h.0 refl refl h.1
form-begins Part (Pointer span star k target) state rest is h = WithMark Star (record { span = star; glued = false }) h.0 refl refl h.1
form-begins Part (PathType span path None) state rest is h =
    let parts = stands-split (path_pieces path) [] state rest h in
    let f = path-first path state parts.0 is.1 parts.1 in
    WithName f.0 f.1 f.2
form-begins Part (PathType span path (Some list)) state rest is h =
    let parts = stands-split (path_pieces path) (arguments_pieces list) state rest h in
    let f = path-first path state parts.0 is.1 parts.1 in
    WithName f.0 f.1 f.2

-- a type begins with a mark or a name
pub type-begins : (depth : ℕ) (ty : TypeExpr) (state rest : State) → IsType depth ty → Stands (type_pieces ty) state rest → BeginsType state
type-begins zero ty state rest is h = absurd is
type-begins (suc depth) ty state rest is h = form-begins (IsType depth) (out-TypeExpr ty) state rest is (subst (λ ps. Stands ps state rest) (pieces-out ty) h)

-- a type may end where a path may
form-may-end : (depth : ℕ) (state : State) → ((ty : TypeExpr) → IsType depth ty → type_ends ty state ≡ true) → ends_path state ≡ true
    → (row : Form) → IsTypeRow (IsType depth) row → form_ends row state ≡ true
form-may-end depth state part e (Nothing span opening closing) is = refl
form-may-end depth state part e (Tuple span opening parts commas closing) is = refl
form-may-end depth state part e (Slice span opening element closing) is = refl
form-may-end depth state part e (Array span opening element semicolon int closing) is = refl
form-may-end depth state part e (Reference span and name mutable target) is = part target is.1
form-may-end depth state part e (Pointer span star k target) is = part target is.1
form-may-end depth state part e (PathType span path None) is = e
form-may-end depth state part e (PathType span path (Some list)) is = refl

pub type-may-end : (depth : ℕ) (ty : TypeExpr) (state : State) → IsType depth ty → ends_path state ≡ true → type_ends ty state ≡ true
type-may-end zero ty state is e = absurd is
type-may-end (suc depth) ty state is e =
    ap (λ (f : Ends). f state) (ends-out ty) ∙ form-may-end depth state (λ t i. type-may-end depth t state i e) e (out-TypeExpr ty) is

neither : (a b : Bool) → (not a && not b) ≡ true → (a ≡ false) × (b ≡ false)
neither true b e = absurd cc
neither false true e = absurd cc
neither false false e = (refl, refl)

length-complete : (state : State) (int : IntLiteral) (rest : State) → int.integer.suffix ≡ None → Begins (number int) state rest → length_at state ≡ Some (int, rest)
unfolding length_at
length-complete state int rest plain h = rw (number-complete state int rest h) (ap (λ o. length_of o int rest) plain)

module _ (depth : ℕ) where
  abbrev OneComplete : Type 0
  OneComplete = (ty : TypeExpr) (state rest : State) → IsType depth ty → type_ends ty rest ≡ true → Stands (type_pieces ty) state rest → type_at depth state ≡ Some (ty, rest)

  abbrev typed : TypeExpr → State → Option (TypeExpr × State)
  typed ty rest = Some (ty, rest)

  front-behind : (state : State) (f : TypeFront) (middle rest : State) (row : Form) → type_front_at state ≡ Some (f, middle) → type_behind (type_at depth) f middle ≡ typed (roll-TypeExpr row) rest → type_at (suc depth) state ≡ typed (roll-TypeExpr row) rest
  unfolding type_at
  front-behind state f middle rest row e b = rw e b

  before-comma : (x : TypeExpr) → IsType depth x → (m : Span) (state rest : State) → Begins (punct Comma m) state rest → type_ends x state ≡ true
  before-comma x is m state rest h = type-may-end depth x state is (mark-ends Comma (record { span = m; glued = false }) state rest refl refl h)

  tuple-two : (opening : Span) (parts : Listed TypeExpr) (closing : Span) → 2 ≤ length parts.0 → tuple_of opening parts closing ≡ Some (roll-TypeExpr (Tuple (from_to opening closing) opening parts.0 parts.1 closing))
  tuple-two opening parts closing two =
      elim (eqb_tells (length parts.0) 0) [
        | inl k ↦ let none : length parts.0 ≡ 0 = k.1 in absurd (omega arith)
        | inr k ↦ rw (k.0, le-leb 2 (length parts.0) two) refl
      ]

  module _ (one_complete : OneComplete) where
    argument-complete : (state : State) (a : TypeArgument) (rest : State) → IsArgument (IsType depth) a → ends_path rest ≡ true → Stands (argument_pieces a) state rest → argument_at (type_at depth) state ≡ Some (a, rest)
    unfolding argument_at
    argument-complete state a rest is e h =
        let at : TypeArgument → Option (TypeArgument × State) = λ a. Some (a, rest) in
        of (out-TypeArgument a) is (subst (λ ps. Stands ps state rest) (argument-out a) h) ∙ ap at (roll-out-TypeArgument a) where
          of : (row : TypeArgument-F TypeArgument TypeExpr TypeArguments) → IsArgumentRow (IsType depth) row → Stands (argument_row (map-TypeArgument _ _ _ Row Row Row argument_pieces type_pieces arguments_pieces row)) state rest
              → argument_at (type_at depth) state ≡ Some (roll-TypeArgument row, rest)
          of (TypeArgument-F.Lifetime name) is h =
              let b = stands-one (lifetime name) state rest h in
              rw (lifetime-has state name rest b) (rw (lifetime-complete state name rest b) refl)
          of (TypeArgument-F.TypeExpr ty) is h =
              rw (begins-no-lifetime state (type-begins depth ty state rest is h)) (rw (one_complete ty state rest is (type-may-end depth ty rest is e) h) refl)

    argument-no-angle : (state : State) (a : TypeArgument) (rest : State) → IsArgument (IsType depth) a → Stands (argument_pieces a) state rest → has_mark Gt state ≡ false
    argument-no-angle state a rest is h = of (out-TypeArgument a) is (subst (λ ps. Stands ps state rest) (argument-out a) h) where
      of : (row : TypeArgument-F TypeArgument TypeExpr TypeArguments) → IsArgumentRow (IsType depth) row → Stands (argument_row (map-TypeArgument _ _ _ Row Row Row argument_pieces type_pieces arguments_pieces row)) state rest
          → has_mark Gt state ≡ false
      of (TypeArgument-F.Lifetime name) is h = token-no-mark (kind.Lifetime name.name) Gt name.span state rest refl (stands-one (lifetime name) state rest h)
      of (TypeArgument-F.TypeExpr ty) is h = begins-no-angle state (type-begins depth ty state rest is h)

    abbrev path_free : TypeArgument → State → Bool
    path_free a state = ends_path state

    arguments-complete : (state : State) (a : TypeArguments) (rest : State) → AreArguments (IsType depth) a → Stands (arguments_pieces a) state rest → arguments_at (type_at depth) state ≡ Some (a, rest)
    unfolding arguments_at
    arguments-complete state a rest is h =
        let row = out-TypeArguments a in
        let s : Stands (list_pieces row) state rest = subst (λ ps. Stands ps state rest) (arguments-out a) h in
        let parts = stands-split (separated Comma (map argument_pieces row.arguments) row.commas) (mark Gt row.closing ∷ []) s.0 rest s.2 in
        let last : Begins (mark Gt row.closing) parts.0 rest = stands-one (mark Gt row.closing) parts.0 rest parts.2 in
        let list = listed-complete (argument_at (type_at depth)) Gt argument_pieces (IsArgument (IsType depth)) path_free argument-complete argument-no-angle
        (λ x good m s r b. mark-ends Comma (record { span = m; glued = false }) s r refl refl b)
        s.0 row.arguments row.commas parts.0 (λ x good. mark-ends Gt row.closing parts.0 rest refl refl last)
        (begins-has Gt row.closing parts.0 rest last) (other-mark Gt Comma row.closing parts.0 rest refl last) is.1 is.0 parts.1 in
        let at : TypeArguments → Option (TypeArguments × State) = λ a. Some (a, rest) in
        rw (punct-complete Lt state row.opening s.0 s.1) (rw list (rw (mark-complete Gt parts.0 row.closing rest last) (ap at (roll-out-TypeArguments a))))

    tuple-complete : (opening closing : Span) (parts : List TypeExpr) (commas : List Span) (state rest : State) → AllByRecursion (IsType depth) parts → IsListed parts commas
        → Stands (separated Comma (map type_pieces parts) commas ++ punct CloseParen closing ∷ []) state rest
        → (middle : State) × (listed_at (type_at depth) CloseParen state ≡ Some ((parts, commas), middle)) × (punct_at CloseParen middle ≡ Some (closing, rest))
    tuple-complete opening closing parts commas state rest good listed h =
        let s = stands-split (separated Comma (map type_pieces parts) commas) (punct CloseParen closing ∷ []) state rest h in
        let m : Mark = record { span = closing; glued = false } in
        let last = stands-one (punct CloseParen closing) s.0 rest s.2 in (
          s.0,
          listed-complete (type_at depth) CloseParen type_pieces (IsType depth) type_ends (λ s x r good e h. one_complete x s r good e h)
              (λ s x r good h. begins-no-paren s (type-begins depth x s r good h)) before-comma state parts commas s.0
              (λ x good. type-may-end depth x s.0 good (mark-ends CloseParen m s.0 rest refl refl last))
              (begins-has CloseParen m s.0 rest last) (other-mark CloseParen Comma m s.0 rest refl last) good listed s.1,
          punct-complete CloseParen s.0 closing rest last,
        )

    form-complete : (row : Form) (state rest : State) → IsTypeRow (IsType depth) row → form_ends row rest ≡ true → Stands (form_pieces row) state rest → type_at (suc depth) state ≡ typed (roll-TypeExpr row) rest
    unfolding type_behind tuple_at array_at path_type_at
    form-complete (Nothing span opening closing) state rest is e h =
        let t = tuple-complete opening closing [] [] h.0 rest tt (inl refl) h.2 in
        let same : Span → Option (TypeExpr × State) = λ s. typed (roll-TypeExpr (Nothing s opening closing)) rest in
        front-behind state (front.Paren opening) h.0 rest (Nothing span opening closing) (paren-complete state opening h.0 h.1)
        (rw t.1 (rw t.2 (ap same (sym is))))
    form-complete (Tuple span opening parts commas closing) state rest is e h =
        let t = tuple-complete opening closing parts commas h.0 rest is.3 is.2 h.2 in
        let same : Span → Option (TypeExpr × State) = λ s. typed (roll-TypeExpr (Tuple s opening parts commas closing)) rest in
        front-behind state (front.Paren opening) h.0 rest (Tuple span opening parts commas closing) (paren-complete state opening h.0 h.1)
        (rw t.1 (rw t.2 (rw (tuple-two opening (parts, commas) closing is.1) (ap same (sym is.0)))))
    form-complete (Slice span opening element closing) state rest is e h =
        let s = stands-split (type_pieces element) (punct CloseBracket closing ∷ []) h.0 rest h.2 in
        let m : Mark = record { span = closing; glued = false } in
        let last = stands-one (punct CloseBracket closing) s.0 rest s.2 in
        let part = one_complete element h.0 s.0 is.1 (type-may-end depth element s.0 is.1 (mark-ends CloseBracket m s.0 rest refl refl last)) s.1 in
        let same : Span → Option (TypeExpr × State) = λ s. typed (roll-TypeExpr (Slice s opening element closing)) rest in
        front-behind state (front.Bracket opening) h.0 rest (Slice span opening element closing) (bracket-complete state opening h.0 h.1)
        (rw part (rw (other-mark CloseBracket Semicolon m s.0 rest refl last) (rw (punct-complete CloseBracket s.0 closing rest last) (ap same (sym is.0)))))
    form-complete (Array span opening element semicolon int closing) state rest is e h =
        let s = stands-split (type_pieces element) (punct Semicolon semicolon ∷ number int ∷ punct CloseBracket closing ∷ []) h.0 rest h.2 in
        let m : Mark = record { span = semicolon; glued = false } in
        let b = s.2 in
        let first : Begins (punct Semicolon semicolon) s.0 b.0 = b.1 in
        let second : Begins (number int) b.0 b.2.0 = b.2.1 in
        let last = stands-one (punct CloseBracket closing) b.2.0 rest b.2.2 in
        let part = one_complete element h.0 s.0 is.2 (type-may-end depth element s.0 is.2 (mark-ends Semicolon m s.0 b.0 refl refl first)) s.1 in
        let same : Span → Option (TypeExpr × State) = λ s. typed (roll-TypeExpr (Array s opening element semicolon int closing)) rest in
        front-behind state (front.Bracket opening) h.0 rest (Array span opening element semicolon int closing) (bracket-complete state opening h.0 h.1)
        (rw part (rw (begins-has Semicolon m s.0 b.0 first) (rw (punct-complete Semicolon s.0 semicolon b.0 first)
        (rw (length-complete b.0 int b.2.0 is.1 second) (rw (punct-complete CloseBracket b.2.0 closing rest last) (ap same (sym is.0)))))))
    form-complete (Reference span and name mutable target) state rest is e h =
        let parts = stands-split (optional_lifetime name) (optional_keyword Mut mutable ++ type_pieces target) h.0 rest h.2 in
        let more = stands-split (optional_keyword Mut mutable) (type_pieces target) parts.0 rest parts.2 in
        let begins = type-begins depth target more.0 rest is.1 more.2 in
        let part = one_complete target more.0 rest is.1 e more.2 in
        let same : Span → Option (TypeExpr × State) = λ s. typed (roll-TypeExpr (Reference s and name mutable target)) rest in
        let before : Stands (mark And and ∷ (optional_lifetime name ++ optional_keyword Mut mutable)) state more.0 =
        (h.0, h.1, stands-then (optional_lifetime name) (optional_keyword Mut mutable) h.0 parts.0 more.0 parts.1 more.1) in
        front-behind state (front.Reference and name mutable) more.0 rest (Reference span and name mutable target)
        (reference-complete state and name mutable more.0 (begins-no-lifetime more.0 begins) (begins-no-keyword Mut more.0 begins) before)
        (rw part (ap same (sym is.0)))
    form-complete (Pointer span star k target) state rest is e h =
        let parts = stands-split (punct Star star ∷ pointer_keyword k ∷ []) (type_pieces target) state rest h in
        let part = one_complete target parts.0 rest is.1 e parts.2 in
        let same : Span → Option (TypeExpr × State) = λ s. typed (roll-TypeExpr (Pointer s star k target)) rest in
        front-behind state (front.Pointer star k) parts.0 rest (Pointer span star k target) (pointer-complete state star k parts.0 parts.1)
        (rw part (ap same (sym is.0)))
    form-complete (PathType span path None) state rest is e h =
        let parts = stands-split (path_pieces path) [] state rest h in
        let end : parts.0 ≡ rest = parts.2 in
        let whole : Stands (path_pieces path) state rest = subst (λ r. Stands (path_pieces path) state r) end parts.1 in
        let stop = neither (goes_on PathSep rest) (has_mark Lt rest) e in
        let same : Span → Option (TypeExpr × State) = λ s. typed (roll-TypeExpr (PathType s path None)) rest in
        front-behind state (front.Path path) rest rest (PathType span path None) (path-front-complete state path rest is.1 stop.0 whole)
        (rw stop.1 (ap same (sym is.0)))
    form-complete (PathType span path (Some list)) state rest is e h =
        let parts = stands-split (path_pieces path) (arguments_pieces list) state rest h in
        let row = out-TypeArguments list in
        let s : Stands (list_pieces row) parts.0 rest = subst (λ ps. Stands ps parts.0 rest) (arguments-out list) parts.2 in
        let m : Mark = record { span = row.opening; glued = false } in
        let opens : Begins (punct Lt row.opening) parts.0 s.0 = s.1 in
        let stop = goes-has PathSep parts.0 (other-mark Lt PathSep m parts.0 s.0 refl opens) in
        let a = arguments-complete parts.0 list rest is.2 parts.2 in
        let same : Span → Option (TypeExpr × State) = λ s. typed (roll-TypeExpr (PathType s path (Some list))) rest in
        front-behind state (front.Path path) parts.0 rest (PathType span path (Some list)) (path-front-complete state path parts.0 is.1 stop parts.1)
        (rw (begins-has Lt m parts.0 s.0 opens) (rw a (ap same (sym is.0))))

-- a type that stands there is read
pub type-complete : (depth : ℕ) (ty : TypeExpr) (state rest : State) → IsType depth ty → type_ends ty rest ≡ true → Stands (type_pieces ty) state rest → type_at depth state ≡ Some (ty, rest)
type-complete zero ty state rest is e h = absurd is
type-complete (suc depth) ty state rest is e h =
    let at : TypeExpr → Option (TypeExpr × State) = λ t. Some (t, rest) in
    form-complete depth (type-complete depth) (out-TypeExpr ty) state rest is (sym (ap (λ (f : Ends). f rest) (ends-out ty)) ∙ e) (subst (λ ps. Stands ps state rest) (pieces-out ty) h)
    ∙ ap at (roll-out-TypeExpr ty)
