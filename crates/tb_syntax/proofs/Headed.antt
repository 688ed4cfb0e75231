-- Heads of functions and `extern` blocks: what is read stands there, and what stands there is read.
use Rattle.std.proofs.Common.{◌≡◌, ℕ, ◌<◌, Bool, true, false, not, [], ◌∷◌, ◌++◌, map, length, Option, Some, None, refl, sym, ap, subst, ◌∙◌, inl, inr, arith}
use Rattle.tb_perm.specs.declared.span.Span.{Span}
use Rattle.tb_lex.specs.declared.keyword.Keyword.TheVariants as keyword_of
use Rattle.tb_lex.specs.declared.punctuation.Punctuation.{Punctuation}
use Rattle.tb_lex.specs.declared.punctuation.Punctuation.TheVariants.{OpenParen, CloseParen, OpenBrace, CloseBrace, Semicolon, Comma, Colon, Lt, Gt, Plus}
use Rattle.tb_lex.specs.declared.token.TokenKind.TheVariants as kind
use Rattle.tb_ast.specs.declared.leaf.Mark.{Mark}
use Rattle.tb_ast.specs.declared.item.Generics.{Generics}
use Rattle.tb_ast.specs.declared.item.GenericParameter.{GenericParameter}
use Rattle.tb_ast.specs.declared.item.GenericParameter.TheVariants as generic
use Rattle.tb_ast.specs.declared.item.Bounds.{Bounds}
use Rattle.tb_ast.specs.declared.item.Parameter.{Parameter}
use Rattle.tb_ast.specs.declared.item.ExternBlock.{ExternBlock}
use Rattle.tb_ast.specs.declared.item.ForeignFunction.{ForeignFunction}
use Rattle.tb_ast.specs.Pieces.{punct, mark, keyword, ident, lifetime, text_piece, optional_keyword, separated, in_order}
use Rattle.tb_ast.specs.Types.{type_pieces}
use Rattle.tb_ast.specs.Files.{bounds_row, generic_row, generics_row, parameter_row, result_row, optional_result, foreign_row, extern_row}
use Rattle.tb_syntax.specs.declared.heads.FunctionHead.{FunctionHead}
use Rattle.tb_syntax.specs.State.{State, Begins, Stands}
use Rattle.tb_syntax.specs.Marks.{punct_at, has_mark}
use Rattle.tb_syntax.specs.Leaves.{is_keyword, keyword_at, has_keyword, name_at, lifetime_at, has_lifetime, text_at, optional_keyword_at}
use Rattle.tb_syntax.specs.Lists.{listed_at}
use Rattle.tb_syntax.specs.Paths.{from_to, goes_on, names_at}
use Rattle.tb_syntax.specs.Repeats.{repeated_at}
use Rattle.tb_ast.specs.Spans.{type_span}
use Rattle.tb_syntax.specs.Types.{type_at}
use Rattle.tb_syntax.specs.Written.{type_ends}
use Rattle.tb_syntax.specs.Notes.{result_at, optional_result_at, ResultEnds}
use Rattle.tb_syntax.specs.Items.{bounds_at, generic_at, generics_at, parameter_at, head_at, foreign_at, extern_at, AreBounds, IsGeneric, AreGenerics, IsParameter, head_row, IsHead, IsForeign, IsExtern}
use Rattle.tb_syntax.proofs.Options.{bind_some, chosen, some_is}
use Rattle.tb_syntax.proofs.Chains.{stands-then, stands-split, stands-one, one-stands, stands-shrinks}
use Rattle.tb_syntax.proofs.Marks.{punct-sound, punct-complete, alone, other-mark}
use Rattle.tb_syntax.proofs.Tokens.{token-complete, token-no-mark, token-shorter, mark-no-token, keyword-sound, keyword-complete, keyword-has, name-sound, name-complete, lifetime-sound, lifetime-complete, lifetime-has, text-sound, text-complete}
use Rattle.tb_syntax.proofs.Named.{goes-has, names-take, names-complete}
use Rattle.tb_syntax.proofs.Listed.{begins-has, listed-sound, listed-complete}
use Rattle.tb_syntax.proofs.Fronts.{optional-keyword-sound, optional-keyword-complete, mark-ends}
use Rattle.tb_syntax.proofs.Typed.{type-sound, type-complete, type-may-end}
use Rattle.tb_syntax.proofs.Noted.{result-sound, result-complete, output-sound, output-complete}
use Rattle.tb_syntax.proofs.Runs.{repeated-sound, repeated-complete}

abbrev plain : Span → Mark
plain span = record { span = span; glued = false }

-- What a function is generic over.

abbrev BoundsEnd : Option Bounds → State → Bool
BoundsEnd None rest = not (has_mark Colon rest)
BoundsEnd (Some bounds) rest = not (goes_on Plus rest)

negated : (b : Bool) → b ≡ false → not b ≡ true
negated true e = absurd cc
negated false e = refl

not_is : (b : Bool) → not b ≡ true → b ≡ false
not_is true e = absurd cc
not_is false e = refl

abbrev TakenBounds : State → Option Bounds × State → Type 0
TakenBounds state y = Stands (bounds_row y.0) state y.1 × AreBounds y.0

bounds-take : (state : State) (y : Option Bounds × State) → bounds_at state ≡ Some y → TakenBounds state y
unfolding bounds_at
bounds-take state y e =
    elim (chosen (has_mark Colon state) _ _ y e) [
      | inl k ↦
          let colon = bind_some (punct_at Colon state) _ y k.1 in
          let list = bind_some (names_at Plus colon.0.1) _ y colon.2 in
          let l = names-take Plus colon.0.1 list.0.0.0 list.0.0.1 list.0.1 list.1 in
          subst (TakenBounds state) (some_is (Some (record { colon = colon.0.0; names = list.0.0.0; pluses = list.0.0.1 }), list.0.1) y list.2)
          ((colon.0.1, punct-sound Colon state colon.0.0 colon.0.1 colon.1, l.0), l.1)
      | inr k ↦ subst (TakenBounds state) (some_is (None, state) y k.1) (refl, tt)
    ]

bounds-complete : (state : State) (bounds : Option Bounds) (rest : State) → AreBounds bounds → BoundsEnd bounds rest ≡ true → Stands (bounds_row bounds) state rest → bounds_at state ≡ Some (bounds, rest)
unfolding bounds_at
bounds-complete state None rest is ends h =
    let same : state ≡ rest = h in
    let at : State → Option (Option Bounds × State) = λ s. Some (None, s) in
    rw (ap (has_mark Colon) same ∙ not_is (has_mark Colon rest) ends) (ap at same)
bounds-complete state (Some bounds) rest is ends h =
    rw (begins-has Colon (plain bounds.colon) state h.0 h.1) (rw (punct-complete Colon state bounds.colon h.0 h.1)
    (rw (names-complete Plus h.0 bounds.names bounds.pluses rest is (not_is (goes_on Plus rest) ends) h.2) refl))

generic-sound : (state : State) (g : GenericParameter) (rest : State) → generic_at state ≡ Some (g, rest) → Stands (generic_row g) state rest × IsGeneric g
unfolding generic_at
generic-sound state g rest e =
    let is : GenericParameter × State → Type 0 = λ y. Stands (generic_row y.0) state y.1 × IsGeneric y.0 in
    elim (chosen (has_lifetime state) _ _ (g, rest) e) [
      | inl k ↦
          let x = bind_some (lifetime_at state) _ (g, rest) k.1 in
          subst is (some_is (generic.Lifetime x.0.0, x.0.1) (g, rest) x.2) (one-stands (lifetime x.0.0) state x.0.1 (lifetime-sound state x.0.0 x.0.1 x.1), tt)
      | inr k ↦
          let name = bind_some (name_at state) _ (g, rest) k.1 in
          let bounds = bind_some (bounds_at name.0.1) _ (g, rest) name.2 in
          let b = bounds-take name.0.1 bounds.0 bounds.1 in
          subst is (some_is (generic.Named name.0.0 bounds.0.0, bounds.0.1) (g, rest) bounds.2) ((name.0.1, name-sound state name.0.0 name.0.1 name.1, b.0), b.1)
    ]

abbrev generic_free : GenericParameter → State → Bool
generic_free (generic.Lifetime name) rest = true
generic_free (generic.Named name bounds) rest = BoundsEnd bounds rest

generic-complete : (state : State) (g : GenericParameter) (rest : State) → IsGeneric g → generic_free g rest ≡ true → Stands (generic_row g) state rest → generic_at state ≡ Some (g, rest)
unfolding generic_at has_lifetime
generic-complete state (generic.Lifetime name) rest is ends h =
    let b = stands-one (lifetime name) state rest h in
    rw (lifetime-has state name rest b) (rw (lifetime-complete state name rest b) refl)
generic-complete state (generic.Named name bounds) rest is ends h =
    rw (token-complete (kind.Name name.name) name.span state h.0 refl h.1) (rw (name-complete state name h.0 h.1) (rw (bounds-complete h.0 bounds rest is ends h.2) refl))

generic-no-angle : (state : State) (g : GenericParameter) (rest : State) → IsGeneric g → Stands (generic_row g) state rest → has_mark Gt state ≡ false
generic-no-angle state (generic.Lifetime name) rest is h = token-no-mark (kind.Lifetime name.name) Gt name.span state rest refl (stands-one (lifetime name) state rest h)
generic-no-angle state (generic.Named name bounds) rest is h = token-no-mark (kind.Name name.name) Gt name.span state h.0 refl h.1

generic-may-end : (found : Punctuation) (m : Mark) → alone found Colon ≡ true → alone found Plus ≡ true → (g : GenericParameter) (state rest : State) → Begins (mark found m) state rest → generic_free g state ≡ true
generic-may-end found m colon plus (generic.Lifetime name) state rest h = refl
generic-may-end found m colon plus (generic.Named name None) state rest h = negated (has_mark Colon state) (other-mark found Colon m state rest colon h)
generic-may-end found m colon plus (generic.Named name (Some bounds)) state rest h = negated (goes_on Plus state) (goes-has Plus state (other-mark found Plus m state rest plus h))

abbrev TakenGenerics : State → Option Generics × State → Type 0
TakenGenerics state y = Stands (generics_row y.0) state y.1 × AreGenerics y.0

generics-take : (state : State) (y : Option Generics × State) → generics_at state ≡ Some y → TakenGenerics state y
unfolding generics_at
generics-take state y e =
    elim (chosen (has_mark Lt state) _ _ y e) [
      | inl k ↦
          let opening = bind_some (punct_at Lt state) _ y k.1 in
          let list = bind_some (listed_at generic_at Gt opening.0.1) _ y opening.2 in
          let closing = bind_some (punct_at Gt list.0.1) _ y list.2 in
          let l = listed-sound generic_at Gt generic_row IsGeneric generic-sound opening.0.1 list.0.0.0 list.0.0.1 list.0.1 list.1 in
          subst (TakenGenerics state) (some_is (Some (record { opening = opening.0.0; parameters = list.0.0.0; commas = list.0.0.1; closing = closing.0.0 }), closing.0.1) y closing.2) (
            (
              opening.0.1,
              punct-sound Lt state opening.0.0 opening.0.1 opening.1,
              stands-then (separated Comma (map generic_row list.0.0.0) list.0.0.1) (punct Gt closing.0.0 ∷ []) opening.0.1 list.0.1 closing.0.1 l.0
                  (one-stands (punct Gt closing.0.0) list.0.1 closing.0.1 (punct-sound Gt list.0.1 closing.0.0 closing.0.1 closing.1)),
            ),
            (l.2, l.1),
          )
      | inr k ↦ subst (TakenGenerics state) (some_is (None, state) y k.1) (refl, tt)
    ]

generics-complete : (state : State) (list : Option Generics) (rest : State) → AreGenerics list → has_mark Lt rest ≡ false → Stands (generics_row list) state rest → generics_at state ≡ Some (list, rest)
unfolding generics_at
generics-complete state None rest is stop h =
    let same : state ≡ rest = h in
    let at : State → Option (Option Generics × State) = λ s. Some (None, s) in
    rw (ap (has_mark Lt) same ∙ stop) (ap at same)
generics-complete state (Some list) rest is stop h =
    let s = stands-split (separated Comma (map generic_row list.parameters) list.commas) (punct Gt list.closing ∷ []) h.0 rest h.2 in
    let last = stands-one (punct Gt list.closing) s.0 rest s.2 in
    let m = plain list.closing in
    let read = listed-complete generic_at Gt generic_row IsGeneric generic_free (λ s x r good e h. generic-complete s x r good e h) generic-no-angle
    (λ x good c s r h. generic-may-end Comma (plain c) refl refl x s r h)
    h.0 list.parameters list.commas s.0 (λ x good. generic-may-end Gt m refl refl x s.0 rest last)
    (begins-has Gt m s.0 rest last) (other-mark Gt Comma m s.0 rest refl last) is.1 is.0 s.1 in
    rw (begins-has Lt (plain list.opening) state h.0 h.1) (rw (punct-complete Lt state list.opening h.0 h.1) (rw read (rw (punct-complete Gt s.0 list.closing rest last) refl)))

-- Parameters and heads.

module _ (depth : ℕ) where
  parameter-sound : (state : State) (p : Parameter) (rest : State) → parameter_at depth state ≡ Some (p, rest) → Stands (parameter_row p) state rest × IsParameter depth p
  unfolding parameter_at
  parameter-sound state p rest e =
      let mutable = bind_some (optional_keyword_at keyword_of.Mut state) _ (p, rest) e in
      let name = bind_some (name_at mutable.0.1) _ (p, rest) mutable.2 in
      let colon = bind_some (punct_at Colon name.0.1) _ (p, rest) name.2 in
      let ty = bind_some (type_at depth colon.0.1) _ (p, rest) colon.2 in
      let t = type-sound depth colon.0.1 ty.0.0 ty.0.1 ty.1 in
      let is : Parameter × State → Type 0 = λ y. Stands (parameter_row y.0) state y.1 × IsParameter depth y.0 in
      subst is (some_is (record { span = from_to name.0.0.span (type_span ty.0.0); mut_keyword = mutable.0.0; name = name.0.0; colon = colon.0.0; ty = ty.0.0 }, ty.0.1) (p, rest) ty.2) (
        stands-then (optional_keyword keyword_of.Mut mutable.0.0) (ident name.0.0 ∷ punct Colon colon.0.0 ∷ type_pieces ty.0.0) state mutable.0.1 ty.0.1 (optional-keyword-sound keyword_of.Mut state mutable.0.0 mutable.0.1 mutable.1)
            (name.0.1, name-sound mutable.0.1 name.0.0 name.0.1 name.1, (colon.0.1, punct-sound Colon name.0.1 colon.0.0 colon.0.1 colon.1, t.stands)),
        (refl, t.is),
      )

  abbrev parameter_free : Parameter → State → Bool
  parameter_free p state = type_ends p.ty state

  parameter-complete : (state : State) (p : Parameter) (rest : State) → IsParameter depth p → parameter_free p rest ≡ true → Stands (parameter_row p) state rest → parameter_at depth state ≡ Some (p, rest)
  unfolding parameter_at has_keyword
  parameter-complete state p rest is ends h =
      let s = stands-split (optional_keyword keyword_of.Mut p.mut_keyword) (ident p.name ∷ punct Colon p.colon ∷ type_pieces p.ty) state rest h in
      let n = s.2 in
      let named : Begins (ident p.name) s.0 n.0 = n.1 in
      let c = n.2 in
      let no_mut : has_keyword keyword_of.Mut s.0 ≡ false = rw (token-complete (kind.Name p.name.name) p.name.span s.0 n.0 refl named) refl in
      let at : Span → Option (Parameter × State) = λ span. Some (record { span = span; mut_keyword = p.mut_keyword; name = p.name; colon = p.colon; ty = p.ty }, rest) in
      rw (optional-keyword-complete keyword_of.Mut state p.mut_keyword s.0 no_mut s.1) (rw (name-complete s.0 p.name n.0 named) (rw (punct-complete Colon n.0 p.colon c.0 c.1)
      (rw (type-complete depth p.ty c.0 rest is.1 ends c.2) (ap at (sym is.0)))))

  parameter-no-paren : (state : State) (p : Parameter) (rest : State) → IsParameter depth p → Stands (parameter_row p) state rest → has_mark CloseParen state ≡ false
  parameter-no-paren state p rest is h = of p.mut_keyword h where
    of : (o : Option Span) → Stands (optional_keyword keyword_of.Mut o ++ (ident p.name ∷ punct Colon p.colon ∷ type_pieces p.ty)) state rest → has_mark CloseParen state ≡ false
    of None h = token-no-mark (kind.Name p.name.name) CloseParen p.name.span state h.0 refl h.1
    of (Some span) h = token-no-mark (kind.Keyword keyword_of.Mut) CloseParen span state h.0 refl h.1

  abbrev TakenHead : State → FunctionHead × State → Type 0
  TakenHead state y = Stands (head_row y.0) state y.1 × IsHead depth y.0 × ResultEnds y.0.result y.1

  pub head-sound : (state : State) (y : FunctionHead × State) → head_at depth state ≡ Some y → TakenHead state y
  unfolding head_at
  head-sound state y e =
      let u = bind_some (optional_keyword_at keyword_of.Unsafe state) _ y e in
      let w = bind_some (keyword_at keyword_of.Fn u.0.1) _ y u.2 in
      let name = bind_some (name_at w.0.1) _ y w.2 in
      let g = bind_some (generics_at name.0.1) _ y name.2 in
      let opening = bind_some (punct_at OpenParen g.0.1) _ y g.2 in
      let list = bind_some (listed_at (parameter_at depth) CloseParen opening.0.1) _ y opening.2 in
      let closing = bind_some (punct_at CloseParen list.0.1) _ y list.2 in
      let output = bind_some (optional_result_at depth closing.0.1) _ y closing.2 in
      let gs = generics-take name.0.1 g.0 g.1 in
      let l = listed-sound (parameter_at depth) CloseParen parameter_row (IsParameter depth) parameter-sound opening.0.1 list.0.0.0 list.0.0.1 list.0.1 list.1 in
      let o = output-sound depth closing.0.1 output.0 output.1 in
      let rest = output.0.1 in
      let back = punct CloseParen closing.0.0 ∷ optional_result output.0.0 in
      let inside = separated Comma (map parameter_row list.0.0.0) list.0.0.1 in
      subst (TakenHead state) (some_is (record { unsafe_keyword = u.0.0; fn_keyword = w.0.0; name = name.0.0; generics = g.0.0; opening = opening.0.0; parameters = list.0.0.0; commas = list.0.0.1; closing = closing.0.0; result = output.0.0 }, rest) y output.2) (
        stands-then (optional_keyword keyword_of.Unsafe u.0.0) (keyword keyword_of.Fn w.0.0 ∷ ident name.0.0 ∷ (generics_row g.0.0 ++ (punct OpenParen opening.0.0 ∷ (inside ++ back)))) state u.0.1 rest (optional-keyword-sound keyword_of.Unsafe state u.0.0 u.0.1 u.1) (
          w.0.1,
          keyword-sound keyword_of.Fn u.0.1 w.0.0 w.0.1 w.1,
          (
            name.0.1,
            name-sound w.0.1 name.0.0 name.0.1 name.1,
            stands-then (generics_row g.0.0) (punct OpenParen opening.0.0 ∷ (inside ++ back)) name.0.1 g.0.1 rest gs.0 (
              opening.0.1,
              punct-sound OpenParen g.0.1 opening.0.0 opening.0.1 opening.1,
              stands-then inside back opening.0.1 list.0.1 rest l.0 (closing.0.1, punct-sound CloseParen list.0.1 closing.0.0 closing.0.1 closing.1, o.0),
            ),
          ),
        ),
        (gs.1, l.2, l.1, o.1),
        o.2,
      )

  pub head-complete : (state : State) (head : FunctionHead) (rest : State) → IsHead depth head → ResultEnds head.result rest → Stands (head_row head) state rest → head_at depth state ≡ Some (head, rest)
  unfolding head_at has_keyword
  head-complete state head rest is ends h =
      let back = punct CloseParen head.closing ∷ optional_result head.result in
      let inside = separated Comma (map parameter_row head.parameters) head.commas in
      let u = stands-split (optional_keyword keyword_of.Unsafe head.unsafe_keyword) (keyword keyword_of.Fn head.fn_keyword ∷ ident head.name ∷ (generics_row head.generics ++ (punct OpenParen head.opening ∷ (inside ++ back)))) state rest h in
      let w = u.2 in
      let fn_there : Begins (keyword keyword_of.Fn head.fn_keyword) u.0 w.0 = w.1 in
      let n = w.2 in
      let named : Begins (ident head.name) w.0 n.0 = n.1 in
      let no_unsafe : has_keyword keyword_of.Unsafe u.0 ≡ false = rw (token-complete (kind.Keyword keyword_of.Fn) head.fn_keyword u.0 w.0 refl fn_there) refl in
      let g = stands-split (generics_row head.generics) (punct OpenParen head.opening ∷ (inside ++ back)) n.0 rest n.2 in
      let o = g.2 in
      let opens : Begins (punct OpenParen head.opening) g.0 o.0 = o.1 in
      let s = stands-split inside back o.0 rest o.2 in
      let c = s.2 in
      let closes : Begins (punct CloseParen head.closing) s.0 c.0 = c.1 in
      let m = plain head.closing in
      let list = listed-complete (parameter_at depth) CloseParen parameter_row (IsParameter depth) parameter_free (λ s x r good e h. parameter-complete s x r good e h) parameter-no-paren
      (λ x good c s r h. type-may-end depth x.ty s good.1 (mark-ends Comma (plain c) s r refl refl h))
      o.0 head.parameters head.commas s.0 (λ x good. type-may-end depth x.ty s.0 good.1 (mark-ends CloseParen m s.0 c.0 refl refl closes))
      (begins-has CloseParen m s.0 c.0 closes) (other-mark CloseParen Comma m s.0 c.0 refl closes) is.2 is.1 s.1 in
      rw (optional-keyword-complete keyword_of.Unsafe state head.unsafe_keyword u.0 no_unsafe u.1) (rw (keyword-complete keyword_of.Fn u.0 head.fn_keyword w.0 fn_there) (rw (name-complete w.0 head.name n.0 named)
      (rw (generics-complete n.0 head.generics g.0 is.0 (other-mark OpenParen Lt (plain head.opening) g.0 o.0 refl opens) g.1) (rw (punct-complete OpenParen g.0 head.opening o.0 opens)
      (rw list (rw (punct-complete CloseParen s.0 head.closing c.0 closes) (rw (output-complete depth c.0 head.result rest is.3 ends c.2) refl)))))))

  -- External functions.

  foreign-sound : (state : State) (f : ForeignFunction) (rest : State) → foreign_at depth state ≡ Some (f, rest) → Stands (foreign_row f) state rest × IsForeign depth f
  unfolding foreign_at
  foreign-sound state f rest e =
      let w = bind_some (keyword_at keyword_of.Fn state) _ (f, rest) e in
      let name = bind_some (name_at w.0.1) _ (f, rest) w.2 in
      let opening = bind_some (punct_at OpenParen name.0.1) _ (f, rest) name.2 in
      let closing = bind_some (punct_at CloseParen opening.0.1) _ (f, rest) opening.2 in
      let output = bind_some (result_at depth closing.0.1) _ (f, rest) closing.2 in
      let semicolon = bind_some (punct_at Semicolon output.0.1) _ (f, rest) output.2 in
      let o = result-sound depth closing.0.1 output.0 output.1 in
      let is : ForeignFunction × State → Type 0 = λ y. Stands (foreign_row y.0) state y.1 × IsForeign depth y.0 in
      subst is (some_is (record { span = from_to w.0.0 semicolon.0.0; fn_keyword = w.0.0; name = name.0.0; opening = opening.0.0; closing = closing.0.0; result = output.0.0; semicolon = semicolon.0.0 }, semicolon.0.1) (f, rest) semicolon.2) (
        (
          w.0.1,
          keyword-sound keyword_of.Fn state w.0.0 w.0.1 w.1,
          (
            name.0.1,
            name-sound w.0.1 name.0.0 name.0.1 name.1,
            (
              opening.0.1,
              punct-sound OpenParen name.0.1 opening.0.0 opening.0.1 opening.1,
              (
                closing.0.1,
                punct-sound CloseParen opening.0.1 closing.0.0 closing.0.1 closing.1,
                stands-then (result_row output.0.0) (punct Semicolon semicolon.0.0 ∷ []) closing.0.1 output.0.1 semicolon.0.1 o.0
                    (one-stands (punct Semicolon semicolon.0.0) output.0.1 semicolon.0.1 (punct-sound Semicolon output.0.1 semicolon.0.0 semicolon.0.1 semicolon.1)),
              ),
            ),
          ),
        ),
        (refl, o.1),
      )

  foreign-complete : (state : State) (f : ForeignFunction) (rest : State) → IsForeign depth f → Stands (foreign_row f) state rest → foreign_at depth state ≡ Some (f, rest)
  unfolding foreign_at
  foreign-complete state f rest is h =
      let n = h.2 in
      let o = n.2 in
      let c = o.2 in
      let s = stands-split (result_row f.result) (punct Semicolon f.semicolon ∷ []) c.0 rest c.2 in
      let last = stands-one (punct Semicolon f.semicolon) s.0 rest s.2 in
      let ends = type-may-end depth f.result.ty s.0 is.1 (mark-ends Semicolon (plain f.semicolon) s.0 rest refl refl last) in
      let at : Span → Option (ForeignFunction × State) = λ span. Some (record { span = span; fn_keyword = f.fn_keyword; name = f.name; opening = f.opening; closing = f.closing; result = f.result; semicolon = f.semicolon }, rest) in
      rw (keyword-complete keyword_of.Fn state f.fn_keyword h.0 h.1) (rw (name-complete h.0 f.name n.0 n.1) (rw (punct-complete OpenParen n.0 f.opening o.0 o.1) (rw (punct-complete CloseParen o.0 f.closing c.0 c.1)
      (rw (result-complete depth c.0 f.result s.0 is.1 ends s.1) (rw (punct-complete Semicolon s.0 f.semicolon rest last) (ap at (sym is.0)))))))

  foreign-shorter : (s : State) (f : ForeignFunction) (r : State) → Stands (foreign_row f) s r → length r < length s
  foreign-shorter s f r h =
      let first = token-shorter (kind.Keyword keyword_of.Fn) f.fn_keyword s h.0 refl h.1 in
      let others = stands-shrinks (ident f.name ∷ punct OpenParen f.opening ∷ punct CloseParen f.closing ∷ (result_row f.result ++ punct Semicolon f.semicolon ∷ [])) h.0 r h.2 in
      omega arith

  pub extern-sound : (state : State) (block : ExternBlock) (rest : State) → extern_at depth state ≡ Some (block, rest) → Stands (extern_row block) state rest × IsExtern depth block
  unfolding extern_at
  extern-sound state block rest e =
      let u = bind_some (optional_keyword_at keyword_of.Unsafe state) _ (block, rest) e in
      let w = bind_some (keyword_at keyword_of.Extern u.0.1) _ (block, rest) u.2 in
      let abi = bind_some (text_at w.0.1) _ (block, rest) w.2 in
      let opening = bind_some (punct_at OpenBrace abi.0.1) _ (block, rest) abi.2 in
      let list = bind_some (repeated_at (has_keyword keyword_of.Fn) (foreign_at depth) opening.0.1) _ (block, rest) opening.2 in
      let closing = bind_some (punct_at CloseBrace list.0.1) _ (block, rest) list.2 in
      let l = repeated-sound (has_keyword keyword_of.Fn) (foreign_at depth) foreign_row (IsForeign depth) foreign-sound opening.0.1 list.0.0 list.0.1 list.1 in
      let is : ExternBlock × State → Type 0 = λ y. Stands (extern_row y.0) state y.1 × IsExtern depth y.0 in
      subst is (some_is (record { unsafe_keyword = u.0.0; extern_keyword = w.0.0; abi = abi.0.0; opening = opening.0.0; functions = list.0.0; closing = closing.0.0 }, closing.0.1) (block, rest) closing.2) (
        stands-then (optional_keyword keyword_of.Unsafe u.0.0) (keyword keyword_of.Extern w.0.0 ∷ text_piece abi.0.0 ∷ punct OpenBrace opening.0.0 ∷ (in_order (map foreign_row list.0.0) ++ punct CloseBrace closing.0.0 ∷ [])) state u.0.1 closing.0.1 (optional-keyword-sound keyword_of.Unsafe state u.0.0 u.0.1 u.1) (
          w.0.1,
          keyword-sound keyword_of.Extern u.0.1 w.0.0 w.0.1 w.1,
          (
            abi.0.1,
            text-sound w.0.1 abi.0.0 abi.0.1 abi.1,
            (
              opening.0.1,
              punct-sound OpenBrace abi.0.1 opening.0.0 opening.0.1 opening.1,
              stands-then (in_order (map foreign_row list.0.0)) (punct CloseBrace closing.0.0 ∷ []) opening.0.1 list.0.1 closing.0.1 l.stands
                  (one-stands (punct CloseBrace closing.0.0) list.0.1 closing.0.1 (punct-sound CloseBrace list.0.1 closing.0.0 closing.0.1 closing.1)),
            ),
          ),
        ),
        l.good,
      )

  pub extern-complete : (state : State) (block : ExternBlock) (rest : State) → IsExtern depth block → Stands (extern_row block) state rest → extern_at depth state ≡ Some (block, rest)
  unfolding extern_at has_keyword
  extern-complete state block rest is h =
      let u = stands-split (optional_keyword keyword_of.Unsafe block.unsafe_keyword) (keyword keyword_of.Extern block.extern_keyword ∷ text_piece block.abi ∷ punct OpenBrace block.opening ∷ (in_order (map foreign_row block.functions) ++ punct CloseBrace block.closing ∷ [])) state rest h in
      let w = u.2 in
      let there : Begins (keyword keyword_of.Extern block.extern_keyword) u.0 w.0 = w.1 in
      let a = w.2 in
      let o = a.2 in
      let no_unsafe : has_keyword keyword_of.Unsafe u.0 ≡ false = rw (token-complete (kind.Keyword keyword_of.Extern) block.extern_keyword u.0 w.0 refl there) refl in
      let s = stands-split (in_order (map foreign_row block.functions)) (punct CloseBrace block.closing ∷ []) o.0 rest o.2 in
      let last = stands-one (punct CloseBrace block.closing) s.0 rest s.2 in
      let stop : has_keyword keyword_of.Fn s.0 ≡ false = mark-no-token (is_keyword keyword_of.Fn) CloseBrace (plain block.closing) s.0 rest (λ p. refl) last in
      let list = repeated-complete (has_keyword keyword_of.Fn) (foreign_at depth) foreign_row (IsForeign depth) (λ s x r good h. foreign-complete s x r good h)
      (λ s x r good h. keyword-has keyword_of.Fn s x.fn_keyword h.0 h.1) foreign-shorter o.0 block.functions s.0 is stop s.1 in
      rw (optional-keyword-complete keyword_of.Unsafe state block.unsafe_keyword u.0 no_unsafe u.1) (rw (keyword-complete keyword_of.Extern u.0 block.extern_keyword w.0 there) (rw (text-complete w.0 block.abi a.0 a.1)
      (rw (punct-complete OpenBrace a.0 block.opening o.0 o.1) (rw list (rw (punct-complete CloseBrace s.0 block.closing rest last) refl)))))
