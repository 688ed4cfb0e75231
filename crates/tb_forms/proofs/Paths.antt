-- Paths in expressions, calls and struct literals: what is read stands there, and what stands there is read.
use Rattle.std.proofs.Common.{◌≡◌, ℕ, true, false, [], Option, Some, None, refl, sym, ap, subst, ◌∙◌, inl, inr}
use Rattle.tb_perm.specs.declared.span.Span.{Span}
use Rattle.tb_lex.specs.declared.punctuation.Punctuation.TheVariants.{OpenParen, OpenBrace, PathSep, Lt}
use Rattle.tb_ast.specs.declared.leaf.Mark.{Mark}
use Rattle.tb_ast.specs.declared.leaf.Path.{Path}
use Rattle.tb_ast.specs.declared.written.Turbofish.{Turbofish}
use Rattle.tb_ast.specs.declared.expression.ExprPath.{ExprPath}
use Rattle.tb_ast.specs.Pieces.{punct, path_pieces}
use Rattle.tb_ast.specs.Types.{turbofish_pieces}
use Rattle.tb_ast.specs.Expressions.{path_row}
use Rattle.tb_syntax.specs.State.{State, Begins, Stands}
use Rattle.tb_syntax.specs.Marks.{mark_at, punct_at, has_mark}
use Rattle.tb_syntax.specs.Leaves.{is_name, has_name}
use Rattle.tb_syntax.specs.Paths.{begins_name, goes_on, path_at}
use Rattle.tb_syntax.specs.Notes.{turbofish_at, TurbofishEnds}
use Rattle.tb_syntax.proofs.Options.{bind_some, chosen, some_is}
use Rattle.tb_syntax.proofs.Chains.{stands-then, stands-split}
use Rattle.tb_syntax.proofs.Marks.{mark-complete, punct-sound, punct-complete, other-mark}
use Rattle.tb_syntax.proofs.Tokens.{mark-no-token}
use Rattle.tb_syntax.proofs.Named.{goes-has, path-sound, path-complete}
use Rattle.tb_syntax.proofs.Listed.{begins-has}
use Rattle.tb_syntax.proofs.Noted.{turbofish-sound, turbofish-complete}
use Rattle.tb_forms.specs.declared.place.Where.{Where}
use Rattle.tb_forms.specs.declared.place.Where.TheVariants.{Anywhere, Condition}
use Rattle.tb_forms.specs.declared.front.Front.{Front}
use Rattle.tb_forms.specs.declared.front.Front.TheVariants as front
use Rattle.tb_forms.specs.Beginnings.{begins_macro}
use Rattle.tb_forms.specs.Fronts.{path_span, expr_path_at, opens_literal, path_front_at, IsExprPathAt, IsFrontAt}

-- Paths.

pub expr-path-sound : (depth : ℕ) (state : State) (path : ExprPath) (rest : State) → begins_macro state ≡ false → expr_path_at depth state ≡ Some (path, rest) → IsExprPathAt depth state path rest
unfolding expr_path_at
expr-path-sound depth state path rest plain e =
    let p = bind_some (path_at state) _ (path, rest) e in
    let t = bind_some (turbofish_at depth p.0.1) _ (path, rest) p.2 in
    let names = path-sound state p.0.0 p.0.1 p.1 in
    let types = turbofish-sound depth p.0.1 t.0 t.1 in
    let is : ExprPath × State → Type 0 = λ y. IsExprPathAt depth state y.0 y.1 in
    subst is (some_is (record { span = path_span p.0.0 t.0.0; path = p.0.0; turbofish = t.0.0 }, t.0.1) (path, rest) t.2) (record {
      plain = plain;
      stands = stands-then (path_pieces p.0.0) (turbofish_pieces t.0.0) state p.0.1 t.0.1 names.0 types.0;
      span = refl;
      is_path = names.1;
      types = types.1;
      ends = types.2;
    })

-- behind `::` and a `<` no name goes on
angle-no-name : (separator opening : Span) (state middle rest : State) → Begins (punct PathSep separator) state middle → Begins (punct Lt opening) middle rest → goes_on PathSep state ≡ false
unfolding goes_on has_name
angle-no-name separator opening state middle rest first second =
    let plain : Mark = record { span = separator; glued = false } in
    let angle : Mark = record { span = opening; glued = false } in
    let read : mark_at PathSep state ≡ Some (plain, middle) = mark-complete PathSep state plain middle first in
    ap begins_name read ∙ mark-no-token is_name Lt angle middle rest (λ p. refl) second

turbofish-stops : (turbofish : Option Turbofish) (state rest : State) → TurbofishEnds turbofish rest → Stands (turbofish_pieces turbofish) state rest → goes_on PathSep state ≡ false
turbofish-stops None state rest ends h =
    let same : state ≡ rest = h in
    goes-has PathSep state (ap (has_mark PathSep) same ∙ ends)
turbofish-stops (Some turbofish) state rest ends h = angle-no-name turbofish.separator turbofish.opening state h.0 h.2.0 h.1 h.2.1

pub expr-path-complete : (depth : ℕ) (state : State) (path : ExprPath) (rest : State) → IsExprPathAt depth state path rest → expr_path_at depth state ≡ Some (path, rest)
unfolding expr_path_at
expr-path-complete depth state path rest is =
    let parts = stands-split (path_pieces path.path) (turbofish_pieces path.turbofish) state rest is.stands in
    let at : Span → Option (ExprPath × State) = λ span. Some (record { span = span; path = path.path; turbofish = path.turbofish }, rest) in
    rw (path-complete state path.path parts.0 is.is_path (turbofish-stops path.turbofish parts.0 rest is.ends parts.2) parts.1)
    (rw (turbofish-complete depth parts.0 path.turbofish rest is.types is.ends parts.2) (ap at (sym is.span)))

-- Calls, struct literals, and paths alone.

opened : (place : Where) (turbofish : Option Turbofish) (state : State) → opens_literal place turbofish state ≡ true → (place ≡ Anywhere) × (turbofish ≡ None)
opened Anywhere None state e = (refl, refl)
opened Anywhere (Some turbofish) state e = absurd cc
opened Condition turbofish state e = absurd cc

-- a path without types stands there alone
bare-stands : (path : ExprPath) (state rest : State) → path.turbofish ≡ None → Stands (path_row path) state rest → Stands (path_pieces path.path) state rest
bare-stands path state rest none h =
    let parts = stands-split (path_pieces path.path) (turbofish_pieces path.turbofish) state rest h in
    let same : parts.0 ≡ rest = subst (λ (t : Option Turbofish). Stands (turbofish_pieces t) parts.0 rest) none parts.2 in
    subst (λ r. Stands (path_pieces path.path) state r) same parts.1

pub path-front-sound : (depth : ℕ) (place : Where) (state : State) (y : Front × State) → begins_macro state ≡ false → path_front_at depth place state ≡ Some y → IsFrontAt depth place state y.0 y.1
unfolding path_front_at
path-front-sound depth place state y plain e =
    let p = bind_some (expr_path_at depth state) _ y e in
    let is = expr-path-sound depth state p.0.0 p.0.1 plain p.1 in
    let to : Front × State → Type 0 = λ y. IsFrontAt depth place state y.0 y.1 in
    elim (chosen (has_mark OpenParen p.0.1) _ _ y p.2) [
      | inl a ↦
          let x = bind_some (punct_at OpenParen p.0.1) _ y a.1 in
          subst to (some_is (front.Call p.0.0 x.0.0, x.0.1) y x.2) (p.0.1, is, punct-sound OpenParen p.0.1 x.0.0 x.0.1 x.1)
      | inr a ↦ elim (chosen (opens_literal place p.0.0.turbofish p.0.1) _ _ y a.1) [
        | inl b ↦
            let x = bind_some (punct_at OpenBrace p.0.1) _ y b.1 in
            let o = opened place p.0.0.turbofish p.0.1 b.0 in
            subst to (some_is (front.StructLiteral p.0.0.path x.0.0, x.0.1) y x.2)
            (o.0, plain, is.is_path, p.0.1, bare-stands p.0.0 state p.0.1 o.1 is.stands, punct-sound OpenBrace p.0.1 x.0.0 x.0.1 x.1)
        | inr b ↦ subst to (some_is (front.Path p.0.0, p.0.1) y b.1) (is, a.0, b.0)
      ]
    ]

pub path-alone-complete : (depth : ℕ) (place : Where) (state : State) (path : ExprPath) (rest : State) → IsFrontAt depth place state (front.Path path) rest → path_front_at depth place state ≡ Some (front.Path path, rest)
unfolding path_front_at
path-alone-complete depth place state path rest h = rw (expr-path-complete depth state path rest h.0) (rw (h.1, h.2) refl)

pub call-complete : (depth : ℕ) (place : Where) (state : State) (path : ExprPath) (opening : Span) (rest : State) → IsFrontAt depth place state (front.Call path opening) rest → path_front_at depth place state ≡ Some (front.Call path opening, rest)
unfolding path_front_at
call-complete depth place state path opening rest h =
    let m : Mark = record { span = opening; glued = false } in
    rw (expr-path-complete depth state path h.0 h.1) (rw (begins-has OpenParen m h.0 rest h.2) (rw (punct-complete OpenParen h.0 opening rest h.2) refl))

pub literal-complete : (depth : ℕ) (place : Where) (state : State) (path : Path) (opening : Span) (rest : State) → IsFrontAt depth place state (front.StructLiteral path opening) rest → path_front_at depth place state ≡ Some (front.StructLiteral path opening, rest)
unfolding path_front_at
literal-complete depth place state path opening rest h =
    let m : Mark = record { span = opening; glued = false } in
    let middle = h.3 in
    let first : Begins (punct OpenBrace opening) middle rest = h.5 in
    let alone : ExprPath = record { span = path.span; path = path; turbofish = None } in
    let is : IsExprPathAt depth state alone middle = record {
      plain = h.1;
      stands = stands-then (path_pieces path) [] state middle middle h.4 refl;
      span = refl;
      is_path = h.2;
      types = tt;
      ends = other-mark OpenBrace PathSep m middle rest refl first;
    } in
    let may : opens_literal place None middle ≡ true = ap (λ p. opens_literal p None middle) h.0 ∙ begins-has OpenBrace m middle rest first in
    rw (expr-path-complete depth state alone middle is) (rw (other-mark OpenBrace OpenParen m middle rest refl first, may) (rw (punct-complete OpenBrace middle opening rest first) refl))
