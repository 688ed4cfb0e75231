-- Names with a mark between them, and paths: what is read stands there, and what stands there is read.
use Rattle.std.proofs.Common.{◌≡◌, suc, ◌+◌, ◌≤◌, Bool, true, false, true≢false, List, [], ◌∷◌, length, Option, Some, None, refl, sym, ap, subst, ◌∙◌, inl, inr, arith}
use Rattle.std.specs.List.{AllByRecursion}
use Rattle.tb_perm.specs.declared.span.Span.{Span}
use Rattle.tb_lex.specs.declared.punctuation.Punctuation.{Punctuation}
use Rattle.tb_lex.specs.declared.punctuation.Punctuation.TheVariants.{PathSep, OpenBrace}
use Rattle.tb_lex.specs.declared.token.TokenKind.TheVariants as kind
use Rattle.tb_ast.specs.declared.piece.Piece.{Piece}
use Rattle.tb_ast.specs.declared.leaf.Mark.{Mark}
use Rattle.tb_ast.specs.declared.leaf.Ident.{Ident}
use Rattle.tb_ast.specs.declared.leaf.Path.{Path}
use Rattle.tb_ast.specs.Pieces.{punct, ident, named, path_pieces}
use Rattle.tb_syntax.specs.State.{State, Begins, Stands}
use Rattle.tb_syntax.specs.Marks.{mark_at, has_mark}
use Rattle.tb_syntax.specs.Leaves.{name_at, has_name, is_name}
use Rattle.tb_syntax.specs.Paths.{begins_name, goes_on, names_at, names_span, path_at, AreNamed, IsPath}
use Rattle.tb_syntax.proofs.Options.{bind_some, some_is}
use Rattle.tb_syntax.proofs.Chains.{stands-one, one-stands, begins-shrinks}
use Rattle.tb_syntax.proofs.Marks.{mark-complete, mark-has}
use Rattle.tb_syntax.proofs.Tokens.{name-sound, name-complete, name-has, token-shorter, mark-no-token}
use Rattle.tb_syntax.proofs.Lists.{Starts, list-sound, list-complete}

abbrev pub single : Ident → List Piece
single name = ident name ∷ []

abbrev never : State → Bool
never state = false

abbrev anything : Ident → Type 0
anything name = Unit {0}

abbrev free : Ident → State → Bool
free name state = true

one-sound : (state : State) (name : Ident) (rest : State) → name_at state ≡ Some (name, rest) → Stands (single name) state rest × anything name
one-sound state name rest e = (one-stands (ident name) state rest (name-sound state name rest e), tt)

one-complete : (state : State) (name : Ident) (rest : State) → anything name → free name rest ≡ true → Stands (single name) state rest → name_at state ≡ Some (name, rest)
one-complete state name rest good may h = name-complete state name rest (stands-one (ident name) state rest h)

-- names go on only behind their mark
pub goes-has : (m : Punctuation) (state : State) → has_mark m state ≡ false → goes_on m state ≡ false
unfolding goes_on
goes-has m state e = by_read (mark_at m state) refl where
  by_read : (r : Option (Mark × State)) → mark_at m state ≡ r → begins_name r ≡ false
  by_read None q = refl
  by_read (Some y) q = absurd (true≢false (sym (mark-has m state y q) ∙ e))

module _ (m : Punctuation) where
  goes-before : (span : Span) (state rest : State) → Begins (punct m span) state rest → Starts never name_at (goes_on m) m single anything rest → goes_on m state ≡ true
  unfolding goes_on
  goes-before span state rest h (inl e) = absurd (true≢false (sym e))
  goes-before span state rest h (inr x) =
      let plain : Mark = record { span = span; glued = false } in
      let read : mark_at m state ≡ Some (plain, rest) = mark-complete m state plain rest h in
      ap begins_name read ∙ name-has rest x.0 x.1 (name-sound rest x.0 x.1 x.2)

  pub names-take : (state : State) (names : List Ident) (marks : List Span) (rest : State) → names_at m state ≡ Some ((names, marks), rest)
      → Stands (named m names marks) state rest × AreNamed names marks × (goes_on m rest ≡ false)
  unfolding names_at
  names-take state names marks rest e =
      let t = list-sound never name_at (goes_on m) m single anything one-sound (length state) state names marks rest e in
      elim t.closed [
        | inl k ↦ absurd (true≢false (sym k.1))
        | inr k ↦ (t.stands, k.0, k.1)
      ]

  names-length : (names : List Ident) (marks : List Span) (state rest : State) → AreNamed names marks → Stands (named m names marks) state rest → length names ≤ length state
  names-length [] marks state rest is h = omega arith
  names-length (name ∷ []) [] state rest is h =
      let first = token-shorter (kind.Name name.name) name.span state h.0 refl h.1 in
      omega arith
  names-length (name ∷ second ∷ names) [] state rest is h = let bad : 0 + 1 ≡ suc (suc (length names)) = is in absurd (omega arith)
  names-length (name ∷ names) (span ∷ marks) state rest is h =
      let fewer : suc (length marks) + 1 ≡ suc (length names) = is in
      let first = token-shorter (kind.Name name.name) name.span state h.0 refl h.1 in
      let second = begins-shrinks (punct m span) h.0 h.2.0 h.2.1 in
      let others = names-length names marks h.2.0 rest (omega arith) h.2.2 in
      omega arith

  pub names-complete : (state : State) (names : List Ident) (marks : List Span) (rest : State) → AreNamed names marks → goes_on m rest ≡ false → Stands (named m names marks) state rest
      → names_at m state ≡ Some ((names, marks), rest)
  unfolding names_at
  names-complete state names marks rest is stop h =
      let few = names-length names marks state rest is h in
      let counted : length marks + 1 ≡ length names = is in
      let all : (xs : List Ident) → AllByRecursion anything xs = every in
      list-complete never name_at (goes_on m) m single anything free one-complete (λ s x r good stands. refl) (λ x good span s r h. refl) goes-before
      (length state) names marks state rest (omega arith) (all names) (λ x good. refl) (inr (is, stop)) h where
        every : (xs : List Ident) → AllByRecursion anything xs
        every [] = tt
        every (x ∷ xs) = (tt, every xs)

pub path-sound : (state : State) (path : Path) (rest : State) → path_at state ≡ Some (path, rest) → Stands (path_pieces path) state rest × IsPath path × (goes_on PathSep rest ≡ false)
unfolding path_at
path-sound state path rest e =
    let x = bind_some (names_at PathSep state) _ (path, rest) e in
    let t = names-take PathSep state x.0.0.0 x.0.0.1 x.0.1 x.1 in
    let is : Path × State → Type 0 = λ y. Stands (path_pieces y.0) state y.1 × IsPath y.0 × (goes_on PathSep y.1 ≡ false) in
    subst is (some_is (record { span = names_span x.0.0.0; segments = x.0.0.0; separators = x.0.0.1 }, x.0.1) (path, rest) x.2) (t.0, (refl, t.1), t.2)

pub path-complete : (state : State) (path : Path) (rest : State) → IsPath path → goes_on PathSep rest ≡ false → Stands (path_pieces path) state rest → path_at state ≡ Some (path, rest)
unfolding path_at
path-complete state path rest is stop h =
    let at : Span → Option (Path × State) = λ span. Some (record { span = span; segments = path.segments; separators = path.separators }, rest) in
    rw (names-complete PathSep state path.segments path.separators rest is.1 stop h) (ap at (sym is.0))

-- behind `::` and a `{` no name goes on
pub separator-no-name : (separator opening : Span) (state middle rest : State) → Begins (punct PathSep separator) state middle → Begins (punct OpenBrace opening) middle rest → goes_on PathSep state ≡ false
unfolding goes_on has_name
separator-no-name separator opening state middle rest first second =
    let plain : Mark = record { span = separator; glued = false } in
    let brace : Mark = record { span = opening; glued = false } in
    let read : mark_at PathSep state ≡ Some (plain, middle) = mark-complete PathSep state plain middle first in
    ap begins_name read ∙ mark-no-token is_name OpenBrace brace middle rest (λ p. refl) second
