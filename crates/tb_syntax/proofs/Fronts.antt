-- What stands before the first type in a type: what is read stands there, and what stands there is read.
use Rattle.std.proofs.Common.{◌≡◌, ◌+◌, true, false, List, [], ◌∷◌, ◌++◌, length, Option, Some, None, refl, ap, subst, ◌∙◌, inl, inr, arith}
use Rattle.tb_perm.specs.declared.span.Span.{Span}
use Rattle.tb_lex.specs.declared.keyword.Keyword.{Keyword}
use Rattle.tb_lex.specs.declared.keyword.Keyword.TheVariants.{Const, Mut}
use Rattle.tb_lex.specs.declared.punctuation.Punctuation.{Punctuation}
use Rattle.tb_lex.specs.declared.punctuation.Punctuation.TheVariants.{OpenParen, CloseParen, OpenBracket, And, Star, PathSep, Lt, Gt}
use Rattle.tb_lex.specs.declared.token.TokenKind.TheVariants as kind
use Rattle.tb_ast.specs.declared.piece.Piece.{Piece}
use Rattle.tb_ast.specs.declared.leaf.Mark.{Mark}
use Rattle.tb_ast.specs.declared.leaf.Ident.{Ident}
use Rattle.tb_ast.specs.declared.leaf.Lifetime.{Lifetime}
use Rattle.tb_ast.specs.declared.leaf.Path.{Path}
use Rattle.tb_ast.specs.declared.written.PointerKind.{PointerKind}
use Rattle.tb_ast.specs.declared.written.PointerKind.TheVariants as pointer
use Rattle.tb_ast.specs.Pieces.{punct, mark, keyword, ident, lifetime, optional_keyword, named, path_pieces}
use Rattle.tb_ast.specs.Types.{optional_lifetime, pointer_keyword}
use Rattle.tb_syntax.specs.declared.types.TypeFront.{TypeFront}
use Rattle.tb_syntax.specs.declared.types.TypeFront.TheVariants as front
use Rattle.tb_syntax.specs.Reading.{◌>>=◌}
use Rattle.tb_syntax.specs.State.{State, Begins, Stands}
use Rattle.tb_syntax.specs.Marks.{mark_at, punct_at, has_mark}
use Rattle.tb_syntax.specs.Leaves.{is_keyword, is_lifetime, keyword_at, lifetime_at, has_keyword, has_lifetime, optional_keyword_at, optional_lifetime_at}
use Rattle.tb_syntax.specs.Paths.{goes_on, path_at, AreNamed, IsPath}
use Rattle.tb_syntax.specs.Types.{reference_front_at, pointer_kind_at, pointer_front_at, type_front_at}
use Rattle.tb_syntax.specs.Written.{ends_path}
use Rattle.tb_syntax.proofs.Options.{bind_some, chosen, some_is}
use Rattle.tb_syntax.proofs.Chains.{stands-then, stands-split, stands-one, one-stands}
use Rattle.tb_syntax.proofs.Marks.{mark-sound, mark-complete, punct-sound, punct-complete, alone, other-mark}
use Rattle.tb_syntax.proofs.Tokens.{token-complete, token-no-mark, mark-no-token, keyword-sound, keyword-complete, keyword-has, lifetime-sound, lifetime-complete, lifetime-has}
use Rattle.tb_syntax.proofs.Named.{goes-has, path-sound, path-complete}
use Rattle.tb_syntax.proofs.Listed.{begins-has}

-- What may be left out.

pub optional-keyword-sound : (w : Keyword) (state : State) (o : Option Span) (rest : State) → optional_keyword_at w state ≡ Some (o, rest) → Stands (optional_keyword w o) state rest
unfolding optional_keyword_at
optional-keyword-sound w state o rest e =
    let is : Option Span × State → Type 0 = λ y. Stands (optional_keyword w y.0) state y.1 in
    elim (chosen (has_keyword w state) (keyword_at w state >>= λ x. Some (Some x.0, x.1)) (Some (None, state)) (o, rest) e) [
      | inl k ↦
          let x = bind_some (keyword_at w state) _ (o, rest) k.1 in
          subst is (some_is (Some x.0.0, x.0.1) (o, rest) x.2) (one-stands (keyword w x.0.0) state x.0.1 (keyword-sound w state x.0.0 x.0.1 x.1))
      | inr k ↦ subst is (some_is (None, state) (o, rest) k.1) refl
    ]

pub optional-keyword-complete : (w : Keyword) (state : State) (o : Option Span) (rest : State) → has_keyword w rest ≡ false → Stands (optional_keyword w o) state rest → optional_keyword_at w state ≡ Some (o, rest)
unfolding optional_keyword_at
optional-keyword-complete w state None rest never h =
    let same : state ≡ rest = h in
    let at : State → Option (Option Span × State) = λ s. Some (None, s) in
    rw (ap (has_keyword w) same ∙ never) (ap at same)
optional-keyword-complete w state (Some span) rest never h =
    let b = stands-one (keyword w span) state rest h in
    rw (keyword-has w state span rest b, keyword-complete w state span rest b) refl

pub optional-lifetime-sound : (state : State) (o : Option Lifetime) (rest : State) → optional_lifetime_at state ≡ Some (o, rest) → Stands (optional_lifetime o) state rest
unfolding optional_lifetime_at
optional-lifetime-sound state o rest e =
    let is : Option Lifetime × State → Type 0 = λ y. Stands (optional_lifetime y.0) state y.1 in
    elim (chosen (has_lifetime state) (lifetime_at state >>= λ x. Some (Some x.0, x.1)) (Some (None, state)) (o, rest) e) [
      | inl k ↦
          let x = bind_some (lifetime_at state) _ (o, rest) k.1 in
          subst is (some_is (Some x.0.0, x.0.1) (o, rest) x.2) (one-stands (lifetime x.0.0) state x.0.1 (lifetime-sound state x.0.0 x.0.1 x.1))
      | inr k ↦ subst is (some_is (None, state) (o, rest) k.1) refl
    ]

pub optional-lifetime-complete : (state : State) (o : Option Lifetime) (rest : State) → has_lifetime rest ≡ false → Stands (optional_lifetime o) state rest → optional_lifetime_at state ≡ Some (o, rest)
unfolding optional_lifetime_at
optional-lifetime-complete state None rest never h =
    let same : state ≡ rest = h in
    let at : State → Option (Option Lifetime × State) = λ s. Some (None, s) in
    rw (ap has_lifetime same ∙ never) (ap at same)
optional-lifetime-complete state (Some name) rest never h =
    let b = stands-one (lifetime name) state rest h in
    rw (lifetime-has state name rest b, lifetime-complete state name rest b) refl

-- Fronts.

abbrev pub front_pieces : TypeFront → List Piece
front_pieces (front.Paren opening) = punct OpenParen opening ∷ []
front_pieces (front.Bracket opening) = punct OpenBracket opening ∷ []
front_pieces (front.Reference and name mutable) = mark And and ∷ (optional_lifetime name ++ optional_keyword Mut mutable)
front_pieces (front.Pointer star kind) = punct Star star ∷ pointer_keyword kind ∷ []
front_pieces (front.Path path) = path_pieces path

-- a path is whole, and followed by none of its parts
abbrev pub IsWhole : TypeFront → State → Type 0
IsWhole (front.Path path) rest = IsPath path × (goes_on PathSep rest ≡ false)
IsWhole other rest = Unit {0}

abbrev pub TakenFront : State → TypeFront × State → Type 0
TakenFront state y = Stands (front_pieces y.0) state y.1 × IsWhole y.0 y.1

reference-sound : (state : State) (y : TypeFront × State) → reference_front_at state ≡ Some y → TakenFront state y
unfolding reference_front_at
reference-sound state y e =
    let and = bind_some (mark_at And state) _ y e in
    let name = bind_some (optional_lifetime_at and.0.1) _ y and.2 in
    let mutable = bind_some (optional_keyword_at Mut name.0.1) _ y name.2 in
    subst (TakenFront state) (some_is (front.Reference and.0.0 name.0.0 mutable.0.0, mutable.0.1) y mutable.2) (
      (
        and.0.1,
        mark-sound And state and.0.0 and.0.1 and.1,
        stands-then (optional_lifetime name.0.0) (optional_keyword Mut mutable.0.0) and.0.1 name.0.1 mutable.0.1
            (optional-lifetime-sound and.0.1 name.0.0 name.0.1 name.1) (optional-keyword-sound Mut name.0.1 mutable.0.0 mutable.0.1 mutable.1),
      ),
      tt,
    )

kind-sound : (state : State) (k : PointerKind) (rest : State) → pointer_kind_at state ≡ Some (k, rest) → Begins (pointer_keyword k) state rest
unfolding pointer_kind_at
kind-sound state k rest e =
    let is : PointerKind × State → Type 0 = λ y. Begins (pointer_keyword y.0) state y.1 in
    elim (chosen (has_keyword Const state) (keyword_at Const state >>= λ x. Some (pointer.Const x.0, x.1)) (keyword_at Mut state >>= λ x. Some (pointer.Mut x.0, x.1)) (k, rest) e) [
      | inl c ↦
          let x = bind_some (keyword_at Const state) _ (k, rest) c.1 in
          subst is (some_is (pointer.Const x.0.0, x.0.1) (k, rest) x.2) (keyword-sound Const state x.0.0 x.0.1 x.1)
      | inr c ↦
          let x = bind_some (keyword_at Mut state) _ (k, rest) c.1 in
          subst is (some_is (pointer.Mut x.0.0, x.0.1) (k, rest) x.2) (keyword-sound Mut state x.0.0 x.0.1 x.1)
    ]

kind-complete : (state : State) (k : PointerKind) (rest : State) → Begins (pointer_keyword k) state rest → pointer_kind_at state ≡ Some (k, rest)
unfolding pointer_kind_at has_keyword
kind-complete state (pointer.Const span) rest h = rw (keyword-has Const state span rest h) (rw (keyword-complete Const state span rest h) refl)
kind-complete state (pointer.Mut span) rest h = rw (token-complete (kind.Keyword Mut) span state rest refl h) (rw (keyword-complete Mut state span rest h) refl)

pointer-sound : (state : State) (y : TypeFront × State) → pointer_front_at state ≡ Some y → TakenFront state y
unfolding pointer_front_at
pointer-sound state y e =
    let star = bind_some (punct_at Star state) _ y e in
    let k = bind_some (pointer_kind_at star.0.1) _ y star.2 in
    subst (TakenFront state) (some_is (front.Pointer star.0.0 k.0.0, k.0.1) y k.2)
    ((star.0.1, punct-sound Star state star.0.0 star.0.1 star.1, one-stands (pointer_keyword k.0.0) star.0.1 k.0.1 (kind-sound star.0.1 k.0.0 k.0.1 k.1)), tt)

path-front : (state : State) (y : TypeFront × State) → (path_at state >>= λ x. Some (front.Path x.0, x.1)) ≡ Some y → TakenFront state y
path-front state y e =
    let x = bind_some (path_at state) _ y e in
    let t = path-sound state x.0.0 x.0.1 x.1 in
    subst (TakenFront state) (some_is (front.Path x.0.0, x.0.1) y x.2) (t.0, (t.1, t.2))

paren-front : (state : State) (y : TypeFront × State) → (punct_at OpenParen state >>= λ x. Some (front.Paren x.0, x.1)) ≡ Some y → TakenFront state y
paren-front state y e =
    let x = bind_some (punct_at OpenParen state) _ y e in
    subst (TakenFront state) (some_is (front.Paren x.0.0, x.0.1) y x.2) (one-stands (punct OpenParen x.0.0) state x.0.1 (punct-sound OpenParen state x.0.0 x.0.1 x.1), tt)

bracket-front : (state : State) (y : TypeFront × State) → (punct_at OpenBracket state >>= λ x. Some (front.Bracket x.0, x.1)) ≡ Some y → TakenFront state y
bracket-front state y e =
    let x = bind_some (punct_at OpenBracket state) _ y e in
    subst (TakenFront state) (some_is (front.Bracket x.0.0, x.0.1) y x.2) (one-stands (punct OpenBracket x.0.0) state x.0.1 (punct-sound OpenBracket state x.0.0 x.0.1 x.1), tt)

pub front-sound : (state : State) (y : TypeFront × State) → type_front_at state ≡ Some y → TakenFront state y
unfolding type_front_at
front-sound state y e =
    elim (chosen (has_mark OpenParen state) _ _ y e) [
      | inl a ↦ paren-front state y a.1
      | inr a ↦ elim (chosen (has_mark OpenBracket state) _ _ y a.1) [
        | inl b ↦ bracket-front state y b.1
        | inr b ↦ elim (chosen (has_mark And state) _ _ y b.1) [
          | inl c ↦ reference-sound state y c.1
          | inr c ↦ elim (chosen (has_mark Star state) _ _ y c.1) [
            | inl d ↦ pointer-sound state y d.1
            | inr d ↦ path-front state y d.1
          ]
        ]
      ]
    ]

pub paren-complete : (state : State) (opening : Span) (rest : State) → Begins (punct OpenParen opening) state rest → type_front_at state ≡ Some (front.Paren opening, rest)
unfolding type_front_at
paren-complete state opening rest h =
    let m : Mark = record { span = opening; glued = false } in
    rw (begins-has OpenParen m state rest h) (rw (punct-complete OpenParen state opening rest h) refl)

pub bracket-complete : (state : State) (opening : Span) (rest : State) → Begins (punct OpenBracket opening) state rest → type_front_at state ≡ Some (front.Bracket opening, rest)
unfolding type_front_at
bracket-complete state opening rest h =
    let m : Mark = record { span = opening; glued = false } in
    rw (other-mark OpenBracket OpenParen m state rest refl h, begins-has OpenBracket m state rest h) (rw (punct-complete OpenBracket state opening rest h) refl)

mut-no-lifetime : (state : State) (o : Option Span) (rest : State) → has_lifetime rest ≡ false → Stands (optional_keyword Mut o) state rest → has_lifetime state ≡ false
unfolding has_lifetime
mut-no-lifetime state None rest never h = let same : state ≡ rest = h in ap has_lifetime same ∙ never
mut-no-lifetime state (Some span) rest never h = rw (token-complete (kind.Keyword Mut) span state rest refl (stands-one (keyword Mut span) state rest h)) refl

pub reference-complete : (state : State) (and : Mark) (name : Option Lifetime) (mutable : Option Span) (rest : State) → has_lifetime rest ≡ false → has_keyword Mut rest ≡ false
    → Stands (mark And and ∷ (optional_lifetime name ++ optional_keyword Mut mutable)) state rest → type_front_at state ≡ Some (front.Reference and name mutable, rest)
unfolding type_front_at reference_front_at
reference-complete state and name mutable rest never_name never_mut h =
    let first : Begins (mark And and) state h.0 = h.1 in
    let parts = stands-split (optional_lifetime name) (optional_keyword Mut mutable) h.0 rest h.2 in
    let no_name = mut-no-lifetime parts.0 mutable rest never_name parts.2 in
    rw (other-mark And OpenParen and state h.0 refl first, other-mark And OpenBracket and state h.0 refl first, begins-has And and state h.0 first)
    (rw (mark-complete And state and h.0 first) (rw (optional-lifetime-complete h.0 name parts.0 no_name parts.1) (rw (optional-keyword-complete Mut parts.0 mutable rest never_mut parts.2) refl)))

pub pointer-complete : (state : State) (star : Span) (k : PointerKind) (rest : State) → Stands (punct Star star ∷ pointer_keyword k ∷ []) state rest → type_front_at state ≡ Some (front.Pointer star k, rest)
unfolding type_front_at pointer_front_at
pointer-complete state star k rest h =
    let m : Mark = record { span = star; glued = false } in
    let first : Begins (punct Star star) state h.0 = h.1 in
    let second = stands-one (pointer_keyword k) h.0 rest h.2 in
    rw (other-mark Star OpenParen m state h.0 refl first, other-mark Star OpenBracket m state h.0 refl first, other-mark Star And m state h.0 refl first, begins-has Star m state h.0 first)
    (rw (punct-complete Star state star h.0 first) (rw (kind-complete h.0 k rest second) refl))

-- a path begins with a name
pub path-first : (path : Path) (state rest : State) → IsPath path → Stands (path_pieces path) state rest → (name : Ident) × (after : State) × Begins (ident name) state after
path-first path state rest is h = of path.segments path.separators is.1 h where
  of : (names : List Ident) (marks : List Span) → AreNamed names marks → Stands (named PathSep names marks) state rest → (name : Ident) × (after : State) × Begins (ident name) state after
  of [] marks are h = let bad : length marks + 1 ≡ 0 = are in absurd (omega arith)
  of (name ∷ names) marks are h = (name, h.0, h.1)

pub path-front-complete : (state : State) (path : Path) (rest : State) → IsPath path → goes_on PathSep rest ≡ false → Stands (path_pieces path) state rest → type_front_at state ≡ Some (front.Path path, rest)
unfolding type_front_at
path-front-complete state path rest is stop h =
    let f = path-first path state rest is h in
    let none : (wanted : Punctuation) → has_mark wanted state ≡ false = λ wanted. token-no-mark (kind.Name f.0.name) wanted f.0.span state f.1 refl f.2 in
    rw (none OpenParen, none OpenBracket, none And, none Star) (rw (path-complete state path rest is stop h) refl)

-- How a type begins.

pub data BeginsType (state : State) : Type 0 where
  WithMark : (opening : Punctuation) (m : Mark) (rest : State) → alone opening CloseParen ≡ true → alone opening Gt ≡ true → Begins (mark opening m) state rest → BeginsType state
  WithName : (name : Ident) (rest : State) → Begins (ident name) state rest → BeginsType state

pub begins-no-keyword : (w : Keyword) (state : State) → BeginsType state → has_keyword w state ≡ false
unfolding has_keyword
begins-no-keyword w state (WithMark opening m rest paren angle h) = mark-no-token (is_keyword w) opening m state rest (λ p. refl) h
begins-no-keyword w state (WithName name rest h) = rw (token-complete (kind.Name name.name) name.span state rest refl h) refl

pub begins-no-lifetime : (state : State) → BeginsType state → has_lifetime state ≡ false
unfolding has_lifetime
begins-no-lifetime state (WithMark opening m rest paren angle h) = mark-no-token is_lifetime opening m state rest (λ p. refl) h
begins-no-lifetime state (WithName name rest h) = rw (token-complete (kind.Name name.name) name.span state rest refl h) refl

pub begins-no-paren : (state : State) → BeginsType state → has_mark CloseParen state ≡ false
begins-no-paren state (WithMark opening m rest paren angle h) = other-mark opening CloseParen m state rest paren h
begins-no-paren state (WithName name rest h) = token-no-mark (kind.Name name.name) CloseParen name.span state rest refl h

pub begins-no-angle : (state : State) → BeginsType state → has_mark Gt state ≡ false
begins-no-angle state (WithMark opening m rest paren angle h) = other-mark opening Gt m state rest angle h
begins-no-angle state (WithName name rest h) = token-no-mark (kind.Name name.name) Gt name.span state rest refl h

-- behind a mark that is neither `::` nor `<` stands no part of a path
pub mark-ends : (found : Punctuation) (m : Mark) (state rest : State) → alone found PathSep ≡ true → alone found Lt ≡ true → Begins (mark found m) state rest → ends_path state ≡ true
mark-ends found m state rest sep angle h =
    rw (goes-has PathSep state (other-mark found PathSep m state rest sep h), other-mark found Lt m state rest angle h) refl
