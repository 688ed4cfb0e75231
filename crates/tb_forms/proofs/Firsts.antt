-- What stands first: a mark that is a part of no other token, a `&`, a token of another kind, and how paths and macros begin.
use Rattle.std.proofs.Common.{◌≡◌, ◌⊎◌, ℕ, Bool, true, false, if◌then◌else◌, List, [], ◌∷◌, ◌++◌, Option, Some, None, refl, sym, ap, ◌∙◌, inl, inr}
use Rattle.std.specs.Str.{bytes_eq}
use Rattle.tb_perm.specs.declared.span.Span.{Span}
use Rattle.tb_lex.specs.declared.punctuation.Punctuation.{Punctuation}
use Rattle.tb_lex.specs.declared.punctuation.Punctuation.TheVariants.{And, AndAnd, Gt, Not, OpenBrace}
use Rattle.tb_lex.specs.declared.token.TokenKind.{TokenKind}
use Rattle.tb_lex.specs.declared.token.TokenKind.TheVariants as kind
use Rattle.tb_ast.specs.declared.piece.Piece.{Piece}
use Rattle.tb_ast.specs.declared.leaf.Mark.{Mark}
use Rattle.tb_ast.specs.declared.leaf.Ident.{Ident}
use Rattle.tb_ast.specs.declared.expression.ExprPath.{ExprPath}
use Rattle.tb_ast.specs.Pieces.{piece, mark, ident, word, path_pieces}
use Rattle.tb_ast.specs.Types.{turbofish_pieces}
use Rattle.tb_ast.specs.Expressions.{path_row, macro_front}
use Rattle.tb_ast.specs.Joined.{with_mark, with_kind}
use Rattle.tb_syntax.specs.Reading.{◌>>=◌}
use Rattle.tb_syntax.specs.State.{State, Begins, Stands}
use Rattle.tb_syntax.specs.Marks.{mark_of, first_mark, begins_mark, has_mark}
use Rattle.tb_syntax.specs.Leaves.{token_at, passes}
use Rattle.tb_syntax.specs.Paths.{IsPath}
use Rattle.tb_syntax.specs.Attributes.{has_word}
use Rattle.tb_syntax.proofs.Options.{some_is}
use Rattle.tb_syntax.proofs.Chains.{stands-split}
use Rattle.tb_syntax.proofs.Marks.{shows}
use Rattle.tb_syntax.proofs.Fronts.{path-first}

-- Marks.

-- the mark is the first part of no other token
abbrev pub is_lone : Punctuation → Bool
is_lone And = false
is_lone Gt = false
is_lone other = true

lone-joint : (first left : Punctuation) → is_lone first ≡ true → with_mark first left ≡ None
lone-joint And left e = absurd cc
lone-joint Gt left e = absurd cc
lone-joint first left e = refl

lone-kinds : (first : Punctuation) (k : TokenKind) (glued : Bool) → is_lone first ≡ true → (if glued then with_kind (kind.Punctuation first) k else None) ≡ None
lone-kinds first k false lone = refl
lone-kinds first (kind.Punctuation left) true lone = lone-joint first left lone
lone-kinds first k true lone = refl

-- such a mark stands whole
pub lone-stands : (p : Punctuation) (m : Mark) (state rest : State) → is_lone p ≡ true → Begins (mark p m) state rest → state ≡ mark p m ∷ rest
lone-stands p m state rest lone (inl e) = e
lone-stands p m state rest lone (inr part) =
    let none = lone-kinds p part.left.kind part.left.glued lone in
    let some = part.joint in
    absurd cc

pub lone-first : (p : Punctuation) (m : Mark) (state rest : State) → is_lone p ≡ true → Begins (mark p m) state rest → first_mark state ≡ Some (p, m, rest)
lone-first p m state rest lone h = ap first_mark (lone-stands p m state rest lone h)

and-whole : (left whole : Punctuation) → with_mark And left ≡ Some whole → whole ≡ AndAnd
and-whole And whole e = sym (some_is AndAnd whole e)
and-whole left whole e = absurd cc

and-kinds : (k : TokenKind) (glued : Bool) (whole : Punctuation) → (if glued then with_kind (kind.Punctuation And) k else None) ≡ Some whole → whole ≡ AndAnd
and-kinds (kind.Punctuation left) true whole e = and-whole left whole e
and-kinds k true whole e = absurd cc
and-kinds k false whole e = absurd cc

-- where a `&` stands, the first mark is `&` or `&&`
abbrev pub IsAnd : Punctuation → Type 0
IsAnd p = (p ≡ And) ⊎ (p ≡ AndAnd)

pub and-first : (m : Mark) (state rest : State) → Begins (mark And m) state rest → (x : Punctuation × Mark × State) × (first_mark state ≡ Some x) × IsAnd x.0
and-first m state rest (inl e) = ((And, m, rest), ap first_mark e, inl refl)
and-first m state rest (inr part) =
    let at : Mark = record { span = record { lo = m.span.lo; hi = part.left.span.hi }; glued = m.glued } in
    ((part.whole, at, part.after), ap first_mark part.stands, inr (and-kinds part.left.kind part.left.glued part.whole part.joint))

-- the first mark stands there
kind-stands : (k : TokenKind) (at : Mark) (state : State) (x : Punctuation × Mark × State) → (mark_of k >>= λ found. Some (found, at, state)) ≡ Some x
    → record { kind = k; span = at.span; glued = at.glued } ∷ state ≡ mark x.0 x.1 ∷ x.2
kind-stands (kind.Punctuation found) at state x e =
    let to : Punctuation × Mark × State → State = λ y. mark y.0 y.1 ∷ y.2 in
    ap to (some_is (found, at, state) x e)
kind-stands k at state x e = absurd cc

pub first-stands : (state : State) (x : Punctuation × Mark × State) → first_mark state ≡ Some x → state ≡ mark x.0 x.1 ∷ x.2
first-stands [] x e = absurd cc
first-stands (first ∷ state) x e = kind-stands first.kind (record { span = first.span; glued = first.glued }) state x e

-- a mark that comes next is the first mark, or the first part of it
some-first : (wanted : Punctuation) (r : Option (Punctuation × Mark × State)) → begins_mark wanted r ≡ true → (x : Punctuation × Mark × State) × (r ≡ Some x) × (shows wanted x.0 ≡ true)
some-first wanted None e = absurd cc
some-first wanted (Some x) e = (x, refl, e)

pub has-first : (wanted : Punctuation) (state : State) → has_mark wanted state ≡ true → (x : Punctuation × Mark × State) × (first_mark state ≡ Some x) × (shows wanted x.0 ≡ true)
unfolding has_mark
has-first wanted state e = some-first wanted (first_mark state) e

-- `{` comes next only where it is the first mark
pub brace-first : (p : Punctuation) → shows OpenBrace p ≡ true → p ≡ OpenBrace
brace-first OpenBrace e = refl
brace-first p e = absurd cc

-- a mark is a token of no other kind
glued-passes : (test : TokenKind → Bool) (p : Punctuation) (at : Mark) (rest : State) (glued : Bool) → ((q : Punctuation) → test (kind.Punctuation q) ≡ false)
    → passes test (if glued then None else Some (record { kind = kind.Punctuation p; span = at.span }, rest)) ≡ false
glued-passes test p at rest true never = refl
glued-passes test p at rest false never = never p

pub first-no-token : (test : TokenKind → Bool) (state : State) (x : Punctuation × Mark × State) → ((q : Punctuation) → test (kind.Punctuation q) ≡ false) → first_mark state ≡ Some x → passes test (token_at state) ≡ false
first-no-token test state x never e =
    ap (λ (s : State). passes test (token_at s)) (first-stands state x e) ∙ glued-passes test x.0 x.1 x.2 x.1.glued never

-- Tokens of another kind.

no-part : (k : TokenKind) (other : TokenKind) (glued : Bool) → mark_of k ≡ None → (if glued then with_kind k other else None) ≡ None
no-part k other false e = refl
no-part (kind.Punctuation p) other true e = absurd cc
no-part k other true e = refl

-- such a token stands whole
pub token-stands : (k : TokenKind) (span : Span) (state rest : State) → mark_of k ≡ None → Begins (piece k span) state rest → state ≡ piece k span ∷ rest
token-stands k span state rest plain (inl e) = e
token-stands k span state rest plain (inr part) =
    let none = no-part k part.left.kind part.left.glued plain in
    let some = part.joint in
    absurd cc

abbrev marked : Punctuation → Mark → State → Option (Punctuation × Mark × State)
marked found at rest = Some (found, at, rest)

kind-none : (k : TokenKind) (at : Mark) (rest : State) → mark_of k ≡ None → (mark_of k >>= λ found. marked found at rest) ≡ None
kind-none (kind.Punctuation p) at rest e = absurd cc
kind-none k at rest e = refl

pub token-first : (k : TokenKind) (span : Span) (state rest : State) → mark_of k ≡ None → Begins (piece k span) state rest → first_mark state ≡ None
token-first k span state rest plain h = ap first_mark (token-stands k span state rest plain h) ∙ kind-none k (record { span = span; glued = false }) rest plain

-- a word that stands there is it, and is none that is written otherwise
pub word-tells : (wanted found : List ℕ) (span : Span) (state rest : State) → Begins (word found span) state rest → has_word wanted state ≡ bytes_eq found wanted
unfolding has_word
word-tells wanted found span state rest h = rw (token-stands (kind.Name (record { bytes = found })) span state rest refl h) refl

-- Paths and macros.

-- a path begins with a name
pub row-begins : (path : ExprPath) (state rest : State) → IsPath path.path → Stands (path_row path) state rest → (name : Ident) × (after : State) × Begins (ident name) state after
row-begins path state rest is h =
    let parts = stands-split (path_pieces path.path) (turbofish_pieces path.turbofish) state rest h in
    path-first path.path state parts.0 is parts.1

-- a macro begins with a word, and a `!` behind it
pub macro-begins : (name : List ℕ) (at bang opening : Span) (others : List Piece) (state rest : State) → Stands (macro_front name at bang opening ++ others) state rest
    → (after : State) × Begins (word name at) state after × (has_mark Not after ≡ true)
unfolding has_mark
macro-begins name at bang opening others state rest h =
    let m : Mark = record { span = bang; glued = false } in
    (h.0, h.1, ap (begins_mark Not) (lone-first Not m h.0 h.2.0 refl h.2.1))
