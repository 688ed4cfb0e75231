-- Whole tokens: what is read stands there, and what stands there is read.
use Rattle.std.proofs.Common.{◌≡◌, ℕ, ◌<◌, length, arith, Bool, true, false, if◌then◌else◌, List, [], ◌∷◌, Option, Some, None, refl, ap, subst, inl, inr, rules}
use Rattle.std.specs.Str.{bytes_eq}
use Rattle.std.proofs.lemmas.Slice.Eq.{bytes_eq-Decides}
use Rattle.tb_perm.specs.declared.span.Span.{Span}
use Rattle.tb_lex.specs.declared.keyword.Keyword.{Keyword}
use Rattle.tb_lex.specs.contracts.keyword.KeywordPartialEq.TheImpl as keyword_law
use Rattle.tb_lex.specs.declared.token.TokenKind.{TokenKind}
use Rattle.tb_lex.specs.declared.token.TokenKind.TheVariants as kind
use Rattle.tb_lex.specs.declared.token.Token.{Token}
use Rattle.tb_lex.specs.declared.token.Name.{Name}
use Rattle.tb_lex.specs.declared.token.Integer.{Integer}
use Rattle.tb_lex.specs.declared.token.Text.{Text}
use Rattle.tb_lex.specs.declared.punctuation.Punctuation.{Punctuation}
use Rattle.tb_ast.specs.declared.leaf.Mark.{Mark}
use Rattle.tb_ast.specs.declared.leaf.Ident.{Ident}
use Rattle.tb_ast.specs.declared.leaf.Lifetime.{Lifetime}
use Rattle.tb_ast.specs.declared.leaf.IntLiteral.{IntLiteral}
use Rattle.tb_ast.specs.declared.leaf.TextLiteral.{TextLiteral}
use Rattle.tb_ast.specs.Pieces.{piece, mark, keyword, word, ident, lifetime, number, text_piece}
use Rattle.tb_ast.specs.Joined.{with_kind}
use Rattle.tb_syntax.specs.Reading.{◌>>=◌}
use Rattle.tb_syntax.specs.State.{State, Begins}
use Rattle.tb_syntax.specs.Marks.{mark_of, begins_mark, has_mark}
use Rattle.tb_syntax.specs.Leaves.{token_at, is_keyword, name_in, lifetime_in, integer_in, text_in, keyword_at, name_at, word_at, lifetime_at, number_at, text_at, passes, has_keyword, has_name, has_lifetime, is_name}
use Rattle.tb_syntax.proofs.Options.{bind_some, kept, some_is}

abbrev marked : Punctuation → Mark → State → Option (Punctuation × Mark × State)
marked found at state = Some (found, at, state)

abbrev front : Token → State → Option (Token × State)
front token state = Some (token, state)

token-glued : (k : TokenKind) (span : Span) (glued : Bool) (state : State) (token : Token) (rest : State)
    → (if glued then None else front (record { kind = k; span = span }) state) ≡ Some (token, rest)
    → Begins (piece token.kind token.span) (record { kind = k; span = span; glued = glued } ∷ state) rest
token-glued k span true state token rest e = absurd cc
token-glued k span false state token rest e =
    let is : Token × State → Type 0 = λ y. Begins (piece y.0.kind y.0.span) (record { kind = k; span = span; glued = false } ∷ state) y.1 in
    subst is (some_is (record { kind = k; span = span }, state) (token, rest) e) (inl refl)

pub token-sound : (state : State) (token : Token) (rest : State) → token_at state ≡ Some (token, rest) → Begins (piece token.kind token.span) state rest
token-sound [] token rest e = absurd cc
token-sound (first ∷ state) token rest e = token-glued first.kind first.span first.glued state token rest e

-- no part of a token but a mark stands at the front
no-part : (k : TokenKind) (other : TokenKind) (glued : Bool) → mark_of k ≡ None → (if glued then with_kind k other else None) ≡ None
no-part k other false e = refl
no-part (kind.Punctuation p) other true e = absurd cc
no-part k other true e = refl

pub token-complete : (k : TokenKind) (span : Span) (state rest : State) → mark_of k ≡ None → Begins (piece k span) state rest → token_at state ≡ Some (record { kind = k; span = span }, rest)
token-complete k span state rest plain (inl e) = rw e refl
token-complete k span state rest plain (inr part) =
    let none = no-part k part.left.kind part.left.glued plain in
    let some = part.joint in
    absurd cc

keyword_is : (w : Keyword) (k : TokenKind) → is_keyword w k ≡ true → k ≡ kind.Keyword w
keyword_is w (kind.Keyword found) e = let same : (keyword_law.ghosts).eq found w ≡ true = e in ap kind.Keyword (equal found w same) where
  equal : (a b : Keyword) → (keyword_law.ghosts).eq a b ≡ true → a ≡ b
  equal a b h = search rules
keyword_is w k e = absurd cc

pub keyword_self : (w : Keyword) → (keyword_law.ghosts).eq w w ≡ true
keyword_self w = search rules

pub keyword-sound : (w : Keyword) (state : State) (span : Span) (rest : State) → keyword_at w state ≡ Some (span, rest) → Begins (keyword w span) state rest
unfolding keyword_at
keyword-sound w state span rest e =
    let x = bind_some (token_at state) _ (span, rest) e in
    let k = kept (is_keyword w x.0.0.kind) (Some (x.0.0.span, x.0.1)) (span, rest) x.2 in
    let is : Span × State → Type 0 = λ y. Begins (keyword w y.0) state y.1 in
    let begins = token-sound state x.0.0 x.0.1 x.1 in
    subst is (some_is (x.0.0.span, x.0.1) (span, rest) k.1) (subst (λ a. Begins (piece a x.0.0.span) state x.0.1) (keyword_is w x.0.0.kind k.0) begins)

pub keyword-complete : (w : Keyword) (state : State) (span : Span) (rest : State) → Begins (keyword w span) state rest → keyword_at w state ≡ Some (span, rest)
unfolding keyword_at
keyword-complete w state span rest h =
    let t = token-complete (kind.Keyword w) span state rest refl h in
    rw t (rw (keyword_self w) refl)

pub keyword-has : (w : Keyword) (state : State) (span : Span) (rest : State) → Begins (keyword w span) state rest → has_keyword w state ≡ true
unfolding has_keyword
keyword-has w state span rest h = rw (token-complete (kind.Keyword w) span state rest refl h) (keyword_self w)

name_is : (k : TokenKind) (name : Name) → name_in k ≡ Some name → k ≡ kind.Name name
name_is (kind.Name found) name e = ap kind.Name (some_is found name e)
name_is k name e = absurd cc

pub name-sound : (state : State) (name : Ident) (rest : State) → name_at state ≡ Some (name, rest) → Begins (ident name) state rest
unfolding name_at
name-sound state name rest e =
    let x = bind_some (token_at state) _ (name, rest) e in
    let n = bind_some (name_in x.0.0.kind) _ (name, rest) x.2 in
    let is : Ident × State → Type 0 = λ y. Begins (ident y.0) state y.1 in
    let begins = token-sound state x.0.0 x.0.1 x.1 in
    subst is (some_is (record { name = n.0; span = x.0.0.span }, x.0.1) (name, rest) n.2) (subst (λ a. Begins (piece a x.0.0.span) state x.0.1) (name_is x.0.0.kind n.0 n.1) begins)

pub name-complete : (state : State) (name : Ident) (rest : State) → Begins (ident name) state rest → name_at state ≡ Some (name, rest)
unfolding name_at
name-complete state name rest h = rw (token-complete (kind.Name name.name) name.span state rest refl h) refl

pub name-has : (state : State) (name : Ident) (rest : State) → Begins (ident name) state rest → has_name state ≡ true
unfolding has_name
name-has state name rest h = rw (token-complete (kind.Name name.name) name.span state rest refl h) refl

has-named : (k : TokenKind) → is_name k ≡ true → (name : Name) × (name_in k ≡ Some name)
has-named (kind.Name name) e = (name, refl)
has-named k e = absurd cc

passes_some : (test : TokenKind → Bool) (r : Option (Token × State)) → passes test r ≡ true → (x : Token × State) × (r ≡ Some x) × (test x.0.kind ≡ true)
passes_some test (Some x) e = (x, refl, e)
passes_some test None e = absurd cc

read-name : (state : State) (x : Token × State) (name : Name) → token_at state ≡ Some x → name_in x.0.kind ≡ Some name → name_at state ≡ Some (record { name = name; span = x.0.span }, x.1)
unfolding name_at
read-name state x name e q = rw (e, q) refl

-- where a name comes next, one is read
pub has-name : (state : State) → has_name state ≡ true → (name : Ident) × (rest : State) × (name_at state ≡ Some (name, rest))
unfolding has_name
has-name state e =
    let x = passes_some is_name (token_at state) e in
    let n = has-named x.0.0.kind x.2 in
    (record { name = n.0; span = x.0.0.span }, x.0.1, read-name state x.0 n.0 x.1 n.1)

lifetime_is : (k : TokenKind) (name : Name) → lifetime_in k ≡ Some name → k ≡ kind.Lifetime name
lifetime_is (kind.Lifetime found) name e = ap kind.Lifetime (some_is found name e)
lifetime_is k name e = absurd cc

pub lifetime-sound : (state : State) (name : Lifetime) (rest : State) → lifetime_at state ≡ Some (name, rest) → Begins (lifetime name) state rest
unfolding lifetime_at
lifetime-sound state name rest e =
    let x = bind_some (token_at state) _ (name, rest) e in
    let n = bind_some (lifetime_in x.0.0.kind) _ (name, rest) x.2 in
    let is : Lifetime × State → Type 0 = λ y. Begins (lifetime y.0) state y.1 in
    let begins = token-sound state x.0.0 x.0.1 x.1 in
    subst is (some_is (record { name = n.0; span = x.0.0.span }, x.0.1) (name, rest) n.2) (subst (λ a. Begins (piece a x.0.0.span) state x.0.1) (lifetime_is x.0.0.kind n.0 n.1) begins)

pub lifetime-complete : (state : State) (name : Lifetime) (rest : State) → Begins (lifetime name) state rest → lifetime_at state ≡ Some (name, rest)
unfolding lifetime_at
lifetime-complete state name rest h = rw (token-complete (kind.Lifetime name.name) name.span state rest refl h) refl

pub lifetime-has : (state : State) (name : Lifetime) (rest : State) → Begins (lifetime name) state rest → has_lifetime state ≡ true
unfolding has_lifetime
lifetime-has state name rest h = rw (token-complete (kind.Lifetime name.name) name.span state rest refl h) refl

integer_is : (k : TokenKind) (integer : Integer) → integer_in k ≡ Some integer → k ≡ kind.Integer integer
integer_is (kind.Integer found) integer e = ap kind.Integer (some_is found integer e)
integer_is k integer e = absurd cc

pub number-sound : (state : State) (int : IntLiteral) (rest : State) → number_at state ≡ Some (int, rest) → Begins (number int) state rest
unfolding number_at
number-sound state int rest e =
    let x = bind_some (token_at state) _ (int, rest) e in
    let n = bind_some (integer_in x.0.0.kind) _ (int, rest) x.2 in
    let is : IntLiteral × State → Type 0 = λ y. Begins (number y.0) state y.1 in
    let begins = token-sound state x.0.0 x.0.1 x.1 in
    subst is (some_is (record { integer = n.0; span = x.0.0.span }, x.0.1) (int, rest) n.2) (subst (λ a. Begins (piece a x.0.0.span) state x.0.1) (integer_is x.0.0.kind n.0 n.1) begins)

pub number-complete : (state : State) (int : IntLiteral) (rest : State) → Begins (number int) state rest → number_at state ≡ Some (int, rest)
unfolding number_at
number-complete state int rest h = rw (token-complete (kind.Integer int.integer) int.span state rest refl h) refl

text_is : (k : TokenKind) (text : Text) → text_in k ≡ Some text → k ≡ kind.Text text
text_is (kind.Text found) text e = ap kind.Text (some_is found text e)
text_is k text e = absurd cc

pub text-sound : (state : State) (text : TextLiteral) (rest : State) → text_at state ≡ Some (text, rest) → Begins (text_piece text) state rest
unfolding text_at
text-sound state text rest e =
    let x = bind_some (token_at state) _ (text, rest) e in
    let n = bind_some (text_in x.0.0.kind) _ (text, rest) x.2 in
    let is : TextLiteral × State → Type 0 = λ y. Begins (text_piece y.0) state y.1 in
    let begins = token-sound state x.0.0 x.0.1 x.1 in
    subst is (some_is (record { text = n.0; span = x.0.0.span }, x.0.1) (text, rest) n.2) (subst (λ a. Begins (piece a x.0.0.span) state x.0.1) (text_is x.0.0.kind n.0 n.1) begins)

pub text-complete : (state : State) (text : TextLiteral) (rest : State) → Begins (text_piece text) state rest → text_at state ≡ Some (text, rest)
unfolding text_at
text-complete state text rest h = rw (token-complete (kind.Text text.text) text.span state rest refl h) refl

-- a word is a name with these bytes
pub word-sound : (bytes : List ℕ) (state : State) (span : Span) (rest : State) → word_at bytes state ≡ Some (span, rest) → Begins (word bytes span) state rest
unfolding word_at
word-sound bytes state span rest e =
    let x = bind_some (token_at state) _ (span, rest) e in
    let n = bind_some (name_in x.0.0.kind) _ (span, rest) x.2 in
    let k = kept (bytes_eq n.0.bytes bytes) (Some (x.0.0.span, x.0.1)) (span, rest) n.2 in
    let is : Span × State → Type 0 = λ y. Begins (word bytes y.0) state y.1 in
    let begins = token-sound state x.0.0 x.0.1 x.1 in
    let named : Begins (piece (kind.Name n.0) x.0.0.span) state x.0.1 = subst (λ a. Begins (piece a x.0.0.span) state x.0.1) (name_is x.0.0.kind n.0 n.1) begins in
    subst is (some_is (x.0.0.span, x.0.1) (span, rest) k.1) (subst (λ (b : List ℕ). Begins (piece (kind.Name (record { bytes = b })) x.0.0.span) state x.0.1) ((bytes_eq-Decides n.0.bytes bytes).0 k.0) named)

pub word-complete : (bytes : List ℕ) (state : State) (span : Span) (rest : State) → Begins (word bytes span) state rest → word_at bytes state ≡ Some (span, rest)
unfolding word_at
word-complete bytes state span rest h =
    rw (token-complete (kind.Name (record { bytes = bytes })) span state rest refl h) (rw ((bytes_eq-Decides bytes bytes).1 refl) refl)

-- a token that is no mark is none of the marks
no-mark : (k : TokenKind) (wanted : Punctuation) (at : Mark) (state : State) → mark_of k ≡ None → begins_mark wanted (mark_of k >>= λ found. marked found at state) ≡ false
no-mark (kind.Punctuation found) wanted at state plain = absurd cc
no-mark k wanted at state plain = refl

pub token-no-mark : (k : TokenKind) (wanted : Punctuation) (span : Span) (state rest : State) → mark_of k ≡ None → Begins (piece k span) state rest → has_mark wanted state ≡ false
unfolding has_mark
token-no-mark k wanted span state rest plain (inl e) = rw e (no-mark k wanted (record { span = span; glued = false }) rest plain)
token-no-mark k wanted span state rest plain (inr part) =
    let none = no-part k part.left.kind part.left.glued plain in
    let some = part.joint in
    absurd cc

-- a mark is no token of another kind
mark-passes : (test : TokenKind → Bool) (found : Punctuation) (at : Mark) (rest : State) → ((p : Punctuation) → test (kind.Punctuation p) ≡ false)
    → passes test (if at.glued then None else front (record { kind = kind.Punctuation found; span = at.span }) rest) ≡ false
mark-passes test found at rest never = by_glued at.glued where
  by_glued : (glued : Bool) → passes test (if glued then None else front (record { kind = kind.Punctuation found; span = at.span }) rest) ≡ false
  by_glued true = refl
  by_glued false = never found

pub mark-no-token : (test : TokenKind → Bool) (wanted : Punctuation) (m : Mark) (state rest : State) → ((p : Punctuation) → test (kind.Punctuation p) ≡ false)
    → Begins (mark wanted m) state rest → passes test (token_at state) ≡ false
mark-no-token test wanted m state rest never (inl e) = rw e (mark-passes test wanted m rest never)
mark-no-token test wanted m state rest never (inr part) =
    rw part.stands (mark-passes test part.whole (record { span = record { lo = m.span.lo; hi = part.left.span.hi }; glued = m.glued }) part.after never)

-- a token is read whole
pub token-shorter : (k : TokenKind) (span : Span) (state rest : State) → mark_of k ≡ None → Begins (piece k span) state rest → length rest < length state
token-shorter k span state rest plain (inl e) = let l : length state ≡ length (piece k span ∷ rest) = ap length e in omega arith
token-shorter k span state rest plain (inr part) =
    let none = no-part k part.left.kind part.left.glued plain in
    let some = part.joint in
    absurd cc
