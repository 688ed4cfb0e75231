-- A text has one list of tokens or one first fault.
use Rattle.std.proofs.Common.{◌≡◌, ◌≢◌, ℕ, ◌+◌, ◌-◌, ◌<◌, ◌≤◌, true, false, List, [], ◌∷◌, ◌++◌, length, length-append, append-nil, take, refl, ap, sym, subst, ◌∙◌, arith}
use Rattle.std.specs.Char.{len_utf8}
use Rattle.std.proofs.lemmas.Str.{encodes_same, len_utf8_bounds, utf8_valid_len-IsValidUpTo}
use Rattle.std.specs.Str.{IsValidUpTo}
use Rattle.std.proofs.lemmas.List.{take_at}
use Rattle.std.proofs.lemmas.List.Sums.{sum_by-cons}
use Rattle.tb_perm.specs.declared.code.Code.{Code}
use Rattle.tb_perm.specs.declared.code.Code.TheVariants.{UnknownCharacter}
use Rattle.tb_perm.specs.declared.span.Span.{Span}
use Rattle.tb_lex.specs.declared.token.Token.{Token as Item}
use Rattle.tb_lex.specs.declared.token.TokenKind.{TokenKind}
use Rattle.tb_lex.specs.declared.token.TokenKind.TheVariants as kind
use Rattle.tb_lex.specs.Characters.{width, begins_by}
use Rattle.tb_lex.specs.Tokens.{IsToken, IsPassed, is_word}
use Rattle.tb_lex.specs.Faults.{IsFault}
use Rattle.tb_lex.specs.Texts.{span_of, Passes, Begins, Reads, AreRising, after_mark, IsText, IsLexed, IsRefused}
use Rattle.tb_lex.specs.Texts.IsRefused.{NoText, Fault as Refusal}
use Rattle.tb_lex.proofs.Widths.{width-append}
use Rattle.tb_lex.proofs.Words.{keyword-word}
use Rattle.tb_lex.proofs.Tables.{is_mark, punctuation-marks}
use Rattle.tb_lex.proofs.Refuses.{Passing}
use Rattle.tb_lex.proofs.Places.{place, passed-place, stands-place, fault-place, fault-some, nothing-place}
use Rattle.tb_lex.proofs.Places.Place.{Gap, Token, Fault}

-- What stands at a place.

gap-is : (x y : List ℕ) → Gap x ≡ Gap y → x ≡ y
gap-is x y e = cc

token-is : (k l : TokenKind) (x y : List ℕ) → Token k x ≡ Token l y → (k ≡ l) × (x ≡ y)
token-is k l x y e = (cc, cc)

fault-is : (c d : Code) (x y : List ℕ) → Fault c x ≡ Fault d y → (c ≡ d) × (x ≡ y)
fault-is c d x y e = (cc, cc)

-- no gap stands at the place
abbrev Stops : List ℕ → Type 0
Stops text = (rest : List ℕ) → place text ≡ Gap rest → ⊥

-- neither a gap nor a token does
pub record Final (text : List ℕ) : Type 0 where
  pub code : Code
  pub rest : List ℕ
  pub is : place text ≡ Fault code rest

final-stops : (text : List ℕ) → Final text → Stops text
final-stops text f rest e = let h : Fault f.code f.rest ≡ Gap rest = sym f.is ∙ e in cc

begins-place : (size : ℕ) (text : List ℕ) (t : Item) (rest : List ℕ) → Begins size text t rest → place text ≡ Token t.kind rest
begins-place size text t rest b = ap place b.parts ∙ stands-place t.kind b.piece rest b.stands

begins-stops : (size : ℕ) (text : List ℕ) (t : Item) (rest : List ℕ) → Begins size text t rest → Stops text
begins-stops size text t rest b after e = let h : Token t.kind rest ≡ Gap after = sym (begins-place size text t rest b) ∙ e in cc

pub end-final : Final []
end-final = record { code = UnknownCharacter; rest = []; is = nothing-place }

pub fault-final : (code : Code) (text piece rest : List ℕ) → text ≡ piece ++ rest → IsFault code piece rest → Final text
fault-final code text piece rest parts is = record { code = code; rest = rest; is = ap place parts ∙ fault-place code piece rest is }

-- Gaps are passed up to one place.
gaps-one : (pieces others : List (List ℕ)) (text front other : List ℕ) → Passes pieces text front → Passes others text other → Stops front → Stops other → front ≡ other
gaps-one [] [] text front other p q f g = sym p ∙ q
gaps-one [] (o ∷ others) text front other p (after, parts, is, more) f g =
    absurd (f after (ap place (sym p ∙ parts) ∙ passed-place o after is))
gaps-one (x ∷ pieces) [] text front other (after, parts, is, more) q f g =
    absurd (g after (ap place (sym q ∙ parts) ∙ passed-place x after is))
gaps-one (x ∷ pieces) (o ∷ others) text front other (after, parts, is, more) (behind, cut, here, rest) f g =
    let same : after ≡ behind = gap-is after behind (sym (passed-place x after is) ∙ ap place (sym parts ∙ cut) ∙ passed-place o behind here) in
    gaps-one pieces others behind front other (subst (λ t. Passes pieces t front) same more) rest f g

abbrev item : TokenKind → Span → Item
item k s = record { kind = k; span = s }

-- Tokens are read up to one place, and they are the same.
pub reads-one : (size : ℕ) (tokens others : List Item) (text front other : List ℕ) → Reads size text tokens front → Reads size text others other → Final front → Final other
    → (tokens ≡ others) × (front ≡ other)
reads-one size [] [] text front other (ps, p) (qs, q) f g = (refl, gaps-one ps qs text front other p q (final-stops front f) (final-stops other g))
reads-one size [] (u ∷ others) text front other (ps, p) (qs, mid, after, q, b, more) f g =
    let same = gaps-one ps qs text front mid p q (final-stops front f) (begins-stops size mid u after b) in
    let h : Fault f.code f.rest ≡ Token u.kind after = sym f.is ∙ ap place same ∙ begins-place size mid u after b in
    absurd cc
reads-one size (t ∷ tokens) [] text front other (ps, mid, after, p, b, more) (qs, q) f g =
    let same = gaps-one ps qs text mid other p q (begins-stops size mid t after b) (final-stops other g) in
    let h : Token t.kind after ≡ Fault g.code g.rest = sym (begins-place size mid t after b) ∙ ap place same ∙ g.is in
    absurd cc
reads-one size (t ∷ tokens) (u ∷ others) text front other (ps, mid, after, p, b, more) (qs, place', behind, q, d, rest) f g =
    let same : mid ≡ place' = gaps-one ps qs text mid place' p q (begins-stops size mid t after b) (begins-stops size place' u behind d) in
    let one = token-is t.kind u.kind after behind (sym (begins-place size mid t after b) ∙ ap place same ∙ begins-place size place' u behind d) in
    let span : t.span ≡ u.span = b.span ∙ ap (λ (x : List ℕ). span_of size x after) same ∙ ap (λ (x : List ℕ). span_of size place' x) one.1 ∙ sym d.span in
    let token : t ≡ u = ap (λ (k : TokenKind). item k t.span) one.0 ∙ ap (λ (s : Span). item u.kind s) span in
    let others' = reads-one size tokens others behind front other (subst (λ x. Reads size x tokens front) one.1 more) rest f g in
    (ap (λ (x : Item). x ∷ tokens) token ∙ ap (λ (xs : List Item). u ∷ xs) others'.0, others'.1)

-- One more gap, or one more token.

passes-push : (pieces : List (List ℕ)) (text front : List ℕ) (piece rest : List ℕ) → Passes pieces text front → front ≡ piece ++ rest → IsPassed piece rest → Passes (pieces ++ piece ∷ []) text rest
passes-push [] text front piece rest p parts is = (rest, p ∙ parts, is, refl)
passes-push (x ∷ pieces) text front piece rest (after, cut, here, more) parts is =
    (after, cut, here, passes-push pieces after front piece rest more parts is)

pub reads-pass : (size : ℕ) (text : List ℕ) (tokens : List Item) (front rest : List ℕ) → Reads size text tokens front → Passing front rest → Reads size text tokens rest
reads-pass size text [] front rest (pieces, p) (piece, parts, is) = (pieces ++ piece ∷ [], passes-push pieces text front piece rest p parts is)
reads-pass size text (t ∷ tokens) front rest (pieces, mid, after, p, b, more) passing =
    (pieces, mid, after, p, b, reads-pass size after tokens front rest more passing)

pub reads-token : (size : ℕ) (text : List ℕ) (tokens : List Item) (front : List ℕ) (t : Item) (rest : List ℕ) → Reads size text tokens front → Begins size front t rest → Reads size text (tokens ++ t ∷ []) rest
reads-token size text [] front t rest (pieces, p) b = (pieces, front, rest, p, b, ([], refl))
reads-token size text (x ∷ tokens) front t rest (pieces, mid, after, p, here, more) b =
    (pieces, mid, after, p, here, reads-token size after tokens front t rest more b)

-- Something is passed each time.

piece-shorter : (piece text rest : List ℕ) → text ≡ piece ++ rest → piece ≢ [] → length rest < length text
piece-shorter [] text rest parts some = absurd (some refl)
piece-shorter (c ∷ piece) text rest parts some =
    let total = ap length parts ∙ length-append (c ∷ piece) rest in
    omega arith

passed-some : (rest : List ℕ) → IsPassed [] rest → ⊥
passed-some rest is = elim is [ ]

pub passing-shorter : (text rest : List ℕ) → Passing text rest → length rest < length text
passing-shorter text rest (piece, parts, is) =
    piece-shorter piece text rest parts (λ e. passed-some rest (subst (λ p. IsPassed p rest) e is))

-- Spans rise.

-- a token is not empty
token-some : (k : TokenKind) (rest : List ℕ) → IsToken k [] rest → ⊥
token-some (kind.Name x) rest is = let h = is.0.is_word in cc
token-some kind.Underscore rest is = let h : length {A = ℕ} [] ≡ 1 = ap length is in absurd (omega arith)
token-some (kind.Keyword x) rest is = let h : false ≡ true = ap is_word is ∙ keyword-word x in cc
token-some (kind.Lifetime x) rest is = let h = is.1 in cc
token-some (kind.Integer x) rest is = let h = is.2.begins in cc
token-some (kind.Character x) rest is = let h = is.1 in cc
token-some (kind.Byte x) rest is = let h = is.1 in cc
token-some (kind.Text x) rest is = let h = is.2 in cc
token-some (kind.Punctuation x) rest is = let h : false ≡ true = ap (begins_by is_mark) is.0 ∙ punctuation-marks x in cc

pub begins-shorter : (size : ℕ) (text : List ℕ) (t : Item) (rest : List ℕ) → Begins size text t rest → length rest < length text
begins-shorter size text t rest b = piece-shorter b.piece text rest b.parts (λ e. token-some t.kind rest (subst (λ p. IsToken t.kind p rest) e b.stands.token))

width-some : (k : TokenKind) (piece rest : List ℕ) → IsToken k piece rest → 1 ≤ width piece
width-some k [] rest is = absurd (token-some k rest is)
width-some k (c ∷ piece) rest is =
    let bound = (len_utf8_bounds c).0 in
    let sum : width (c ∷ piece) ≡ len_utf8 c + width piece = sum_by-cons len_utf8 c piece in
    omega arith

passes-width : (pieces : List (List ℕ)) (text rest : List ℕ) → Passes pieces text rest → width rest ≤ width text
passes-width [] text rest p = let e = ap width p in omega arith
passes-width (piece ∷ pieces) text rest (after, parts, is, more) =
    let others = passes-width pieces after rest more in
    let e = ap width parts ∙ width-append piece after in
    omega arith

pub reads-rise : (size : ℕ) (text : List ℕ) (tokens : List Item) (rest : List ℕ) (lo : ℕ) → Reads size text tokens rest → width text ≤ size → lo ≤ size - width text → AreRising lo tokens size
reads-rise size text [] rest lo (pieces, p) room low = omega arith
reads-rise size text (t ∷ tokens) rest lo (pieces, mid, after, p, b, more) room low =
    let under = passes-width pieces text mid p in
    let some = width-some t.kind b.piece after b.stands.token in
    let e = ap width b.parts ∙ width-append b.piece after in
    let first : t.span.lo ≡ size - width mid = ap (λ (s : Span). s.lo) b.span in
    let last : t.span.hi ≡ size - width after = ap (λ (s : Span). s.hi) b.span in
    (omega arith, omega arith, reads-rise size after tokens rest t.span.hi more (omega arith) (omega arith))

-- Whole texts.

pub no_text : (bytes : List ℕ) (lo : ℕ) (text : List ℕ) → IsText bytes text → IsValidUpTo bytes lo → ⊥
no_text bytes lo text is valid =
    let whole : take (length bytes) bytes ≡ bytes = ap (take (length bytes)) (sym (append-nil bytes)) ∙ take_at bytes [] (length bytes) refl in
    valid.longest (length bytes) valid.short (text, (is.scalars, is.spelled ∙ sym whole))

nothing-split : (piece rest : List ℕ) → [] ≡ piece ++ rest → piece ≢ [] → ⊥
nothing-split [] rest e some = some refl
nothing-split (c ∷ piece) rest e some = cc

abbrev pub byte_span : ℕ → Span
byte_span lo = record { lo = lo; hi = lo + 1 }

-- a text has one list of tokens
pub one_list : (bytes : List ℕ) (tokens others : List Item) → IsLexed bytes tokens → IsLexed bytes others → tokens ≡ others
one_list bytes tokens others a b =
    let same : a.text ≡ b.text = encodes_same a.text b.text (a.is_text.spelled ∙ sym b.is_text.spelled) in
    (reads-one (length bytes) tokens others (after_mark b.text) [] [] (subst (λ t. Reads (length bytes) (after_mark t) tokens []) same a.reads) b.reads end-final end-final).0

-- it has no fault besides
pub not_both : (bytes : List ℕ) (tokens : List Item) (code : Code) (span : Span) → IsLexed bytes tokens → IsRefused bytes code span → ⊥
not_both bytes tokens _ _ a (NoText lo valid) = no_text bytes lo a.text a.is_text valid
not_both bytes tokens _ _ a (Refusal text is others front piece rest code reads parts fault) =
    let same : a.text ≡ text = encodes_same a.text text (a.is_text.spelled ∙ sym is.spelled) in
    let one = reads-one (length bytes) tokens others (after_mark text) [] front (subst (λ t. Reads (length bytes) (after_mark t) tokens []) same a.reads) reads
    end-final (fault-final code front piece rest parts fault) in
    nothing-split piece rest (one.1 ∙ parts) (λ e. fault-some code rest (subst (λ p. IsFault code p rest) e fault))

-- and it has one first fault
pub one_fault : (bytes : List ℕ) (code other : Code) (span place' : Span) → IsRefused bytes code span → IsRefused bytes other place' → (other ≡ code) × (place' ≡ span)
one_fault bytes _ _ _ _ (NoText lo valid) (NoText hi other) =
    let same : hi ≡ lo = sym (utf8_valid_len-IsValidUpTo bytes hi other) ∙ utf8_valid_len-IsValidUpTo bytes lo valid in
    (refl, ap (λ (n : ℕ). byte_span n) same)
one_fault bytes _ _ _ _ (NoText lo valid) (Refusal text is tokens front piece rest code reads parts fault) = absurd (no_text bytes lo text is valid)
one_fault bytes _ _ _ _ (Refusal text is tokens front piece rest code reads parts fault) (NoText lo valid) = absurd (no_text bytes lo text is valid)
one_fault bytes _ _ _ _ (Refusal text is tokens front piece rest code reads parts fault) (Refusal word was others here bit after sign read cut wrong) =
    let same : word ≡ text = encodes_same word text (was.spelled ∙ sym is.spelled) in
    let one = reads-one (length bytes) others tokens (after_mark text) here front (subst (λ t. Reads (length bytes) (after_mark t) others here) same read) reads
    (fault-final sign here bit after cut wrong) (fault-final code front piece rest parts fault) in
    let stands = fault-is sign code after rest (sym (ap place cut ∙ fault-place sign bit after wrong) ∙ ap place one.1 ∙ ap place parts ∙ fault-place code piece rest fault) in (
      stands.0,
      ap (λ (t : List ℕ). span_of (length bytes) t after) one.1 ∙ ap (λ (t : List ℕ). span_of (length bytes) front t) stands.1,
    )
