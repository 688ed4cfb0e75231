-- Where a token stands, the longest one is found.
use Rattle.std.proofs.Common.{◌≡◌, inl, inr, ℕ, ◌+◌, ◌<◌, ◌≤◌, Bool, true, false, ◌&&◌, ◌||◌, not, ◌==◌, cond, List, [], ◌∷◌, ◌++◌, length, length-append, Some, None, Ok, refl, ap, sym, subst, ◌∙◌, arith, ltb, ltb-true, lt-ltb, eqb-true, append_assoc, codes}
use Rattle.std.specs.Char.{is_ascii_digit, is_ascii_alphabetic}
use Rattle.std.specs.List.{list_all}
use Rattle.std.specs.Str.{encode_utf8_all}
use Rattle.std.proofs.lemmas.Bool.{cases_Bool}
use Rattle.tb_perm.specs.declared.code.Code.TheVariants.{BadLiteral}
use Rattle.tb_lex.specs.declared.literal.Literal.TheVariants as literal
use Rattle.tb_lex.specs.declared.literal.Stage.{Stage}
use Rattle.tb_lex.specs.declared.literal.Stage.TheVariants.{Open, Full}
use Rattle.tb_lex.specs.declared.punctuation.Punctuation.{Punctuation}
use Rattle.tb_lex.specs.declared.token.Integer.{Integer}
use Rattle.tb_lex.specs.declared.token.TokenKind.{TokenKind}
use Rattle.tb_lex.specs.declared.token.TokenKind.TheVariants as kind
use Rattle.tb_lex.specs.Characters.{is_space, is_start, is_continue, begins_by, begins, front, after_front, begins_pair}
use Rattle.tb_lex.specs.Tables.{keyword_text, punctuation_text}
use Rattle.tb_lex.specs.Numbers.{integer_of}
use Rattle.tb_lex.specs.Stages.{content}
use Rattle.tb_lex.specs.Literals.{IsWritten, AreWritten, short}
use Rattle.tb_lex.specs.Literals.IsWritten.{Plain, Short, Hex as Twice, Braced}
use Rattle.tb_lex.specs.Tokens.{IsToken, is_word, IsDigitWord, IsNumber, is_sound, digits_value, suffixed_text}
use Rattle.tb_lex.specs.Scan.{word_kind, token, refuse, name, word_at, is_lifetime, lifetime_at, numbered, number_at, character_of, byte_of, text_of, character_at, byte_at, text_at, quoted_at, marked, mark_at, token_at, comment_at, gap_at}
use Rattle.tb_lex.proofs.Cases.{both, either, neither, not_true, chosen, some_is}
use Rattle.tb_lex.proofs.Classes.{start-continue, start-space, start-digit, digit-space, start-ascii, not_start-39, not_start-34, not_start-47, not_start-92, not_continue-39}
use Rattle.tb_lex.proofs.Fronts.{front-parts, front-again, front-longest}
use Rattle.tb_lex.proofs.Written.{through-content, written-through, full-text, whole-stops}
use Rattle.tb_lex.proofs.Literals.{content-stop}
use Rattle.tb_lex.proofs.Words.{word-continues, name-again, keyword-again, keyword-word, underscore-word, word_kind-underscore}
use Rattle.tb_lex.proofs.Numbers.{number-again, integer-sound, suffixed-again}
use Rattle.tb_lex.proofs.Tables.{keyword-no_byte, is_mark, punctuation-marks, finds_punctuation, same_front}
use Rattle.tb_lex.proofs.Takes.{pair-begins, cut, no_gap}

-- a character that passes is none that does not
pub differs : (p : ℕ → Bool) (c d : ℕ) → p c ≡ true → p d ≡ false → (c == d) ≡ false
differs p c d passes other = elim (cases_Bool (c == d)) [
  | inr is ↦ is
  | inl is ↦ let h : true ≡ false = sym passes ∙ ap p (eqb-true c d is) ∙ other in absurd cc
]

-- at this place a token is found that is no shorter than this one, and is this one if it is no longer
pub record FindsToken (text after : List ℕ) (kind : TokenKind) : Type 0 where
  pub found : TokenKind
  pub rest : List ℕ
  pub stands : token_at text ≡ token found rest
  pub shorter : length rest ≤ length after
  pub same : length rest ≡ length after → found ≡ kind

exactly : (text after : List ℕ) (kind : TokenKind) → token_at text ≡ token kind after → FindsToken text after kind
exactly text after kind e = record { found = kind; rest = after; stands = e; shorter = omega arith; same = λ h. refl }

-- Which way reading goes.

pub path-byte : (rest : List ℕ) → token_at (98 ∷ 39 ∷ rest) ≡ byte_at rest
unfolding token_at
path-byte rest = refl

pub path-quote : (rest : List ℕ) → token_at (39 ∷ rest) ≡ quoted_at rest
unfolding token_at
path-quote rest = refl

pub path-text : (rest : List ℕ) → token_at (34 ∷ rest) ≡ text_at rest
unfolding token_at
path-text rest = refl

pub path-digit : (c : ℕ) (rest : List ℕ) → is_ascii_digit c ≡ true → token_at (c ∷ rest) ≡ number_at (c ∷ rest)
unfolding token_at
path-digit c rest e =
    rw (differs is_ascii_digit c 98 e refl, differs is_ascii_digit c 39 e refl, differs is_ascii_digit c 34 e refl, e) refl

pub path-word : (c : ℕ) (rest : List ℕ) → is_start c ≡ true → begins_pair 98 39 (c ∷ rest) ≡ false → token_at (c ∷ rest) ≡ word_at (c ∷ rest)
unfolding token_at
path-word c rest e no_byte =
    let other : (c == 98 && begins 39 rest) ≡ false = sym (pair-begins 98 39 c rest) ∙ no_byte in
    rw (other, differs is_start c 39 e not_start-39, differs is_start c 34 e not_start-34, start-digit c e, e) refl

mark-parts : (c : ℕ) → is_mark c ≡ true → (is_space c ≡ false) × (is_ascii_digit c ≡ false) × (is_start c ≡ false)
mark-parts c e =
    let all = both (ltb c 128) (not (is_space c || is_ascii_digit c || c == 39 || c == 34 || is_ascii_alphabetic c || c == 95)) e in
    let none = not_true (is_space c || is_ascii_digit c || c == 39 || c == 34 || is_ascii_alphabetic c || c == 95) all.1 in
    let a = neither (is_space c || is_ascii_digit c || c == 39 || c == 34 || is_ascii_alphabetic c) (c == 95) none in
    let b = neither (is_space c || is_ascii_digit c || c == 39 || c == 34) (is_ascii_alphabetic c) a.0 in
    let d = neither (is_space c || is_ascii_digit c || c == 39) (c == 34) b.0 in
    let f = neither (is_space c || is_ascii_digit c) (c == 39) d.0 in
    let g = neither (is_space c) (is_ascii_digit c) f.0 in
    (g.0, g.1, start-ascii c (ltb-true c 128 all.0) ∙ ap (λ (x : Bool). x || c == 95) b.1 ∙ a.1)

path-mark : (c : ℕ) (rest : List ℕ) → is_mark c ≡ true → token_at (c ∷ rest) ≡ mark_at (c ∷ rest)
unfolding token_at
path-mark c rest e =
    let parts = mark-parts c e in
    rw (differs is_mark c 98 e refl, differs is_mark c 39 e refl, differs is_mark c 34 e refl, parts.1, parts.2) refl

-- Words.

word-finds : (piece after : List ℕ) (kind : TokenKind) → is_word piece ≡ true → begins_pair 98 39 (piece ++ after) ≡ false → word_kind piece ≡ kind → FindsToken (piece ++ after) after kind
unfolding word_at
word-finds [] after kind is no_byte e = absurd cc
word-finds (c ∷ piece) after kind is no_byte e =
    let parts = both (is_start c) (list_all is_continue piece) is in
    let text : List ℕ = c ∷ (piece ++ after) in
    let all : list_all is_continue (c ∷ piece) ≡ true = word-continues (c ∷ piece) is in
    let whole = front-parts is_continue text in
    record {
      found = word_kind (front is_continue text);
      rest = after_front is_continue text;
      stands = path-word c (piece ++ after) parts.0 no_byte;
      shorter = front-longest is_continue (c ∷ piece) after all;
      same = λ h.
          let long : length (front is_continue text) + length (after_front is_continue text) ≡ length (c ∷ piece) + length after =
          sym (length-append (front is_continue text) (after_front is_continue text)) ∙ sym (ap length whole) ∙ length-append (c ∷ piece) after in
          let word : front is_continue text ≡ c ∷ piece = same_front (front is_continue text) (c ∷ piece) (after_front is_continue text) after (sym whole) (omega arith) in
          ap word_kind word ∙ e;
    }

-- Lifetimes.

lifetime-again : (word after : List ℕ) → is_word word ≡ true → begins_by is_continue after ≡ false → begins 39 after ≡ false
    → quoted_at (word ++ after) ≡ token (kind.Lifetime (name word)) after
unfolding quoted_at lifetime_at
lifetime-again [] after is ends other = absurd cc
lifetime-again (c ∷ word) after is ends other =
    let parts = both (is_start c) (list_all is_continue word) is in
    let cut = front-again is_continue (c ∷ word) after (word-continues (c ∷ word) is) ends in
    let test : is_lifetime (c ∷ (word ++ after)) ≡ true =
    ap (λ (b : Bool). b && not (begins 39 (after_front is_continue (c ∷ (word ++ after))))) parts.0
    ∙ ap (λ (t : List ℕ). not (begins 39 t)) cut.1 ∙ ap not other in
    ap (λ (b : Bool). cond b (lifetime_at (c ∷ (word ++ after))) (character_at (c ∷ (word ++ after)))) test
    ∙ ap (λ (t : List ℕ). token (kind.Lifetime (name t)) (after_front is_continue (c ∷ (word ++ after)))) cut.0
    ∙ ap (λ (t : List ℕ). token (kind.Lifetime (name (c ∷ word))) t) cut.1

-- Literals.

-- the text behind an opening falls into the content, the quote and the rest
behind : (inner : List ℕ) (quote : ℕ) (after : List ℕ) → (inner ++ quote ∷ []) ++ after ≡ inner ++ quote ∷ after
behind inner quote after = append_assoc inner (quote ∷ []) after

-- what begins as a character's content and its quote is no lifetime
one_letter : (c : ℕ) (after : List ℕ) → is_lifetime (c ∷ 39 ∷ after) ≡ false
one_letter c after = elim (cases_Bool (is_start c)) [
  | inr other ↦ ap (λ (b : Bool). b && not (begins 39 (after_front is_continue (c ∷ 39 ∷ after)))) other
  | inl start ↦
      let goes : after_front is_continue (c ∷ 39 ∷ after) ≡ 39 ∷ after =
      ap (λ (b : Bool). cond b (after_front is_continue (39 ∷ after)) (c ∷ 39 ∷ after)) (start-continue c start)
      ∙ ap (λ (b : Bool). cond b (after_front is_continue after) (39 ∷ after)) not_continue-39 in
      ap (λ (b : Bool). b && not (begins 39 (after_front is_continue (c ∷ 39 ∷ after)))) start ∙ ap (λ (t : List ℕ). not (begins 39 t)) goes
]

backslash : (text : List ℕ) → is_lifetime (92 ∷ text) ≡ false
backslash text = ap (λ (b : Bool). b && not (begins 39 (after_front is_continue (92 ∷ text)))) not_start-92

no_lifetime : (value : ℕ) (inner after : List ℕ) → IsWritten literal.Character value inner → is_lifetime (inner ++ 39 ∷ after) ≡ false
no_lifetime value _ after (Plain c e) = one_letter c after
no_lifetime value _ after (Short v letter e) = backslash (letter ∷ 39 ∷ after)
no_lifetime value _ after (Twice high low h l) = backslash (120 ∷ high ∷ low ∷ 39 ∷ after)
no_lifetime value _ after (Braced digits allowed some few all is) = backslash (117 ∷ 123 ∷ ((digits ++ 125 ∷ []) ++ 39 ∷ after))

character-again : (value : ℕ) (inner after : List ℕ) → IsWritten literal.Character value inner → character_at (inner ++ 39 ∷ after) ≡ token (kind.Character value) after
unfolding character_at
character-again value inner after is =
    let reads : content literal.Character Open (inner ++ 39 ∷ after) ≡ (Full value, 39 ∷ after) =
    through-content literal.Character Open inner (39 ∷ after) (Full value) (written-through literal.Character value inner is)
    ∙ content-stop literal.Character (Full value) 39 after (whole-stops literal.Character (Full value) (value, refl)) in
    ap (λ (r : Stage × List ℕ). character_of r.0 r.1) reads

short-small : (letter value : ℕ) → short letter ≡ Some value → value < 256
short-small letter value e = elim (chosen (letter == 110) (Some 10) _ (Some value) e) [
  | inl k ↦ subst (λ n. n < 256) (some_is 10 value k.1) (omega arith)
  | inr k ↦ elim (chosen (letter == 114) (Some 13) _ (Some value) k.1) [
    | inl a ↦ subst (λ n. n < 256) (some_is 13 value a.1) (omega arith)
    | inr a ↦ elim (chosen (letter == 116) (Some 9) _ (Some value) a.1) [
      | inl b ↦ subst (λ n. n < 256) (some_is 9 value b.1) (omega arith)
      | inr b ↦ elim (chosen (letter == 48) (Some 0) _ (Some value) b.1) [
        | inl d ↦ subst (λ n. n < 256) (some_is 0 value d.1) (omega arith)
        | inr d ↦ elim (chosen (letter == 92 || letter == 39 || letter == 34) (Some letter) None (Some value) d.1) [
          | inr f ↦ absurd cc
          | inl f ↦
              let small : letter < 256 = elim (either (letter == 92 || letter == 39) (letter == 34) f.0) [
                | inr g ↦ let h = eqb-true letter 34 g in omega arith
                | inl g ↦ elim (either (letter == 92) (letter == 39) g) [
                  | inl h ↦ let same = eqb-true letter 92 h in omega arith
                  | inr h ↦ let same = eqb-true letter 39 h in omega arith
                ]
              ] in
              subst (λ n. n < 256) (some_is letter value f.1) small
        ]
      ]
    ]
  ]
]

-- behind a `'` that begins no lifetime
pub quoted-character : (text : List ℕ) → is_lifetime text ≡ false → quoted_at text ≡ character_at text
unfolding quoted_at
quoted-character text e = ap (λ (b : Bool). cond b (lifetime_at text) (character_at text)) e

pub byte-small : (value : ℕ) (inner : List ℕ) → IsWritten literal.Byte value inner → value < 256
byte-small value _ (Plain c e) =
    let low : c < 128 = ltb-true c 128 (both (ltb c 128) (not (c == 39 || c == 92 || c == 10)) e).0 in
    omega arith
byte-small value _ (Short v letter e) = short-small letter v e
byte-small value _ (Twice high low h l) = omega arith
byte-small value _ (Braced digits allowed some few all is) = absurd cc

byte-again : (value : ℕ) (inner after : List ℕ) → IsWritten literal.Byte value inner → byte_at (inner ++ 39 ∷ after) ≡ token (kind.Byte value) after
unfolding byte_at
byte-again value inner after is =
    let reads : content literal.Byte Open (inner ++ 39 ∷ after) ≡ (Full value, 39 ∷ after) =
    through-content literal.Byte Open inner (39 ∷ after) (Full value) (written-through literal.Byte value inner is)
    ∙ content-stop literal.Byte (Full value) 39 after (whole-stops literal.Byte (Full value) (value, refl)) in
    ap (λ (r : Stage × List ℕ). byte_of r.0 r.1) reads
    ∙ ap (λ (b : Bool). cond b (token (kind.Byte value) after) (refuse BadLiteral (39 ∷ after))) (lt-ltb value 256 (byte-small value inner is))

text-again : (values inner after : List ℕ) → AreWritten values inner → text_at (inner ++ 34 ∷ after) ≡ token (kind.Text (record { source = encode_utf8_all inner })) after
unfolding text_at
text-again values inner after is =
    let text : List ℕ = inner ++ 34 ∷ after in
    let reads : content literal.Text Open (inner ++ 34 ∷ after) ≡ (Open, 34 ∷ after) =
    through-content literal.Text Open inner (34 ∷ after) Open (full-text values inner is)
    ∙ content-stop literal.Text Open 34 after (whole-stops literal.Text Open refl) in
    ap (λ (r : Stage × List ℕ). text_of text r.0 r.1) reads
    ∙ ap (λ (t : List ℕ). token (kind.Text (record { source = encode_utf8_all t })) after) (cut text inner (34 ∷ after) refl)

-- Integers.

digits-again : (word after : List ℕ) (base : ℕ) (digits : List ℕ) (integer : Integer) → IsDigitWord word after → IsNumber word base digits (suffixed_text integer.suffix)
    → is_sound base digits ≡ true → integer.value ≡ digits_value base 0 digits → token_at (word ++ after) ≡ token (kind.Integer integer) after
unfolding number_at
digits-again [] after base digits integer whole is sound value = let h : false ≡ true = whole.begins in absurd cc
digits-again (c ∷ word) after base digits integer whole is sound value =
    let cut = front-again is_continue (c ∷ word) after whole.all whole.ends in
    let read = number-again (c ∷ word) base digits (suffixed_text integer.suffix) is in
    let reads : integer_of (c ∷ word) ≡ Ok integer =
    read.0 ∙ integer-sound base digits (suffixed_text integer.suffix) read.1 sound ∙ suffixed-again (digits_value base 0 digits) integer.suffix
    ∙ ap (λ (n : ℕ). Ok (record { value = n; suffix = integer.suffix })) (sym value) in
    path-digit c (word ++ after) whole.begins
    ∙ ap (λ (t : List ℕ). numbered (integer_of t) (after_front is_continue (c ∷ (word ++ after)))) cut.0
    ∙ ap (λ (t : List ℕ). numbered (integer_of (c ∷ word)) t) cut.1
    ∙ ap (λ r. numbered r after) reads

-- Punctuation.

marks : (word : List ℕ) (p : Punctuation) (after : List ℕ) → word ≡ punctuation_text p → begins_by is_mark word ≡ true → FindsToken (punctuation_text p ++ after) after (kind.Punctuation p)
unfolding mark_at
marks [] p after e is = absurd cc
marks (c ∷ word) p after e is =
    let f = finds_punctuation p after in
    let text : List ℕ = punctuation_text p ++ after in
    let path : token_at text ≡ mark_at text = ap (λ (t : List ℕ). token_at (t ++ after)) (sym e) ∙ path-mark c (word ++ after) is ∙ ap (λ (t : List ℕ). mark_at (t ++ after)) e in
    record {
      found = kind.Punctuation f.found;
      rest = f.rest;
      stands = path ∙ ap (marked text) f.stands;
      shorter = f.shorter;
      same = λ h. ap (λ x. kind.Punctuation x) (f.same h);
    }

mark-finds : (p : Punctuation) (after : List ℕ) → FindsToken (punctuation_text p ++ after) after (kind.Punctuation p)
mark-finds p after = marks (punctuation_text p) p after refl (punctuation-marks p)

-- All kinds.
pub token-finds : (k : TokenKind) (piece after : List ℕ) → IsToken k piece after → FindsToken (piece ++ after) after k
token-finds (kind.Name x) piece after is =
    word-finds piece after (kind.Name x) is.0.is_word is.1 (name-again piece x is.0 is.2)
token-finds kind.Underscore piece after is =
    subst (λ t. FindsToken (t ++ after) after kind.Underscore) (sym is)
    (word-finds (codes "_") after kind.Underscore underscore-word (pair-begins 98 39 95 after) (word_kind-underscore (codes "_") refl))
token-finds (kind.Keyword x) piece after is =
    subst (λ t. FindsToken (t ++ after) after (kind.Keyword x)) (sym is)
    (word-finds (keyword_text x) after (kind.Keyword x) (keyword-word x) (keyword-no_byte x after) (keyword-again (keyword_text x) x refl))
token-finds (kind.Lifetime x) piece after (word, parts, is, ends, other, bytes) =
    let reads : quoted_at (word ++ after) ≡ token (kind.Lifetime x) after =
    lifetime-again word after is ends other ∙ ap (λ (b : List ℕ). token (kind.Lifetime (record { bytes = b })) after) (sym bytes) in
    subst (λ t. FindsToken (t ++ after) after (kind.Lifetime x)) (sym parts) (exactly (39 ∷ (word ++ after)) after (kind.Lifetime x) (path-quote (word ++ after) ∙ reads))
token-finds (kind.Integer x) piece after (base, digits, whole, is, sound, value) =
    exactly (piece ++ after) after (kind.Integer x) (digits-again piece after base digits x whole is sound value)
token-finds (kind.Character value) piece after (inner, parts, is) =
    let reads : quoted_at ((inner ++ 39 ∷ []) ++ after) ≡ token (kind.Character value) after =
    ap quoted_at (behind inner 39 after) ∙ quoted-character (inner ++ 39 ∷ after) (no_lifetime value inner after is) ∙ character-again value inner after is in
    subst (λ t. FindsToken (t ++ after) after (kind.Character value)) (sym parts)
    (exactly (39 ∷ ((inner ++ 39 ∷ []) ++ after)) after (kind.Character value) (path-quote ((inner ++ 39 ∷ []) ++ after) ∙ reads))
token-finds (kind.Byte value) piece after (inner, parts, is) =
    let reads : byte_at ((inner ++ 39 ∷ []) ++ after) ≡ token (kind.Byte value) after = ap byte_at (behind inner 39 after) ∙ byte-again value inner after is in
    subst (λ t. FindsToken (t ++ after) after (kind.Byte value)) (sym parts)
    (exactly (98 ∷ 39 ∷ ((inner ++ 39 ∷ []) ++ after)) after (kind.Byte value) (path-byte ((inner ++ 39 ∷ []) ++ after) ∙ reads))
token-finds (kind.Text x) piece after (inner, values, parts, is, source) =
    let reads : text_at ((inner ++ 34 ∷ []) ++ after) ≡ token (kind.Text x) after =
    ap text_at (behind inner 34 after) ∙ text-again values inner after is ∙ ap (λ (b : List ℕ). token (kind.Text (record { source = b })) after) (sym source) in
    subst (λ t. FindsToken (t ++ after) after (kind.Text x)) (sym parts)
    (exactly (34 ∷ ((inner ++ 34 ∷ []) ++ after)) after (kind.Text x) (path-text ((inner ++ 34 ∷ []) ++ after) ∙ reads))
token-finds (kind.Punctuation p) piece after (parts, line, block) =
    subst (λ t. FindsToken (t ++ after) after (kind.Punctuation p)) (sym parts) (mark-finds p after)

-- No gap stands where a token does.

pub plain-no_gap : (c : ℕ) (rest : List ℕ) → is_space c ≡ false → (c == 47) ≡ false → gap_at (c ∷ rest) ≡ no_gap
unfolding gap_at
plain-no_gap c rest space slash = rw (space, slash) refl

slash-no_gap : (rest : List ℕ) → begins 47 rest ≡ false → begins 42 rest ≡ false → comment_at rest ≡ no_gap
unfolding comment_at
slash-no_gap [] line block = refl
slash-no_gap (d ∷ rest) line block = rw (line, block) refl

mark-no_gap : (c : ℕ) (rest : List ℕ) → is_space c ≡ false → begins_pair 47 47 (c ∷ rest) ≡ false → begins_pair 47 42 (c ∷ rest) ≡ false → gap_at (c ∷ rest) ≡ no_gap
unfolding gap_at
mark-no_gap c rest space line block = elim (cases_Bool (c == 47)) [
  | inr other ↦ plain-no_gap c rest space other
  | inl slash ↦
      let first : begins 47 rest ≡ false = sym (pair-begins 47 47 c rest ∙ ap (λ (b : Bool). b && begins 47 rest) slash) ∙ line in
      let second : begins 42 rest ≡ false = sym (pair-begins 47 42 c rest ∙ ap (λ (b : Bool). b && begins 42 rest) slash) ∙ block in
      rw (space, slash) (slash-no_gap rest first second)
]

word-no_gap : (piece after : List ℕ) → is_word piece ≡ true → gap_at (piece ++ after) ≡ no_gap
word-no_gap [] after is = absurd cc
word-no_gap (c ∷ piece) after is =
    let start = (both (is_start c) (list_all is_continue piece) is).0 in
    plain-no_gap c (piece ++ after) (start-space c start) (differs is_start c 47 start not_start-47)

pub digit-no_gap : (piece after : List ℕ) → begins_by is_ascii_digit piece ≡ true → gap_at (piece ++ after) ≡ no_gap
digit-no_gap [] after is = absurd cc
digit-no_gap (c ∷ piece) after is = plain-no_gap c (piece ++ after) (digit-space c is) (differs is_ascii_digit c 47 is refl)

marks-no_gap : (word after : List ℕ) → begins_by is_mark word ≡ true → begins_pair 47 47 (word ++ after) ≡ false → begins_pair 47 42 (word ++ after) ≡ false → gap_at (word ++ after) ≡ no_gap
marks-no_gap [] after is line block = absurd cc
marks-no_gap (c ∷ word) after is line block = mark-no_gap c (word ++ after) (mark-parts c is).0 line block

pub token-no_gap : (k : TokenKind) (piece after : List ℕ) → IsToken k piece after → gap_at (piece ++ after) ≡ no_gap
token-no_gap (kind.Name x) piece after is = word-no_gap piece after is.0.is_word
token-no_gap kind.Underscore piece after is = ap (λ (t : List ℕ). gap_at (t ++ after)) is ∙ word-no_gap (codes "_") after underscore-word
token-no_gap (kind.Keyword x) piece after is = ap (λ (t : List ℕ). gap_at (t ++ after)) is ∙ word-no_gap (keyword_text x) after (keyword-word x)
token-no_gap (kind.Lifetime x) piece after (word, parts, is, ends, other, bytes) =
    ap (λ (t : List ℕ). gap_at (t ++ after)) parts ∙ plain-no_gap 39 (word ++ after) refl refl
token-no_gap (kind.Integer x) piece after (base, digits, whole, is, sound, value) = digit-no_gap piece after whole.begins
token-no_gap (kind.Character value) piece after (inner, parts, is) =
    ap (λ (t : List ℕ). gap_at (t ++ after)) parts ∙ plain-no_gap 39 ((inner ++ 39 ∷ []) ++ after) refl refl
token-no_gap (kind.Byte value) piece after (inner, parts, is) =
    ap (λ (t : List ℕ). gap_at (t ++ after)) parts ∙ plain-no_gap 98 (39 ∷ ((inner ++ 39 ∷ []) ++ after)) refl refl
token-no_gap (kind.Text x) piece after (inner, values, parts, is, source) =
    ap (λ (t : List ℕ). gap_at (t ++ after)) parts ∙ plain-no_gap 34 ((inner ++ 34 ∷ []) ++ after) refl refl
token-no_gap (kind.Punctuation p) piece after (parts, line, block) =
    let here : (first second : ℕ) → begins_pair first second (piece ++ after) ≡ begins_pair first second (punctuation_text p ++ after) =
    λ first second. ap (λ (t : List ℕ). begins_pair first second (t ++ after)) parts in
    ap (λ (t : List ℕ). gap_at (t ++ after)) parts
    ∙ marks-no_gap (punctuation_text p) after (punctuation-marks p) (sym (here 47 47) ∙ line) (sym (here 47 42) ∙ block)
