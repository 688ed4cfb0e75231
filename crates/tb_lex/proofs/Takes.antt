-- What is found at a place is a token there.
use Rattle.std.proofs.Common.{◌≡◌, ◌≢◌, inl, inr, ℕ, ◌+◌, ◌-◌, Bool, true, false, ◌&&◌, not, ◌==◌, cond, List, [], ◌∷◌, ◌++◌, length, length-append, take, Option, Some, None, Result, Ok, Err, refl, ap, sym, subst, ◌∙◌, arith, ltb, eqb-true, append_assoc}
use Rattle.std.specs.Char.{is_ascii_digit}
use Rattle.std.specs.Str.{encode_utf8_all}
use Rattle.std.proofs.lemmas.Bool.{cases_Bool}
use Rattle.std.proofs.lemmas.List.{take_at}
use Rattle.tb_perm.specs.declared.code.Code.{Code}
use Rattle.tb_perm.specs.declared.code.Code.TheVariants.{UnknownCharacter, BadLiteral, BadNumber, UnknownSuffix}
use Rattle.tb_lex.specs.declared.literal.Literal.TheVariants as literal
use Rattle.tb_lex.specs.declared.literal.Stage.{Stage}
use Rattle.tb_lex.specs.declared.literal.Stage.TheVariants.{Open, Escape, Hex, Digit, Unicode, Digits, Full}
use Rattle.tb_lex.specs.declared.suffix.Suffix.{Suffix}
use Rattle.tb_lex.specs.declared.token.Integer.{Integer}
use Rattle.tb_lex.specs.declared.token.TokenKind.{TokenKind}
use Rattle.tb_lex.specs.declared.token.TokenKind.TheVariants as kind
use Rattle.tb_lex.specs.Characters.{is_space, is_start, is_continue, begins, tail, front, after_front, begins_pair, is_in_line}
use Rattle.tb_lex.specs.Comments.{after_block}
use Rattle.tb_lex.specs.Tables.{punctuation_text, punctuation_at, suffix_text}
use Rattle.tb_lex.specs.Numbers.{integer_of}
use Rattle.tb_lex.specs.Stages.{content}
use Rattle.tb_lex.specs.Tokens.{IsToken, is_word, IsDigitWord, IsNumber, is_sound, digits_value, suffixed_text, based, is_among_digits}
use Rattle.tb_lex.specs.Scan.{Read, word_kind, token, refuse, name, word_at, is_lifetime, lifetime_at, numbered, number_at, character_of, byte_of, text_of, character_at, byte_at, text_at, quoted_at, marked, mark_at, token_at, block_end, comment_at, gap_at}
use Rattle.tb_lex.proofs.Cases.{both, not_true, chosen, tell}
use Rattle.tb_lex.proofs.Classes.{start-continue, digit-continue}
use Rattle.tb_lex.proofs.Fronts.{front-parts, front-next, front-all}
use Rattle.tb_lex.proofs.Literals.{Means}
use Rattle.tb_lex.proofs.Unfinished.{meant}
use Rattle.tb_lex.proofs.Words.{word-takes}
use Rattle.tb_lex.proofs.Numbers.{number-parts, number-again, integer-sound, integer-unsound, suffixed-cases}
use Rattle.tb_lex.proofs.Numbers.Suffixed.{Has, HasNone}
use Rattle.tb_lex.proofs.Tables.{punctuation-is}

-- two answers that are one
pub token-is : (k l : TokenKind) (x y : List ℕ) → token k x ≡ token l y → (k ≡ l) × (x ≡ y)
token-is k l x y e =
    let pair : TokenKind → List ℕ → TokenKind × List ℕ = λ a b. (a, b) in
    let same : pair k x ≡ pair l y = cc in
    (ap (λ (p : TokenKind × List ℕ). p.0) same, ap (λ (p : TokenKind × List ℕ). p.1) same)

-- a token of this kind stands at the front, and the rest follows it
abbrev pub Found : TokenKind → List ℕ → List ℕ → Type 0
Found kind text rest = (piece : List ℕ) × (text ≡ piece ++ rest) × IsToken kind piece rest

-- the same, of a read that answers it
found-is : (k l : TokenKind) (x y text : List ℕ) → token k x ≡ token l y → Found k text x → Found l text y
found-is k l x y text e f =
    let same = token-is k l x y e in
    subst (λ z. Found l text z) same.1 (subst (λ j. Found j text x) same.0 f)

pub begins-is : (c : ℕ) (text : List ℕ) → begins c text ≡ true → text ≡ c ∷ tail text
begins-is c [] e = absurd cc
begins-is c (d ∷ text) e = ap (λ (n : ℕ). n ∷ text) (eqb-true d c e)

-- the quote behind a content
behind_quote : (quote : ℕ) (inner text rest : List ℕ) → text ≡ inner ++ rest → begins quote rest ≡ true → text ≡ (inner ++ quote ∷ []) ++ tail rest
behind_quote quote inner text rest parts e =
    parts ∙ ap (λ (t : List ℕ). inner ++ t) (begins-is quote rest e) ∙ sym (append_assoc inner (quote ∷ []) (tail rest))

character_of-takes : (stage : Stage) (text inner after : List ℕ) (k : TokenKind) (rest : List ℕ) → text ≡ inner ++ after → Means literal.Character stage inner
    → character_of stage after ≡ token k rest → Found k (39 ∷ text) rest
character_of-takes (Full c) text inner after k rest parts m e =
    elim (chosen (begins 39 after) (token (kind.Character c) (tail after)) (refuse BadLiteral after) (token k rest) e) [
      | inl j ↦
          let whole : 39 ∷ text ≡ (39 ∷ (inner ++ 39 ∷ [])) ++ tail after = ap (λ (t : List ℕ). 39 ∷ t) (behind_quote 39 inner text after parts j.0) in
          found-is (kind.Character c) k (tail after) rest (39 ∷ text) j.1 (39 ∷ (inner ++ 39 ∷ []), whole, (inner, refl, m))
      | inr j ↦ absurd cc
    ]
character_of-takes Open text inner after k rest parts m e = absurd cc
character_of-takes Escape text inner after k rest parts m e = absurd cc
character_of-takes Hex text inner after k rest parts m e = absurd cc
character_of-takes (Digit high) text inner after k rest parts m e = absurd cc
character_of-takes Unicode text inner after k rest parts m e = absurd cc
character_of-takes (Digits count value) text inner after k rest parts m e = absurd cc

pub character-takes : (text : List ℕ) (k : TokenKind) (rest : List ℕ) → character_at text ≡ token k rest → Found k (39 ∷ text) rest
unfolding character_at
character-takes text k rest e =
    let m = meant literal.Character text in
    let read = content literal.Character Open text in
    character_of-takes read.0 text m.0 read.1 k rest m.1 m.2 e

byte_of-takes : (stage : Stage) (text inner after : List ℕ) (k : TokenKind) (rest : List ℕ) → text ≡ inner ++ after → Means literal.Byte stage inner
    → byte_of stage after ≡ token k rest → Found k (98 ∷ 39 ∷ text) rest
byte_of-takes (Full c) text inner after k rest parts m e =
    elim (chosen (begins 39 after && ltb c 256) (token (kind.Byte c) (tail after)) (refuse BadLiteral after) (token k rest) e) [
      | inl j ↦
          let quote = both (begins 39 after) (ltb c 256) j.0 in
          let whole : 98 ∷ 39 ∷ text ≡ (98 ∷ 39 ∷ (inner ++ 39 ∷ [])) ++ tail after =
          ap (λ (t : List ℕ). 98 ∷ 39 ∷ t) (behind_quote 39 inner text after parts quote.0) in
          found-is (kind.Byte c) k (tail after) rest (98 ∷ 39 ∷ text) j.1 (98 ∷ 39 ∷ (inner ++ 39 ∷ []), whole, (inner, refl, m))
      | inr j ↦ absurd cc
    ]
byte_of-takes Open text inner after k rest parts m e = absurd cc
byte_of-takes Escape text inner after k rest parts m e = absurd cc
byte_of-takes Hex text inner after k rest parts m e = absurd cc
byte_of-takes (Digit high) text inner after k rest parts m e = absurd cc
byte_of-takes Unicode text inner after k rest parts m e = absurd cc
byte_of-takes (Digits count value) text inner after k rest parts m e = absurd cc

pub byte-takes : (text : List ℕ) (k : TokenKind) (rest : List ℕ) → byte_at text ≡ token k rest → Found k (98 ∷ 39 ∷ text) rest
unfolding byte_at
byte-takes text k rest e =
    let m = meant literal.Byte text in
    let read = content literal.Byte Open text in
    byte_of-takes read.0 text m.0 read.1 k rest m.1 m.2 e

-- a content is what its rest leaves
pub cut : (text inner after : List ℕ) → text ≡ inner ++ after → take (length text - length after) text ≡ inner
cut text inner after parts =
    let long : length text ≡ length inner + length after = ap length parts ∙ length-append inner after in
    let count : length inner ≡ length text - length after = omega arith in
    ap (take (length text - length after)) parts ∙ take_at inner after (length text - length after) count

text_of-takes : (stage : Stage) (text inner after : List ℕ) (k : TokenKind) (rest : List ℕ) → text ≡ inner ++ after → Means literal.Text stage inner
    → text_of text stage after ≡ token k rest → Found k (34 ∷ text) rest
text_of-takes Open text inner after k rest parts m e =
    let source : List ℕ = encode_utf8_all (take (length text - length after) text) in
    elim (chosen (begins 34 after) (token (kind.Text (record { source = source })) (tail after)) (refuse BadLiteral after) (token k rest) e) [
      | inl j ↦
          let whole : 34 ∷ text ≡ (34 ∷ (inner ++ 34 ∷ [])) ++ tail after = ap (λ (t : List ℕ). 34 ∷ t) (behind_quote 34 inner text after parts j.0) in
          found-is (kind.Text (record { source = source })) k (tail after) rest (34 ∷ text) j.1
          (34 ∷ (inner ++ 34 ∷ []), whole, (inner, m.0, refl, m.1, ap encode_utf8_all (cut text inner after parts)))
      | inr j ↦ absurd cc
    ]
text_of-takes (Full c) text inner after k rest parts m e = absurd m
text_of-takes Escape text inner after k rest parts m e = absurd cc
text_of-takes Hex text inner after k rest parts m e = absurd cc
text_of-takes (Digit high) text inner after k rest parts m e = absurd cc
text_of-takes Unicode text inner after k rest parts m e = absurd cc
text_of-takes (Digits count value) text inner after k rest parts m e = absurd cc

pub text-takes : (text : List ℕ) (k : TokenKind) (rest : List ℕ) → text_at text ≡ token k rest → Found k (34 ∷ text) rest
unfolding text_at
text-takes text k rest e =
    let m = meant literal.Text text in
    let read = content literal.Text Open text in
    text_of-takes read.0 text m.0 read.1 k rest m.1 m.2 e

-- the longest front of identifier characters is a word where it begins as one
front-word : (c : ℕ) (text : List ℕ) → is_start c ≡ true → is_word (front is_continue (c ∷ text)) ≡ true
front-word c text e = rw (start-continue c e) (rw e (front-all is_continue text))

lifetime-takes : (c : ℕ) (text : List ℕ) (k : TokenKind) (rest : List ℕ) → is_lifetime (c ∷ text) ≡ true → lifetime_at (c ∷ text) ≡ token k rest → Found k (39 ∷ c ∷ text) rest
unfolding lifetime_at
lifetime-takes c text k rest is e =
    let parts = both (is_start c) (not (begins 39 (after_front is_continue (c ∷ text)))) is in
    let word : List ℕ = front is_continue (c ∷ text) in
    let after : List ℕ = after_front is_continue (c ∷ text) in
    found-is (kind.Lifetime (name word)) k after rest (39 ∷ c ∷ text) e (
      39 ∷ word,
      ap (λ (t : List ℕ). 39 ∷ t) (front-parts is_continue (c ∷ text)),
      (word, refl, front-word c text parts.0, front-next is_continue (c ∷ text), not_true (begins 39 after) parts.1, refl),
    )

pub quoted-takes : (text : List ℕ) (k : TokenKind) (rest : List ℕ) → quoted_at text ≡ token k rest → Found k (39 ∷ text) rest
unfolding quoted_at
quoted-takes [] k rest e = character-takes [] k rest e
quoted-takes (c ∷ text) k rest e = elim (chosen (is_lifetime (c ∷ text)) (lifetime_at (c ∷ text)) (character_at (c ∷ text)) (token k rest) e) [
  | inl j ↦ lifetime-takes c text k rest j.0 j.1
  | inr j ↦ character-takes (c ∷ text) k rest j.1
]

pub word_at-takes : (c : ℕ) (text : List ℕ) (k : TokenKind) (rest : List ℕ) → is_start c ≡ true → begins_pair 98 39 (c ∷ text) ≡ false → word_at (c ∷ text) ≡ token k rest → Found k (c ∷ text) rest
unfolding word_at
word_at-takes c text k rest start no_byte e =
    let word : List ℕ = front is_continue (c ∷ text) in
    let after : List ℕ = after_front is_continue (c ∷ text) in
    let parts = front-parts is_continue (c ∷ text) in
    found-is (word_kind word) k after rest (c ∷ text) e
    (word, parts, word-takes word after (front-word c text start) (ap (begins_pair 98 39) (sym parts) ∙ no_byte))

-- the word of a number
pub digit-word : (c : ℕ) (text : List ℕ) → is_ascii_digit c ≡ true → IsDigitWord (front is_continue (c ∷ text)) (after_front is_continue (c ∷ text))
digit-word c text e = record {
  begins = rw (digit-continue c e) e;
  all = front-all is_continue (c ∷ text);
  ends = front-next is_continue (c ∷ text);
}

-- what a word with a digit at its front is
pub data Numbered (word : List ℕ) : Type 0 where
  Sound : (base : ℕ) (digits : List ℕ) (integer : Integer) → IsNumber word base digits (suffixed_text integer.suffix) → is_sound base digits ≡ true
      → integer.value ≡ digits_value base 0 digits → integer_of word ≡ Ok integer → Numbered word
  Unsound : (base : ℕ) (digits tail : List ℕ) → IsNumber word base digits tail → is_sound base digits ≡ false → integer_of word ≡ Err BadNumber → Numbered word
  Wrong : (base : ℕ) (digits tail : List ℕ) → IsNumber word base digits tail → is_sound base digits ≡ true → tail ≢ [] → ((suffix : Suffix) → tail ≢ suffix_text suffix)
      → integer_of word ≡ Err UnknownSuffix → Numbered word

pub numbered-cases : (word : List ℕ) → Numbered word
numbered-cases word =
    let base = (based word).0 in
    let digits = front (is_among_digits base) (based word).1 in
    let tail = after_front (is_among_digits base) (based word).1 in
    let is = number-parts word in
    let read = number-again word base digits tail is in
    elim (cases_Bool (is_sound base digits)) [
      | inr unsound ↦ Unsound base digits tail is unsound (read.0 ∙ integer-unsound base digits tail read.1 unsound)
      | inl sound ↦
          let value = digits_value base 0 digits in
          let whole = read.0 ∙ integer-sound base digits tail read.1 sound in
          elim (suffixed-cases value tail) [
            | Has suffix e reads ↦
                Sound base digits (record { value = value; suffix = suffix }) (subst (IsNumber word base digits) e is) sound refl (whole ∙ reads)
            | HasNone some other reads ↦ Wrong base digits tail is sound some other (whole ∙ reads)
          ]
    ]

pub number-takes : (c : ℕ) (text : List ℕ) (k : TokenKind) (rest : List ℕ) → is_ascii_digit c ≡ true → number_at (c ∷ text) ≡ token k rest → Found k (c ∷ text) rest
unfolding number_at
number-takes c text k rest digit e =
    let word : List ℕ = front is_continue (c ∷ text) in
    let after : List ℕ = after_front is_continue (c ∷ text) in
    elim (numbered-cases word) [
      | Sound base digits integer is sound value reads ↦
          let same : token (kind.Integer integer) after ≡ token k rest = sym (ap (λ r. numbered r after) reads) ∙ e in
          found-is (kind.Integer integer) k after rest (c ∷ text) same
          (word, front-parts is_continue (c ∷ text), (base, digits, digit-word c text digit, is, sound, value))
      | Unsound base digits tail is unsound reads ↦
          let same : refuse BadNumber after ≡ token k rest = sym (ap (λ r. numbered r after) reads) ∙ e in absurd cc
      | Wrong base digits tail is sound some other reads ↦
          let same : refuse UnknownSuffix after ≡ token k rest = sym (ap (λ r. numbered r after) reads) ∙ e in absurd cc
    ]

-- no comment begins
abbrev pub NoComment : List ℕ → Type 0
NoComment text = (begins_pair 47 47 text ≡ false) × (begins_pair 47 42 text ≡ false)

pub mark-takes : (text : List ℕ) (k : TokenKind) (rest : List ℕ) → NoComment text → mark_at text ≡ token k rest → Found k text rest
unfolding mark_at
mark-takes text k rest free e = elim (tell (punctuation_at text)) [
  | inl none ↦ let same : refuse UnknownCharacter (tail text) ≡ token k rest = sym (ap (marked text) none) ∙ e in absurd cc
  | inr found ↦
      let same : token (kind.Punctuation found.0.0) found.0.1 ≡ token k rest = sym (ap (marked text) found.1) ∙ e in
      let parts : text ≡ punctuation_text found.0.0 ++ found.0.1 = punctuation-is text found.0.0 found.0.1 found.1 in
      found-is (kind.Punctuation found.0.0) k found.0.1 rest text same
      (punctuation_text found.0.0, parts, (refl, ap (begins_pair 47 47) (sym parts) ∙ free.0, ap (begins_pair 47 42) (sym parts) ∙ free.1))
]

pub pair-begins : (first second c : ℕ) (text : List ℕ) → begins_pair first second (c ∷ text) ≡ (c == first && begins second text)
pair-begins first second c [] = elim (c == first) as (λ b. false ≡ (b && false)) [ true ↦ refl | false ↦ refl ]
pair-begins first second c (d ∷ text) = refl

-- the answer where neither white space nor a comment stands
abbrev pub no_gap : Result (Option (List ℕ)) (Code × List ℕ)
no_gap = Ok None

-- where no gap stands, no comment begins
comment-free : (text : List ℕ) → comment_at text ≡ Ok None → (begins 47 text ≡ false) × (begins 42 text ≡ false)
unfolding comment_at
comment-free [] e = (refl, refl)
comment-free (c ∷ text) e = elim (chosen (c == 47) (Ok (Some (after_front is_in_line text))) (cond (c == 42) (block_end (after_block 0 text)) (Ok None)) (Ok None) e) [
  | inl k ↦ absurd cc
  | inr k ↦ elim (chosen (c == 42) (block_end (after_block 0 text)) (Ok None) (Ok None) k.1) [
    | inl j ↦ elim (tell (after_block 0 text)) [
      | inl none ↦ let h : block_end None ≡ no_gap = sym (ap block_end none) ∙ j.1 in absurd cc
      | inr found ↦ let h : block_end (Some found.0) ≡ no_gap = sym (ap block_end found.1) ∙ j.1 in absurd cc
    ]
    | inr j ↦ (k.0, j.0)
  ]
]

pub gap-free : (text : List ℕ) → gap_at text ≡ Ok None → NoComment text
unfolding gap_at
gap-free [] e = (refl, refl)
gap-free (c ∷ text) e = elim (chosen (is_space c) (Ok (Some text)) (cond (c == 47) (comment_at text) (Ok None)) (Ok None) e) [
  | inl k ↦ absurd cc
  | inr k ↦ elim (chosen (c == 47) (comment_at text) (Ok None) (Ok None) k.1) [
    | inl j ↦
        let free = comment-free text j.1 in
        (pair-begins 47 47 c text ∙ ap (λ (b : Bool). b && begins 47 text) j.0 ∙ free.0, pair-begins 47 42 c text ∙ ap (λ (b : Bool). b && begins 42 text) j.0 ∙ free.1)
    | inr j ↦
        (pair-begins 47 47 c text ∙ ap (λ (b : Bool). b && begins 47 text) j.0, pair-begins 47 42 c text ∙ ap (λ (b : Bool). b && begins 42 text) j.0)
  ]
]

-- what is found is a token
pub token-takes : (text : List ℕ) (k : TokenKind) (after : List ℕ) → NoComment text → token_at text ≡ token k after → Found k text after
unfolding token_at
token-takes [] k after free e = absurd cc
token-takes (c ∷ rest) k after free e =
    let marks : Read = mark_at (c ∷ rest) in
    let words : Read = cond (is_start c) (word_at (c ∷ rest)) marks in
    let numbers : Read = cond (is_ascii_digit c) (number_at (c ∷ rest)) words in
    let texts : Read = cond (c == 34) (text_at rest) numbers in
    let quotes : Read = cond (c == 39) (quoted_at rest) texts in
    elim (chosen (c == 98 && begins 39 rest) (byte_at (tail rest)) quotes (token k after) e) [
      | inl j ↦
          let parts = both (c == 98) (begins 39 rest) j.0 in
          let same : 98 ∷ 39 ∷ tail rest ≡ c ∷ rest = sym (ap (λ (n : ℕ). n ∷ rest) (eqb-true c 98 parts.0) ∙ ap (λ (t : List ℕ). 98 ∷ t) (begins-is 39 rest parts.1)) in
          subst (λ t. Found k t after) same (byte-takes (tail rest) k after j.1)
      | inr j ↦ elim (chosen (c == 39) (quoted_at rest) texts (token k after) j.1) [
        | inl q ↦ subst (λ n. Found k (n ∷ rest) after) (sym (eqb-true c 39 q.0)) (quoted-takes rest k after q.1)
        | inr q ↦ elim (chosen (c == 34) (text_at rest) numbers (token k after) q.1) [
          | inl t ↦ subst (λ n. Found k (n ∷ rest) after) (sym (eqb-true c 34 t.0)) (text-takes rest k after t.1)
          | inr t ↦ elim (chosen (is_ascii_digit c) (number_at (c ∷ rest)) words (token k after) t.1) [
            | inl d ↦ number-takes c rest k after d.0 d.1
            | inr d ↦ elim (chosen (is_start c) (word_at (c ∷ rest)) marks (token k after) d.1) [
              | inl w ↦ word_at-takes c rest k after w.0 (pair-begins 98 39 c rest ∙ j.0) w.1
              | inr w ↦ mark-takes (c ∷ rest) k after free w.1
            ]
          ]
        ]
      ]
    ]
