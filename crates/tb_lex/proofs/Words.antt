-- What a word is, and that the whole of it is read.
use Rattle.std.proofs.Common.{◌≡◌, inl, inr, ℕ, Bool, true, false, ◌&&◌, cond, List, [], ◌∷◌, ◌++◌, Option, Some, None, refl, ap, sym, subst, ◌∙◌, lit<, codes}
use Rattle.std.specs.Char.{is_ascii_alphabetic}
use Rattle.std.specs.List.{list_all}
use Rattle.std.specs.Str.{bytes_eq, encode_utf8_all}
use Rattle.std.proofs.lemmas.Bool.{cases_Bool}
use Rattle.tb_lex.specs.declared.keyword.Keyword.{Keyword}
use Rattle.tb_lex.specs.declared.token.Name.{Name}
use Rattle.tb_lex.specs.declared.token.TokenKind.TheVariants as kind
use Rattle.tb_lex.specs.Characters.{is_start, is_continue, begins_by, begins_pair}
use Rattle.tb_lex.specs.Tables.{keyword_text, keyword_of}
use Rattle.tb_lex.specs.Scan.{name, word_kind}
use Rattle.tb_lex.specs.Tokens.{IsToken, IsName, is_word}
use Rattle.tb_lex.proofs.Cases.{both, tell}
use Rattle.tb_lex.proofs.Classes.{start-continue, start-ascii, letter-start}
use Rattle.tb_lex.proofs.Tables.{bytes-same, bytes-other, keyword-is, keyword-none, keyword-found, keyword-letters}

-- what a word is by the tables
pub word_kind-underscore : (word : List ℕ) → word ≡ codes "_" → word_kind word ≡ kind.Underscore
unfolding word_kind
word_kind-underscore word e =
    ap (λ (t : List ℕ). cond (bytes_eq t (codes "_")) kind.Underscore (elim (keyword_of t) [ Some keyword ↦ kind.Keyword keyword | None ↦ kind.Name (name t) ])) e

pub word_kind-keyword : (word : List ℕ) (x : Keyword) → keyword_of word ≡ Some x → bytes_eq word (codes "_") ≡ false → word_kind word ≡ kind.Keyword x
unfolding word_kind
word_kind-keyword word x e other =
    ap (λ (b : Bool). cond b kind.Underscore (elim (keyword_of word) [ Some keyword ↦ kind.Keyword keyword | None ↦ kind.Name (name word) ])) other
    ∙ ap (λ (o : Option Keyword). elim o [ Some keyword ↦ kind.Keyword keyword | None ↦ kind.Name (name word) ]) e

pub word_kind-name : (word : List ℕ) → keyword_of word ≡ None → bytes_eq word (codes "_") ≡ false → word_kind word ≡ kind.Name (name word)
unfolding word_kind
word_kind-name word e other =
    ap (λ (b : Bool). cond b kind.Underscore (elim (keyword_of word) [ Some keyword ↦ kind.Keyword keyword | None ↦ kind.Name (name word) ])) other
    ∙ ap (λ (o : Option Keyword). elim o [ Some keyword ↦ kind.Keyword keyword | None ↦ kind.Name (name word) ]) e

-- what a word is, is a token
pub word-takes : (word rest : List ℕ) → is_word word ≡ true → begins_pair 98 39 (word ++ rest) ≡ false → IsToken (word_kind word) word rest
word-takes word rest is no_byte = elim (cases_Bool (bytes_eq word (codes "_"))) [
  | inl same ↦
      let e : word ≡ codes "_" = bytes-same word (codes "_") same in
      subst (λ k. IsToken k word rest) (sym (word_kind-underscore word e)) e
  | inr other ↦ elim (tell (keyword_of word)) [
    | inr found ↦ subst (λ k. IsToken k word rest) (sym (word_kind-keyword word found.0 found.1 other)) (keyword-is word found.0 found.1)
    | inl none ↦
        let named : IsName word = record { is_word = is; not_underscore = bytes-other word (codes "_") other; not_keyword = keyword-none word none } in
        subst (λ k. IsToken k word rest) (sym (word_kind-name word none other)) (named, no_byte, refl)
  ]
]

-- a name is what its word is
pub name-again : (word : List ℕ) (x : Name) → IsName word → x.bytes ≡ encode_utf8_all word → word_kind word ≡ kind.Name x
name-again word x is e = elim (cases_Bool (bytes_eq word (codes "_"))) [
  | inl same ↦ absurd (is.not_underscore (bytes-same word (codes "_") same))
  | inr other ↦ elim (tell (keyword_of word)) [
    | inr found ↦ absurd (is.not_keyword found.0 (keyword-is word found.0 found.1))
    | inl none ↦ word_kind-name word none other ∙ ap (λ (b : List ℕ). kind.Name (record { bytes = b })) (sym e)
  ]
]

letters-continue : (word : List ℕ) → list_all is_ascii_alphabetic word ≡ true → list_all is_continue word ≡ true
letters-continue [] e = refl
letters-continue (c ∷ word) e =
    let parts = both (is_ascii_alphabetic c) (list_all is_ascii_alphabetic word) e in
    rw (start-continue c (letter-start c parts.0)) (letters-continue word parts.1)

letters-word : (word : List ℕ) → (begins_by is_ascii_alphabetic word && list_all is_ascii_alphabetic word) ≡ true → is_word word ≡ true
letters-word [] e = absurd cc
letters-word (c ∷ word) e =
    let parts = both (is_ascii_alphabetic c) (list_all is_ascii_alphabetic (c ∷ word)) e in
    let others = both (is_ascii_alphabetic c) (list_all is_ascii_alphabetic word) parts.1 in
    rw (letter-start c parts.0) (letters-continue word others.1)

pub keyword-word : (x : Keyword) → is_word (keyword_text x) ≡ true
keyword-word x = letters-word (keyword_text x) (keyword-letters x)

keyword-underscore : (x : Keyword) → bytes_eq (keyword_text x) (codes "_") ≡ false
keyword-underscore x = elim (cases_Bool (bytes_eq (keyword_text x) (codes "_"))) [
  | inr other ↦ other
  | inl same ↦
      let h : true ≡ false = sym (keyword-letters x)
      ∙ ap (λ (t : List ℕ). begins_by is_ascii_alphabetic t && list_all is_ascii_alphabetic t) (bytes-same (keyword_text x) (codes "_") same) in
      absurd cc
]

pub keyword-again : (word : List ℕ) (x : Keyword) → word ≡ keyword_text x → word_kind word ≡ kind.Keyword x
keyword-again word x e = ap word_kind e ∙ word_kind-keyword (keyword_text x) x (keyword-found x) (keyword-underscore x)

pub underscore-word : is_word (codes "_") ≡ true
underscore-word = rw (start-ascii 95 (lit< tt)) refl

-- a word goes on with identifier characters
pub word-continues : (word : List ℕ) → is_word word ≡ true → list_all is_continue word ≡ true
word-continues [] e = absurd cc
word-continues (c ∷ word) e =
    let parts = both (is_start c) (list_all is_continue word) e in
    rw (start-continue c parts.0) parts.1
