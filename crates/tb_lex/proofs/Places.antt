-- At each place one thing stands: a gap, a token or a fault.
use Rattle.std.proofs.Common.{◌≡◌, ◌≢◌, ◌⊎◌, inl, inr, ℕ, ◌+◌, ◌≤◌, true, false, ◌==◌, List, [], ◌∷◌, ◌++◌, length, length-append, Option, Some, None, Result, Ok, Err, refl, ap, sym, subst, ◌∙◌, arith, ne_eqb, append_assoc, append-nil}
use Rattle.std.specs.Char.{is_ascii_digit}
use Rattle.tb_perm.specs.declared.code.Code.{Code}
use Rattle.tb_perm.specs.declared.code.Code.TheVariants.{UnknownCharacter, BadLiteral, UnfinishedComment, BadNumber, UnknownSuffix}
use Rattle.tb_lex.specs.declared.literal.Literal.{Literal}
use Rattle.tb_lex.specs.declared.literal.Literal.TheVariants as literal
use Rattle.tb_lex.specs.declared.literal.Stage.TheVariants.{Open}
use Rattle.tb_lex.specs.declared.punctuation.Punctuation.{Punctuation}
use Rattle.tb_lex.specs.declared.punctuation.Punctuation.TheVariants as mark
use Rattle.tb_lex.specs.declared.suffix.Suffix.{Suffix}
use Rattle.tb_lex.specs.declared.token.TokenKind.{TokenKind}
use Rattle.tb_lex.specs.Characters.{is_space, is_start, is_continue, tail, after_front}
use Rattle.tb_lex.specs.Comments.{after_block}
use Rattle.tb_lex.specs.Tables.{punctuation_at, punctuation_text, suffix_text}
use Rattle.tb_lex.specs.Numbers.{integer_of}
use Rattle.tb_lex.specs.Stages.{content}
use Rattle.tb_lex.specs.Literals.{opening}
use Rattle.tb_lex.specs.Tokens.{Stands, IsPassed, IsBlock, IsDigitWord, digits_value, suffixed_text}
use Rattle.tb_lex.specs.Faults.{IsFault, IsUnfinished}
use Rattle.tb_lex.specs.Faults.IsFault.{Character, Unended, Comment, Number, Suffixed}
use Rattle.tb_lex.specs.Scan.{Read, token, refuse, numbered, number_at, marked, mark_at, token_at, block_end, comment_at, gap_at}
use Rattle.tb_lex.proofs.Cases.{tell}
use Rattle.tb_lex.proofs.Classes.{start-98}
use Rattle.tb_lex.proofs.Fronts.{front-again}
use Rattle.tb_lex.proofs.Unfinished.{is_longest, is_front, meant, cancel}
use Rattle.tb_lex.proofs.Numbers.{number-again, integer-sound, integer-unsound, suffixed-cases}
use Rattle.tb_lex.proofs.Numbers.Suffixed.{Has, HasNone}
use Rattle.tb_lex.proofs.Tables.{punctuation-is, same_front}
use Rattle.tb_lex.proofs.Comments.{block-takes}
use Rattle.tb_lex.proofs.Takes.{no_gap, gap-free, token-takes, token-is}
use Rattle.tb_lex.proofs.Finds.{token-finds, token-no_gap, path-digit, digit-no_gap, plain-no_gap}
use Rattle.tb_lex.proofs.Refuses.{no_whole, literal-stuck, passed-again}

-- what stands at a place
pub data Place : Type 0 where
  Gap : List ℕ → Place
  Token : TokenKind → List ℕ → Place
  Fault : Code → List ℕ → Place

abbrev of_token : Read → Place
of_token (Ok found) = Token found.0 found.1
of_token (Err fault) = Fault fault.0 fault.1

abbrev of_gap : Read → Result (Option (List ℕ)) (Code × List ℕ) → Place
of_gap read (Ok None) = of_token read
of_gap read (Ok (Some rest)) = Gap rest
of_gap read (Err fault) = Fault fault.0 fault.1

pub place : List ℕ → Place
place text = of_gap (token_at text) (gap_at text)

-- two equal lists, of which one part is as long
rest-same : (a b x y : List ℕ) → a ++ x ≡ b ++ y → length x ≡ length y → (a ≡ b) × (x ≡ y)
rest-same a b x y e h =
    let long : length a + length x ≡ length b + length y = sym (length-append a x) ∙ ap length e ∙ length-append b y in
    let front : a ≡ b = same_front a b x y e (omega arith) in
    (front, cancel b x y (ap (λ (t : List ℕ). t ++ x) (sym front) ∙ e))

pub passed-place : (piece rest : List ℕ) → IsPassed piece rest → place (piece ++ rest) ≡ Gap rest
unfolding place
passed-place piece rest is = ap (of_gap (token_at (piece ++ rest))) (passed-again piece rest is)

pub read-place : (text : List ℕ) (read : Read) → gap_at text ≡ no_gap → token_at text ≡ read → place text ≡ of_token read
unfolding place
read-place text read gap e = ap (of_gap (token_at text)) gap ∙ ap of_token e

-- A token that is found is the longest.
pub token-stands : (text : List ℕ) (k : TokenKind) (rest : List ℕ) → gap_at text ≡ no_gap → token_at text ≡ token k rest
    → (piece : List ℕ) × (text ≡ piece ++ rest) × Stands k piece rest
token-stands text k rest gap e =
    let found = token-takes text k rest (gap-free text gap) e in
    let piece : List ℕ = found.0 in (
      piece,
      found.1,
      record {
        token = found.2;
        longest = λ other longer after same is.
            let f = token-finds other longer after is in
            let one = token-is f.found k f.rest rest (sym f.stands ∙ ap token_at (same ∙ sym found.1) ∙ e) in
            let short : length rest ≤ length after = subst (λ (t : List ℕ). length t ≤ length after) one.1 f.shorter in
            let total : length longer + length after ≡ length piece + length rest = sym (length-append longer after) ∙ ap length same ∙ length-append piece rest in
            omega arith;
      },
    )

-- A token that is the longest is found.
pub stands-place : (k : TokenKind) (piece rest : List ℕ) → Stands k piece rest → place (piece ++ rest) ≡ Token k rest
stands-place k piece rest is =
    let text : List ℕ = piece ++ rest in
    let gap : gap_at text ≡ no_gap = token-no_gap k piece rest is.token in
    let f = token-finds k piece rest is.token in
    let found = token-takes text f.found f.rest (gap-free text gap) f.stands in
    let short : length found.0 ≤ length piece = is.longest f.found found.0 f.rest (sym found.1) found.2 in
    let shorter : length f.rest ≤ length rest = f.shorter in
    let total : length piece + length rest ≡ length found.0 + length f.rest = sym (length-append piece rest) ∙ ap length found.1 ∙ length-append found.0 f.rest in
    let same : length f.rest ≡ length rest = omega arith in
    let one = rest-same piece found.0 rest f.rest found.1 (sym same) in
    read-place text (token f.found f.rest) gap f.stands ∙ ap (λ (x : TokenKind). Token x f.rest) (f.same same) ∙ ap (λ (t : List ℕ). Token k t) (sym one.1)

-- Faults.

differ : (c d : ℕ) → c ≢ d → (c == d) ≡ false
differ c d h = ne_eqb c d h

other-place : (c : ℕ) (rest : List ℕ) → is_space c ≡ false → c ≢ 39 → c ≢ 34 → is_ascii_digit c ≡ false → is_start c ≡ false
    → ((p : Punctuation) (after : List ℕ) → c ∷ rest ≢ punctuation_text p ++ after) → place (c ∷ rest) ≡ Fault UnknownCharacter rest
unfolding token_at mark_at
other-place c rest space single double digit start none =
    let slash : (c == 47) ≡ false = differ c 47 (λ is. none mark.Slash rest (ap (λ (n : ℕ). n ∷ rest) is)) in
    let letter : (c == 98) ≡ false = differ c 98 (λ is.
    let h : true ≡ false = sym start-98 ∙ ap is_start (sym is) ∙ start in cc) in
    let unmarked : punctuation_at (c ∷ rest) ≡ None = elim (tell (punctuation_at (c ∷ rest))) [
      | inl is ↦ is
      | inr found ↦ absurd (none found.0.0 found.0.1 (punctuation-is (c ∷ rest) found.0.0 found.0.1 found.1))
    ] in
    let read : token_at (c ∷ rest) ≡ refuse UnknownCharacter rest =
    rw (letter, differ c 39 single, differ c 34 double, digit, start)
    (ap (marked (c ∷ rest)) unmarked) in
    read-place (c ∷ rest) (refuse UnknownCharacter rest) (plain-no_gap c rest space slash) read

open-no_gap : (l : Literal) (text : List ℕ) → gap_at (opening l ++ text) ≡ no_gap
open-no_gap literal.Character text = plain-no_gap 39 text refl refl
open-no_gap literal.Byte text = plain-no_gap 98 (39 ∷ text) refl refl
open-no_gap literal.Text text = plain-no_gap 34 text refl refl

abbrev Told : Read → Type 0
Told read = ((k : TokenKind) × (rest : List ℕ) × (read ≡ token k rest)) ⊎ ((code : Code) × (rest : List ℕ) × (read ≡ refuse code rest))

told : (read : Read) → Told read
told (Ok found) = inl (found.0, found.1, refl)
told (Err fault) = inr (fault.0, fault.1, refl)

unfinished-place : (l : Literal) (piece rest : List ℕ) → IsUnfinished l piece rest → place (piece ++ rest) ≡ Fault BadLiteral rest
unfinished-place l piece rest is =
    let text : List ℕ = is.inner ++ rest in
    let whole : piece ++ rest ≡ opening l ++ text = ap (λ (t : List ℕ). t ++ rest) is.opened ∙ append_assoc (opening l) is.inner rest in
    let gap : gap_at (opening l ++ text) ≡ no_gap = open-no_gap l text in
    elim (told (token_at (opening l ++ text))) [
      | inl found ↦
          let t = token-takes (opening l ++ text) found.0 found.1 (gap-free (opening l ++ text) gap) found.2 in
          absurd (is.no_token found.0 t.0 found.1 (sym t.1 ∙ sym whole) t.2)
      | inr fault ↦
          let code : Code = fault.0 in
          let s = literal-stuck l text code fault.1 fault.2 in
          let e : token_at (opening l ++ text) ≡ refuse BadLiteral fault.1 = fault.2 ∙ ap (λ (c : Code). refuse c fault.1) s.0 in
          let m = meant l text in
          let parts : text ≡ m.0 ++ fault.1 = m.1 ∙ ap (λ (t : List ℕ). m.0 ++ t) s.1 in
          let read : List ℕ = opening l ++ m.0 in
          let here : piece ++ rest ≡ read ++ fault.1 = whole ∙ ap (λ (t : List ℕ). opening l ++ t) parts ∙ sym (append_assoc (opening l) m.0 fault.1) in
          let first : length read ≤ length piece = is.longest read fault.1 (sym here) (is_front l (content l Open text).0 m.0 m.2) in
          let second : length piece ≤ length read = is_longest l text m.0 fault.1 (no_whole l text BadLiteral fault.1 e) parts s.1 piece rest here is.front in
          let front : piece ≡ read = same_front piece read rest fault.1 here (omega arith) in
          let ends : fault.1 ≡ rest = cancel read fault.1 rest (sym here ∙ ap (λ (t : List ℕ). t ++ rest) front) in
          ap place whole ∙ read-place (opening l ++ text) (refuse BadLiteral fault.1) gap e ∙ ap (λ (t : List ℕ). Fault BadLiteral t) ends
    ]

block-place : (inner : List ℕ) → ((block after : List ℕ) → inner ≡ block ++ after → IsBlock block → ⊥) → place (47 ∷ 42 ∷ inner) ≡ Fault UnfinishedComment []
unfolding gap_at comment_at place
block-place inner none = elim (tell (after_block 0 inner)) [
  | inr found ↦
      let block = block-takes 0 inner found.0 found.1 in
      absurd (none block.0 found.0 block.1 block.2)
  | inl unended ↦ ap (λ (o : Option (List ℕ)). of_gap (token_at (47 ∷ 42 ∷ inner)) (block_end o)) unended
]

number-place : (word rest : List ℕ) (code : Code) → IsDigitWord word rest → integer_of word ≡ Err code → place (word ++ rest) ≡ Fault code rest
unfolding number_at
number-place [] rest code is e = let h : false ≡ true = is.begins in absurd cc
number-place (c ∷ word) rest code is e =
    let cut = front-again is_continue (c ∷ word) rest is.all is.ends in
    let read : token_at (c ∷ (word ++ rest)) ≡ refuse code rest =
    path-digit c (word ++ rest) is.begins
    ∙ ap (λ (t : List ℕ). numbered (integer_of t) (after_front is_continue (c ∷ (word ++ rest)))) cut.0
    ∙ ap (λ (t : List ℕ). numbered (integer_of (c ∷ word)) t) cut.1
    ∙ ap (λ r. numbered r rest) e in
    read-place (c ∷ (word ++ rest)) (refuse code rest) (digit-no_gap (c ∷ word) rest is.begins) read

no_suffix : (suffix : Option Suffix) (tail : List ℕ) → tail ≡ suffixed_text suffix → tail ≢ [] → ((s : Suffix) → tail ≢ suffix_text s) → ⊥
no_suffix None tail e some other = some e
no_suffix (Some s) tail e some other = other s e

pub fault-place : (code : Code) (piece rest : List ℕ) → IsFault code piece rest → place (piece ++ rest) ≡ Fault code rest
fault-place _ _ _ (Character c rest space single double digit start none) = other-place c rest space single double digit start none
fault-place _ _ _ (Unended l piece rest is) = unfinished-place l piece rest is
fault-place _ _ _ (Comment inner none) = ap (λ (t : List ℕ). place (47 ∷ 42 ∷ t)) (append-nil inner) ∙ block-place inner none
fault-place _ _ _ (Number piece rest base digits tail whole is unsound) =
    let read = number-again piece base digits tail is in
    number-place piece rest BadNumber whole (read.0 ∙ integer-unsound base digits tail read.1 unsound)
fault-place _ _ _ (Suffixed piece rest base digits tail whole is sound some other) =
    let read = number-again piece base digits tail is in
    let reads = read.0 ∙ integer-sound base digits tail read.1 sound in
    elim (suffixed-cases (digits_value base 0 digits) tail) [
      | HasNone nothing none e ↦ number-place piece rest UnknownSuffix whole (reads ∙ e)
      | Has suffix e reads' ↦ absurd (no_suffix suffix tail e some other)
    ]

-- a fault has a piece
pub fault-some : (code : Code) (rest : List ℕ) → IsFault code [] rest → ⊥
fault-some _ _ (Unended literal.Character _ rest is) = let h = is.opened in cc
fault-some _ _ (Unended literal.Byte _ rest is) = let h = is.opened in cc
fault-some _ _ (Unended literal.Text _ rest is) = let h = is.opened in cc
fault-some _ _ (Number _ rest base digits tail whole is unsound) = let h = whole.begins in cc
fault-some _ _ (Suffixed _ rest base digits tail whole is sound some other) = let h = whole.begins in cc

pub nothing-place : place [] ≡ Fault UnknownCharacter []
unfolding place gap_at token_at
nothing-place = refl
