-- The characters of a text are read one after the other, and no others are.
use Rattle.std.proofs.Common.{◌≡◌, ◌≢◌, inl, inr, ℕ, ◌+◌, ◌<◌, ◌≤◌, Bool, true, false, ◌||◌, ◌==◌, cond, List, [], ◌∷◌, ◌++◌, length, length-append, Option, Some, None, refl, ap, sym, subst, ◌∙◌, arith, append_assoc, append-nil, eqb-true}
use Rattle.std.specs.Str.{chars, IsUtf8, IsValidUpTo}
use Rattle.std.proofs.lemmas.Str.{encodes_same, encodes-chars, scalars-chars}
use Rattle.tb_lex.specs.declared.decoded.TextCharacter.{TextCharacter}
use Rattle.tb_lex.specs.declared.literal.Literal.TheVariants as literal
use Rattle.tb_lex.specs.declared.literal.Stage.{Stage}
use Rattle.tb_lex.specs.declared.literal.Stage.TheVariants.{Open, Escape, Hex, Digit, Unicode, Digits, Full}
use Rattle.tb_lex.specs.Characters.{begins}
use Rattle.tb_lex.specs.Literals.{IsWritten, is_plain}
use Rattle.tb_lex.specs.Literals.IsWritten.{Plain, Short, Hex as Twice, Braced}
use Rattle.tb_lex.specs.Stages.{content, next_stage}
use Rattle.tb_lex.specs.Decoded.{IsFirst, AreDecoded, IsDecoded, IsTheOnly, escape_read, first_character}
use Rattle.tb_lex.proofs.Cases.{chosen, neither, not_true, some_is}
use Rattle.tb_lex.proofs.Written.{through-content, written-through}
use Rattle.tb_lex.proofs.Unfinished.{meant}
use Rattle.tb_lex.proofs.Literals.{Meant, content-stop}
use Rattle.tb_lex.proofs.Uniqueness.{no_text}

abbrev First : Type 0
First = TextCharacter × List ℕ

abbrev one : ℕ → Bool → List ℕ → First
one value escaped rest = (record { value = value; escaped = escaped }, rest)

abbrev found : First → Option First
found first = Some first

-- What is read is written so.

-- an escape of a character literal is one of a text
as_text : (value : ℕ) (piece : List ℕ) → begins 92 piece ≡ true → IsWritten literal.Character value piece → IsWritten literal.Text value piece
as_text value _ escape (Plain c plain) =
    let same : c ≡ 92 = eqb-true c 92 escape in
    let h : false ≡ true = ap (is_plain literal.Character) (sym same) ∙ plain in
    absurd cc
as_text value _ escape (Short v letter e) = Short v letter e
as_text value _ escape (Twice high low h l) = Twice high low h l
as_text value _ escape (Braced digits allowed some few all is) = Braced digits refl some few all is

begins-front : (c : ℕ) (text front rest : List ℕ) → c ∷ text ≡ front ++ rest → front ≢ [] → begins 92 front ≡ (c == 92)
begins-front c text [] rest e some = absurd (some refl)
begins-front c text (d ∷ front) rest e some = let same : d ≡ c = cc in ap (λ (n : ℕ). n == 92) same

written-some : (value : ℕ) (piece : List ℕ) → IsWritten literal.Character value piece → piece ≢ []
written-some value _ (Plain c plain) e = absurd cc
written-some value _ (Short v letter is) e = absurd cc
written-some value _ (Twice high low h l) e = absurd cc
written-some value _ (Braced digits allowed some few all is) e = absurd cc

escape-first : (c : ℕ) (text : List ℕ) (read : Stage × List ℕ) (x : First) → (c == 92) ≡ true → Meant literal.Character [] (c ∷ text) read → escape_read read ≡ Some x → IsFirst (c ∷ text) x.0 x.1
escape-first c text (Full value, rest) x escape (front, parts, is) e =
    let begins : begins 92 front ≡ true = begins-front c text front rest parts (written-some value front is) ∙ escape in
    let first : IsFirst (c ∷ text) (one value true rest).0 (one value true rest).1 = record {
      piece = front;
      parts = parts;
      written = as_text value front begins is;
      escaped = sym begins;
    } in
    subst (λ (y : First). IsFirst (c ∷ text) y.0 y.1) (some_is (one value true rest) x e) first
escape-first c text (Open, rest) x escape m e = absurd cc
escape-first c text (Escape, rest) x escape m e = absurd cc
escape-first c text (Hex, rest) x escape m e = absurd cc
escape-first c text (Digit high, rest) x escape m e = absurd cc
escape-first c text (Unicode, rest) x escape m e = absurd cc
escape-first c text (Digits count value, rest) x escape m e = absurd cc

pub first-is : (text : List ℕ) (x : First) → first_character text ≡ Some x → IsFirst text x.0 x.1
first-is [] x e = absurd cc
first-is (c ∷ text) x e =
    elim (chosen (c == 92) (escape_read (content literal.Character Open (c ∷ text))) (cond (c == 34) None (found (one c false text))) (Some x) e) [
      | inl k ↦ escape-first c text (content literal.Character Open (c ∷ text)) x k.0 (meant literal.Character (c ∷ text)) k.1
      | inr k ↦ elim (chosen (c == 34) None (found (one c false text)) (Some x) k.1) [
        | inl j ↦ absurd cc
        | inr j ↦
            let plain : is_plain literal.Text c ≡ true = rw (j.0, k.0) refl in
            let first : IsFirst (c ∷ text) (one c false text).0 (one c false text).1 = record {
              piece = c ∷ [];
              parts = refl;
              written = Plain c plain;
              escaped = sym k.0;
            } in
            subst (λ (y : First). IsFirst (c ∷ text) y.0 y.1) (some_is (one c false text) x j.1) first
      ]
    ]

-- What is written is read.

as_character : (value : ℕ) (piece : List ℕ) → begins 92 piece ≡ true → IsWritten literal.Text value piece → IsWritten literal.Character value piece
as_character value _ escape (Plain c plain) =
    let same : c ≡ 92 = eqb-true c 92 escape in
    let h : false ≡ true = ap (is_plain literal.Text) (sym same) ∙ plain in
    absurd cc
as_character value _ escape (Short v letter e) = Short v letter e
as_character value _ escape (Twice high low h l) = Twice high low h l
as_character value _ escape (Braced digits allowed some few all is) = Braced digits refl some few all is

full-stops : (value : ℕ) (rest : List ℕ) → content literal.Character (Full value) rest ≡ (Full value, rest)
unfolding next_stage
full-stops value [] = refl
full-stops value (c ∷ rest) = content-stop literal.Character (Full value) c rest refl

read-escape : (c : ℕ) (text : List ℕ) → (c == 92) ≡ true → first_character (c ∷ text) ≡ escape_read (content literal.Character Open (c ∷ text))
read-escape c text e = ap (λ (b : Bool). cond b (escape_read (content literal.Character Open (c ∷ text))) (cond (c == 34) None (found (one c false text)))) e

escape-again : (value c : ℕ) (piece rest : List ℕ) → (c == 92) ≡ true → IsWritten literal.Text value (c ∷ piece) → first_character (c ∷ (piece ++ rest)) ≡ Some (one value true rest)
escape-again value c piece rest e is =
    let through = written-through literal.Character value (c ∷ piece) (as_character value (c ∷ piece) e is) in
    read-escape c (piece ++ rest) e
    ∙ ap escape_read (through-content literal.Character Open (c ∷ piece) rest (Full value) through ∙ full-stops value rest)

plain-again : (c : ℕ) (rest : List ℕ) → is_plain literal.Text c ≡ true → first_character (c ∷ rest) ≡ Some (one c false rest)
plain-again c rest plain =
    let parts = neither (c == 34) (c == 92) (not_true (c == 34 || c == 92) plain) in
    rw (parts.1, parts.0) refl

plain-flag : (c : ℕ) → is_plain literal.Text c ≡ true → (c == 92) ≡ false
plain-flag c plain = (neither (c == 34) (c == 92) (not_true (c == 34 || c == 92) plain)).1

written-again : (value : ℕ) (piece rest : List ℕ) → IsWritten literal.Text value piece → first_character (piece ++ rest) ≡ Some (one value (begins 92 piece) rest)
written-again value _ rest (Plain c plain) =
    plain-again c rest plain ∙ ap (λ (b : Bool). found (one c b rest)) (sym (plain-flag c plain))
written-again value _ rest (Short v letter e) = escape-again v 92 (letter ∷ []) rest refl (Short v letter e)
written-again value _ rest (Twice high low h l) = escape-again _ 92 (120 ∷ high ∷ low ∷ []) rest refl (Twice high low h l)
written-again value _ rest (Braced digits allowed some few all is) =
    escape-again _ 92 (117 ∷ 123 ∷ (digits ++ 125 ∷ [])) rest refl (Braced digits allowed some few all is)

pub first-again : (text : List ℕ) (c : TextCharacter) (rest : List ℕ) → IsFirst text c rest → first_character text ≡ Some (c, rest)
first-again text c rest is =
    ap first_character is.parts ∙ written-again c.value is.piece rest is.written
    ∙ ap (λ (b : Bool). found (one c.value b rest)) (sym is.escaped)

-- Lists of them.

written-long : (value : ℕ) (piece : List ℕ) → IsWritten literal.Text value piece → 1 ≤ length piece
written-long value _ (Plain c plain) = omega arith
written-long value _ (Short v letter e) = omega arith
written-long value _ (Twice high low h l) = omega arith
written-long value _ (Braced digits allowed some few all is) = omega arith

pub first-shorter : (text : List ℕ) (x : First) → first_character text ≡ Some x → length x.1 < length text
first-shorter text x e =
    let is = first-is text x e in
    let long = written-long x.0.value is.piece is.written in
    let whole : length text ≡ length is.piece + length x.1 = ap length is.parts ∙ length-append is.piece x.1 in
    omega arith

-- what follows the characters that were read: those behind them are the others
pub record IsRead (list : List TextCharacter) (text rest : List ℕ) : Type 0 where
  pub takes : (others : List TextCharacter) → AreDecoded others rest → AreDecoded (list ++ others) text
  pub again : (whole : List TextCharacter) → AreDecoded whole text → (others : List TextCharacter) × (whole ≡ list ++ others) × AreDecoded others rest

pub read-none : (text : List ℕ) → IsRead [] text text
read-none text = record { takes = λ others are. are; again = λ whole are. (whole, refl, are) }

read-next : (list : List TextCharacter) (rest : List ℕ) (x : First) → first_character rest ≡ Some x
    → (whole others : List TextCharacter) → whole ≡ list ++ others → AreDecoded others rest
    → (left : List TextCharacter) × (whole ≡ (list ++ x.0 ∷ []) ++ left) × AreDecoded left x.1
read-next list rest x e whole [] same none = let h : None ≡ Some x = sym (ap first_character none) ∙ e in absurd cc
read-next list rest x e whole (c ∷ others) same (after, first, behind) =
    let read : (c, after) ≡ x = some_is (c, after) x (sym (first-again rest c after first) ∙ e) in (
      others,
      same ∙ ap (λ (d : TextCharacter). list ++ d ∷ others) (ap (λ (y : First). y.0) read) ∙ sym (append_assoc list (x.0 ∷ []) others),
      subst (AreDecoded others) (ap (λ (y : First). y.1) read) behind,
    )

pub read-one : (list : List TextCharacter) (text rest : List ℕ) (x : First) → IsRead list text rest → first_character rest ≡ Some x → IsRead (list ++ x.0 ∷ []) text x.1
read-one list text rest x is e = record {
  takes = λ others are.
      subst (λ (cs : List TextCharacter). AreDecoded cs text) (sym (append_assoc list (x.0 ∷ []) others))
      (is.takes (x.0 ∷ others) (x.1, first-is rest x e, are));
  again = λ whole are. let left = is.again whole are in read-next list rest x e whole left.0 left.1 left.2;
}

abbrev nothing : Option (List TextCharacter)
nothing = None

none-left : (rest : List ℕ) (others : List TextCharacter) → 0 < length rest → first_character rest ≡ None → AreDecoded others rest → ⊥
none-left rest [] some e none = let h : length rest ≡ 0 = ap length none in absurd (omega arith)
none-left rest (c ∷ others) some e (after, first, behind) =
    let x : First = (c, after) in
    let h : None ≡ Some x = sym e ∙ first-again rest c after first in
    cc

pub read-stuck : (list : List TextCharacter) (text rest : List ℕ) → IsRead list text rest → 0 < length rest → first_character rest ≡ None → IsTheOnly (λ cs. AreDecoded cs text) nothing
read-stuck list text rest is some e whole are = let left = is.again whole are in none-left rest left.0 some e left.2

no-length : (rest : List ℕ) → length rest ≡ 0 → rest ≡ []
no-length [] end = refl
no-length (c ∷ rest) end = absurd (omega arith)

all-left : (rest : List ℕ) (others : List TextCharacter) → rest ≡ [] → AreDecoded others rest → others ≡ []
all-left rest [] end none = refl
all-left rest (c ∷ others) end (after, first, behind) =
    let x : First = (c, after) in
    let h : None ≡ Some x = sym (ap first_character end) ∙ first-again rest c after first in
    absurd cc

pub read-all : (list : List TextCharacter) (text rest : List ℕ) → IsRead list text rest → length rest ≡ 0 → IsTheOnly (λ cs. AreDecoded cs text) (Some list)
read-all list text rest is end = (
  subst (λ (cs : List TextCharacter). AreDecoded cs text) (append-nil list) (is.takes [] (no-length rest end)),
  λ whole are.
      let left = is.again whole are in
      left.1 ∙ ap (λ (cs : List TextCharacter). list ++ cs) (all-left rest left.0 (no-length rest end) left.2) ∙ append-nil list,
)

pub ruleset steps = (read-none, read-stuck)

-- Whole texts.

pub text-decoded : (source : List ℕ) (text : List ℕ) (answer : Option (List TextCharacter)) → IsUtf8 source → text ≡ chars source
    → IsTheOnly (λ cs. AreDecoded cs text) answer → IsTheOnly (IsDecoded source) answer
text-decoded source text None valid same only = λ other is.
    let one : is.0 ≡ text = encodes_same is.0 (chars source) (is.1.spelled ∙ sym (encodes-chars source valid)) ∙ sym same in
    only other (subst (AreDecoded other) one is.2)
text-decoded source text (Some list) valid same only = (
  (chars source, record { scalars = scalars-chars source valid; spelled = encodes-chars source valid }, subst (AreDecoded list) same only.0),
  λ other is.
      let one : is.0 ≡ text = encodes_same is.0 (chars source) (is.1.spelled ∙ sym (encodes-chars source valid)) ∙ sym same in
      only.1 other (subst (AreDecoded other) one is.2),
)

pub text-broken : (source : List ℕ) (lo : ℕ) → IsValidUpTo source lo → IsTheOnly (IsDecoded source) nothing
text-broken source lo valid other is = no_text source lo is.0 is.1 valid

pub ruleset texts = (text-decoded, text-broken)
