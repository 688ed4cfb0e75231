-- What is written is read, and the longest front of a literal is what was read.
use Rattle.std.proofs.Common.{◌≡◌, inl, inr, ℕ, ◌+◌, ◌*◌, ◌^◌, ◌<◌, ◌≤◌, Bool, true, false, ◌&&◌, ◌||◌, not, ◌==◌, cond, ltb, ltb-true, List, [], ◌∷◌, ◌++◌, length, length-append, Option, Some, None, refl, ap, sym, subst, ◌∙◌, arith, append_assoc, eqb-true, add-one, pow-suc, append-nil, lt-ltb, ltb-false, le-ltb, leb, le-leb, leb-false, ne_eqb}
use Rattle.std.proofs.Math.Nat.{pow-le-pow_right}
use Rattle.std.proofs.Math.Utf8.{low_scalar}
use Rattle.std.specs.Char.{digit_value, IsScalar}
use Rattle.std.specs.List.{list_all}
use lib.Utf8.{scalar}
use Rattle.std.proofs.lemmas.Bool.{cases_Bool, eqb-false}
use Rattle.tb_lex.specs.declared.literal.Literal.{Literal}
use Rattle.tb_lex.specs.declared.literal.Literal.TheVariants.{Character, Byte, Text}
use Rattle.tb_lex.specs.declared.literal.Stage.{Stage}
use Rattle.tb_lex.specs.declared.literal.Stage.TheVariants.{Open, Escape, Hex, Digit, Unicode, Digits, Full}
use Rattle.tb_lex.specs.Stages.{full, full_value, plus_hex, may_grow, next_stage, content}
use Rattle.tb_lex.specs.Literals.{is_hex, hex_value, IsWritten, AreWritten, IsContent, closing, is_plain, short, high_limit}
use Rattle.tb_lex.specs.Literals.IsWritten.{Plain, Short, Hex as Twice, Braced}
use Rattle.tb_lex.proofs.Cases.{both, neither, not_true, chosen, some_is, tell}
use Rattle.tb_lex.proofs.Literals.{Start, Behind, BehindDigits, Means, after_full, content-next, content-stop, hex_value-push, is_hex-push}

-- the stage to which a whole piece leads, if some literal goes on so
abbrev pub through : Literal → Stage → List ℕ → Option Stage
through literal stage [] = Some stage
through literal stage (c ∷ piece) = elim (next_stage literal stage c) [ Some next ↦ through literal next piece | None ↦ None ]

through-next : (literal : Literal) (stage : Stage) (c : ℕ) (piece : List ℕ) (next : Stage) → next_stage literal stage c ≡ Some next → through literal stage (c ∷ piece) ≡ through literal next piece
through-next literal stage c piece next e =
    ap (λ (o : Option Stage). elim o [ Some following ↦ through literal following piece | None ↦ None ]) e

through-stop : (literal : Literal) (stage : Stage) (c : ℕ) (piece : List ℕ) → next_stage literal stage c ≡ None → through literal stage (c ∷ piece) ≡ None
through-stop literal stage c piece e =
    ap (λ (o : Option Stage). elim o [ Some following ↦ through literal following piece | None ↦ None ]) e

-- the first character of what leads on does
through-first : (literal : Literal) (stage : Stage) (c : ℕ) (piece : List ℕ) (last : Stage) → through literal stage (c ∷ piece) ≡ Some last
    → (next : Stage) × (next_stage literal stage c ≡ Some next) × (through literal next piece ≡ Some last)
through-first literal stage c piece last e = elim (tell (next_stage literal stage c)) [
  | inl none ↦ let h : None ≡ Some last = sym (through-stop literal stage c piece none) ∙ e in absurd cc
  | inr found ↦ (found.0, found.1, sym (through-next literal stage c piece found.0 found.1) ∙ e)
]

pub through-content : (literal : Literal) (stage : Stage) (piece rest : List ℕ) (last : Stage) → through literal stage piece ≡ Some last → content literal stage (piece ++ rest) ≡ content literal last rest
through-content literal stage [] rest last e = ap (λ s. content literal s rest) (some_is stage last e)
through-content literal stage (c ∷ piece) rest last e =
    let h = through-first literal stage c piece last e in
    content-next literal stage c (piece ++ rest) h.0 h.1 ∙ through-content literal h.0 piece rest last h.2

pub through-append : (literal : Literal) (stage : Stage) (piece others : List ℕ) (last : Stage) → through literal stage piece ≡ Some last → through literal stage (piece ++ others) ≡ through literal last others
through-append literal stage [] others last e = ap (λ s. through literal s others) (some_is stage last e)
through-append literal stage (c ∷ piece) others last e =
    let h = through-first literal stage c piece last e in
    through-next literal stage c (piece ++ others) h.0 h.1 ∙ through-append literal h.0 piece others last h.2

pub through-front : (literal : Literal) (stage : Stage) (piece others : List ℕ) (last : Stage) → through literal stage (piece ++ others) ≡ Some last → (next : Stage) × (through literal stage piece ≡ Some next)
through-front literal stage [] others last e = (stage, refl)
through-front literal stage (c ∷ piece) others last e =
    let h = through-first literal stage c (piece ++ others) last e in
    let front = through-front literal h.0 piece others last h.2 in
    (front.0, through-next literal stage c piece h.0 h.1 ∙ front.1)

pub content-shorter : (literal : Literal) (stage : Stage) (text : List ℕ) → length (content literal stage text).1 ≤ length text
content-shorter literal stage [] = omega arith
content-shorter literal stage (c ∷ text) = elim (tell (next_stage literal stage c)) [
  | inl none ↦ subst (λ (r : Stage × List ℕ). length r.1 ≤ length (c ∷ text)) (sym (content-stop literal stage c text none)) (omega arith)
  | inr found ↦
      let h = content-shorter literal found.0 text in
      subst (λ (r : Stage × List ℕ). length r.1 ≤ length (c ∷ text)) (sym (content-next literal stage c text found.0 found.1)) (omega arith)
]

-- One character.

plain-backslash : (literal : Literal) (c : ℕ) → is_plain literal c ≡ true → (c == 92) ≡ false
plain-backslash Character c e = (neither (c == 39) (c == 92) (neither (c == 39 || c == 92) (c == 10) (not_true (c == 39 || c == 92 || c == 10) e)).0).1
plain-backslash Byte c e =
    let other = (both (ltb c 128) (not (c == 39 || c == 92 || c == 10)) e).1 in
    (neither (c == 39) (c == 92) (neither (c == 39 || c == 92) (c == 10) (not_true (c == 39 || c == 92 || c == 10) other)).0).1
plain-backslash Text c e = (neither (c == 34) (c == 92) (not_true (c == 34 || c == 92) e)).1

short-not : (letter value c : ℕ) → short letter ≡ Some value → short c ≡ None → (letter == c) ≡ false
short-not letter value c e none = elim (cases_Bool (letter == c)) [
  | inr other ↦ other
  | inl is ↦
      let same : letter ≡ c = eqb-true letter c is in
      let h : None ≡ Some value = sym none ∙ ap short (sym same) ∙ e in
      absurd cc
]

plus_hex-again : (value c : ℕ) → is_hex c ≡ true → value < 2 ^ 28 → plus_hex value c ≡ Some (value * 16 + digit_value c)
plus_hex-again value c hex bound =
    let digit : digit_value c < 16 = ltb-true (digit_value c) 16 hex in
    let fits : ltb (value * 16 + digit_value c) (2 ^ 32) ≡ true = lt-ltb (value * 16 + digit_value c) (2 ^ 32) (omega arith) in
    rw (hex, fits) refl

hex-brace : (c : ℕ) → is_hex c ≡ true → (c == 125) ≡ false
hex-brace c e = elim (cases_Bool (c == 125)) [
  | inr other ↦ other
  | inl is ↦ let h : true ≡ false = sym e ∙ ap is_hex (eqb-true c 125 is) in absurd cc
]

power-bound : (n : ℕ) → n ≤ 5 → 16 ^ n ≤ 2 ^ 20
power-bound n h = pow-le-pow_right {n = 16} (omega arith) h

-- one more digit may come where all of them are few
grows : (count c : ℕ) (digits : List ℕ) (value : ℕ) → count + length (c ∷ digits) ≤ 6 → IsScalar (hex_value value (c ∷ digits)) → may_grow count (value * 16 + digit_value c) ≡ true
grows count c [] value few is = elim (cases_Bool (ltb count 5)) [
  | inl under ↦ rw under refl
  | inr other ↦
      let least : 5 ≤ count = ltb-false count 5 other in
      let last : count ≡ 5 = omega arith in
      rw last (rw is refl)
]
grows count c (d ∷ digits) value few is = rw (lt-ltb count 5 (omega arith)) refl

limit-small : (literal : Literal) (n : ℕ) → n < high_limit literal → n < 16
limit-small Character n h = omega arith
limit-small Byte n h = h
limit-small Text n h = omega arith

digits-through : (literal : Literal) (digits : List ℕ) (count value : ℕ) → 1 ≤ count + length digits → count + length digits ≤ 6 → list_all is_hex digits ≡ true → value < 16 ^ count → IsScalar (hex_value value digits)
    → through literal (Digits count value) (digits ++ 125 ∷ []) ≡ Some (full literal (hex_value value digits))
unfolding next_stage
digits-through literal [] count value some few all bound is =
    let least : (count == 0) ≡ false = ne_eqb count 0 (λ h. absurd (omega arith)) in
    let next : next_stage literal (Digits count value) 125 ≡ Some (full literal value) = rw (least, is) refl in
    through-next literal (Digits count value) 125 [] (full literal value) next
digits-through literal (c ∷ digits) count value some few all bound is =
    let parts = both (is_hex c) (list_all is_hex digits) all in
    let five : count ≤ 5 = omega arith in
    let powers : 16 ^ count ≤ 2 ^ 20 = power-bound count five in
    let digit : digit_value c < 16 = ltb-true (digit_value c) 16 parts.0 in
    let power : 16 ^ (count + 1) ≡ 16 ^ count * 16 = ap (λ (n : ℕ). 16 ^ n) (add-one count) ∙ pow-suc 16 count in
    let small : value < 2 ^ 28 = omega arith in
    let more : value * 16 + digit_value c < 16 ^ (count + 1) = omega (arith, power) in
    let may : may_grow count (value * 16 + digit_value c) ≡ true = grows count c digits value few is in
    let next : next_stage literal (Digits count value) c ≡ Some (Digits (count + 1) (value * 16 + digit_value c)) =
    rw (hex-brace c parts.0, plus_hex-again value c parts.0 small, may) refl in
    through-next literal (Digits count value) c (digits ++ 125 ∷ []) (Digits (count + 1) (value * 16 + digit_value c)) next
    ∙ digits-through literal digits (count + 1) (value * 16 + digit_value c) (omega arith) (omega arith) parts.1 more is

-- so one character leads to its end
pub written-through : (literal : Literal) (value : ℕ) (piece : List ℕ) → IsWritten literal value piece → through literal Open piece ≡ Some (full literal value)
unfolding next_stage
written-through literal value _ (Plain c e) =
    let next : next_stage literal Open c ≡ Some (full literal c) = rw (plain-backslash literal c e, e) refl in
    through-next literal Open c [] (full literal c) next
written-through literal value _ (Short v letter e) =
    let next : next_stage literal Escape letter ≡ Some (full literal v) =
    rw (short-not letter v 120 e refl, short-not letter v 117 e refl, e) refl in
    through-next literal Escape letter [] (full literal v) next
written-through literal value _ (Twice high low h l) =
    let first : ltb (digit_value high) (high_limit literal) ≡ true = lt-ltb (digit_value high) (high_limit literal) h in
    let small : digit_value high < 16 = limit-small literal (digit_value high) h in
    let second : is_hex low ≡ true = lt-ltb (digit_value low) 16 l in
    let sum : ℕ = digit_value high * 16 + digit_value low in
    let is : IsScalar (digit_value high * 16 + digit_value low) = low_scalar (digit_value high * 16 + digit_value low) (omega arith) in
    let next : next_stage literal Hex high ≡ Some (Digit (digit_value high)) = rw first refl in
    let last : next_stage literal (Digit (digit_value high)) low ≡ Some (full literal (digit_value high * 16 + digit_value low)) =
    ap (λ (o : Option ℕ). elim o [ Some value ↦ full_value literal value | None ↦ None ]) (plus_hex-again (digit_value high) low second (omega arith))
    ∙ ap (λ (b : Bool). cond b (Some (full literal (digit_value high * 16 + digit_value low))) None) is in
    through-next literal Hex high (low ∷ []) (Digit (digit_value high)) next
    ∙ through-next literal (Digit (digit_value high)) low [] (full literal (digit_value high * 16 + digit_value low)) last
written-through literal value _ (Braced digits allowed some few all is) =
    let next : next_stage literal Escape 117 ≡ Some Unicode = ap (λ (b : Bool). cond b (Some Unicode) None) allowed in
    through-next literal Escape 117 (123 ∷ (digits ++ 125 ∷ [])) Unicode next
    ∙ digits-through literal digits 0 0 (omega arith) (omega arith) all (omega arith) is

pub full-text : (values : List ℕ) (inner : List ℕ) → AreWritten values inner → through Text Open inner ≡ Some Open
full-text [] inner e = ap (through Text Open) e
full-text (value ∷ values) inner (first, rest, parts, is, others) =
    ap (through Text Open) parts ∙ through-append Text Open first rest Open (written-through Text value first is) ∙ full-text values rest others

-- the stage behind a whole content
abbrev pub Whole : Literal → Stage → Type 0
Whole Character stage = (value : ℕ) × (stage ≡ Full value)
Whole Byte stage = (value : ℕ) × (stage ≡ Full value)
Whole Text stage = stage ≡ Open

pub content-through : (literal : Literal) (inner : List ℕ) → IsContent literal inner → (stage : Stage) × (through literal Open inner ≡ Some stage) × Whole literal stage
content-through Character inner is = (Full is.0, written-through Character is.0 inner is.1, (is.0, refl))
content-through Byte inner is = (Full is.0, written-through Byte is.0 inner is.1, (is.0, refl))
content-through Text inner is = (Open, full-text is.0 inner is.1, refl)

-- no literal goes on with its quote
pub whole-stops : (literal : Literal) (stage : Stage) → Whole literal stage → next_stage literal stage (closing literal) ≡ None
unfolding next_stage
whole-stops Character stage is = ap (λ s. next_stage Character s 39) is.1
whole-stops Byte stage is = ap (λ s. next_stage Byte s 39) is.1
whole-stops Text stage is = ap (λ s. next_stage Text s 34) is

-- a whole literal is read up to its quote
pub content-again : (literal : Literal) (inner rest : List ℕ) → IsContent literal inner → (stage : Stage) × (content literal Open (inner ++ closing literal ∷ rest) ≡ (stage, closing literal ∷ rest)) × Whole literal stage
content-again literal inner rest is =
    let h = content-through literal inner is in (
      h.0,
      through-content literal Open inner (closing literal ∷ rest) h.0 h.1 ∙ content-stop literal h.0 (closing literal) rest (whole-stops literal h.0 h.2),
      h.2,
    )

-- Fronts.

-- what means its stage goes on to a whole content
pub content-of : (literal : Literal) (value : ℕ) (inner : List ℕ) → Means literal (full literal value) inner → IsContent literal inner
content-of Character value inner m = (value, m)
content-of Byte value inner m = (value, m)
content-of Text value inner m = m

-- the piece goes on so to a whole content
pub record Completes (literal : Literal) (piece : List ℕ) : Type 0 where
  pub suffix : List ℕ
  pub whole : IsContent literal (piece ++ suffix)

complete : (literal : Literal) (piece escape suffix : List ℕ) (value : ℕ) → Behind literal piece escape → IsWritten literal value (escape ++ suffix) → Completes literal piece
complete literal piece escape suffix value b is =
    let parts : piece ++ suffix ≡ b.start ++ (escape ++ suffix) = ap (λ (t : List ℕ). t ++ suffix) b.parts ∙ append_assoc b.start escape suffix in
    record { suffix = suffix; whole = content-of literal value (piece ++ suffix) (after_full literal (piece ++ suffix) b.start value (escape ++ suffix) b.starts parts is) }

-- a value that is no character's has one more digit
shifts : (value : ℕ) → scalar value ≡ false → value < 2 ^ 20 → IsScalar (value * 16 + 0)
shifts value e bound = elim (chosen (ltb value 55296) true (leb 57344 value && ltb value 1114112) false e) [
  | inl k ↦ absurd cc
  | inr k ↦
      let low : 55296 ≤ value = ltb-false value 55296 k.0 in
      let above : ltb (value * 16 + 0) 55296 ≡ false = le-ltb (value * 16 + 0) 55296 (omega arith) in
      let over : leb 57344 (value * 16 + 0) ≡ true = le-leb 57344 (value * 16 + 0) (omega arith) in
      let high : ltb (value * 16 + 0) 1114112 ≡ true = elim (cases_Bool (leb 57344 value)) [
        | inl large ↦
            let within : ltb value 1114112 ≡ true = lt-ltb value 1114112 (omega arith) in
            let h : true ≡ false = sym (ap (λ (b : Bool). b && ltb value 1114112) large ∙ within) ∙ k.1 in
            absurd cc
        | inr small ↦
            let under : value < 57344 = leb-false 57344 value small in
            lt-ltb (value * 16 + 0) 1114112 (omega arith)
      ] in
      rw (above, over, high) refl
]

complete_open : (literal : Literal) (piece : List ℕ) → Start literal piece → Completes literal piece
complete_open Character piece starts = record { suffix = 97 ∷ []; whole = (97, subst (λ t. IsWritten Character 97 (t ++ 97 ∷ [])) (sym starts) (Plain 97 refl)) }
complete_open Byte piece starts = record { suffix = 97 ∷ []; whole = (97, subst (λ t. IsWritten Byte 97 (t ++ 97 ∷ [])) (sym starts) (Plain 97 refl)) }
complete_open Text piece starts = record { suffix = []; whole = subst (IsContent Text) (sym (append-nil piece)) starts }

positive_limit : (literal : Literal) → 0 < high_limit literal
positive_limit Character = omega arith
positive_limit Byte = omega arith
positive_limit Text = omega arith

complete_digits : (literal : Literal) (count value : ℕ) (piece : List ℕ) → BehindDigits literal count value piece → Completes literal piece
complete_digits literal count value piece m =
    let grow : count ≤ 5 → IsScalar (value * 16 + 0) → Completes literal piece = λ few is.
    let total : hex_value 0 (m.digits ++ 48 ∷ []) ≡ value * 16 + 0 = hex_value-push 0 m.digits 48 ∙ ap (λ (n : ℕ). n * 16 + 0) m.worth in
    let long : length (m.digits ++ 48 ∷ []) ≡ count + 1 = length-append m.digits (48 ∷ []) ∙ ap (λ (n : ℕ). n + 1) m.long in
    let is : IsWritten literal (hex_value 0 (m.digits ++ 48 ∷ [])) (92 ∷ 117 ∷ 123 ∷ ((m.digits ++ 48 ∷ []) ++ 125 ∷ [])) =
    Braced (m.digits ++ 48 ∷ []) m.allowed (omega arith) (omega arith) (is_hex-push m.digits 48 m.hex refl) (subst IsScalar (sym total) is) in
    let regroup : 92 ∷ 117 ∷ 123 ∷ ((m.digits ++ 48 ∷ []) ++ 125 ∷ []) ≡ (92 ∷ 117 ∷ 123 ∷ m.digits) ++ (48 ∷ 125 ∷ []) =
    ap (λ (t : List ℕ). 92 ∷ 117 ∷ 123 ∷ t) (append_assoc m.digits (48 ∷ []) (125 ∷ [])) in
    complete literal piece (92 ∷ 117 ∷ 123 ∷ m.digits) (48 ∷ 125 ∷ []) (hex_value 0 (m.digits ++ 48 ∷ [])) m.behind (subst (IsWritten literal (hex_value 0 (m.digits ++ 48 ∷ []))) regroup is) in
    elim (cases_Bool (count == 0)) [
      | inl none ↦
          let zero : count ≡ 0 = eqb-true count 0 none in
          let bound : value < 16 ^ 0 = subst (λ n. value < 16 ^ n) zero m.bound in
          let nothing : value ≡ 0 = omega arith in
          grow (omega arith) (subst (λ n. IsScalar (n * 16 + 0)) (sym nothing) refl)
      | inr some ↦ elim (cases_Bool (scalar value)) [
        | inl is ↦
            let long = m.long in
            let least : 1 ≤ length m.digits = grind (arith, eqb-false count 0 some, long) in
            complete literal piece (92 ∷ 117 ∷ 123 ∷ m.digits) (125 ∷ []) (hex_value 0 m.digits) m.behind
            (Braced m.digits m.allowed least (subst (λ n. n ≤ 6) (sym m.long) m.few) m.hex (subst IsScalar (sym m.worth) is))
        | inr other ↦
            let five : count ≤ 5 = elim (cases_Bool (count == 6)) [
              | inl six ↦ let h : true ≡ false = sym (m.last (eqb-true count 6 six)) ∙ other in absurd cc
              | inr less ↦ let few = m.few in grind (arith, eqb-false count 6 less, few)
            ] in
            let powers : 16 ^ count ≤ 2 ^ 20 = power-bound count five in
            let bound : value < 16 ^ count = m.bound in
            grow five (shifts value other (omega arith))
      ]
    ]

pub completes : (literal : Literal) (stage : Stage) (piece : List ℕ) → Means literal stage piece → Completes literal piece
completes literal Open piece m = complete_open literal piece m
completes literal Escape piece m = complete literal piece (92 ∷ []) (110 ∷ []) 10 m (Short 10 110 refl)
completes literal Hex piece m = complete literal piece (92 ∷ 120 ∷ []) (48 ∷ 48 ∷ []) 0 m (Twice 48 48 (positive_limit literal) (omega arith))
completes literal (Digit high) piece m =
    let limit : digit_value m.0 < high_limit literal = subst (λ n. n < high_limit literal) (sym m.1) m.2 in
    complete literal piece (92 ∷ 120 ∷ m.0 ∷ []) (48 ∷ []) (digit_value m.0 * 16 + digit_value 48) m.3 (Twice m.0 48 limit (omega arith))
completes literal Unicode piece m =
    complete literal piece (92 ∷ 117 ∷ []) (123 ∷ 48 ∷ 125 ∷ []) 0 m.0 (Braced (48 ∷ []) m.1 (omega arith) (omega arith) refl refl)
completes literal (Digits count value) piece m = complete_digits literal count value piece m
completes Character (Full value) piece m = record { suffix = []; whole = subst (IsContent Character) (sym (append-nil piece)) (value, m) }
completes Byte (Full value) piece m = record { suffix = []; whole = subst (IsContent Byte) (sym (append-nil piece)) (value, m) }
completes Text (Full value) piece m = absurd m
