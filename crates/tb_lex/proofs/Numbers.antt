-- The value of digits, and what a word that begins with a digit is.
use Rattle.std.proofs.Common.{◌≡◌, ◌≢◌, inl, inr, ℕ, ◌+◌, ◌*◌, ◌^◌, ◌<◌, ◌≤◌, Bool, true, false, ◌&&◌, ◌==◌, ltb, cond, List, [], ◌∷◌, ◌++◌, Option, Some, None, Result, Ok, Err, refl, ap, sym, subst, ◌∙◌, arith, lt-ltb, le-ltb, ltb-true, ltb-false, mul-le-mul_left, mul-one}
use Rattle.std.specs.Char.{digit_value}
use Rattle.std.specs.List.{list_all}
use Rattle.std.proofs.lemmas.Bool.{cases_Bool}
use Rattle.tb_perm.specs.declared.code.Code.{Code}
use Rattle.tb_perm.specs.declared.code.Code.TheVariants.{BadNumber, UnknownSuffix}
use Rattle.tb_lex.specs.declared.suffix.Suffix.{Suffix}
use Rattle.tb_lex.specs.declared.token.Integer.{Integer}
use Rattle.tb_lex.specs.Characters.{front, after_front}
use Rattle.tb_lex.specs.Tables.{suffix_text, suffix_of}
use Rattle.tb_lex.specs.Numbers.{value_from, number_of, suffixed, integer_with, integer_of}
use Rattle.tb_lex.specs.Tokens.{IsNumber, is_digit_of, digits_value, is_sound, suffixed_text, based, is_among_digits}
use Rattle.tb_lex.proofs.Cases.{tell}
use Rattle.tb_lex.proofs.Fronts.{front-parts, front-next, front-all, front-again}
use Rattle.tb_lex.proofs.Tables.{suffix-found, suffix-is, suffix-none}

le-times : (value base : ℕ) → 1 ≤ base → value ≤ value * base
le-times value base h = subst (λ n. n ≤ value * base) (mul-one value) (mul-le-mul_left value h)

-- digits only raise a value
value-grows : (base value : ℕ) (digits : List ℕ) → 1 ≤ base → value ≤ digits_value base value digits
value-grows base value [] h = omega arith
value-grows base value (c ∷ digits) h = elim (cases_Bool (c == 95)) [
  | inl is ↦ rw is (value-grows base value digits h)
  | inr other ↦
      let more = value-grows base (value * base + digit_value c) digits h in
      let times = le-times value base h in
      rw other (omega arith)
]

-- the value of digits, if they are all of the base and 64 bits hold it
abbrev checked : ℕ → ℕ → List ℕ → Option ℕ
checked base value digits =
    cond (list_all (is_digit_of base) digits && ltb (digits_value base value digits) (2 ^ 64)) (Some (digits_value base value digits)) None

none_left : (b : Bool) (x : Option ℕ) → cond (b && false) x None ≡ None
none_left true x = refl
none_left false x = refl

value-checked : (base value : ℕ) (digits : List ℕ) → 1 ≤ base → value < 2 ^ 64 → value_from base value digits ≡ checked base value digits
value-checked base value [] h bound = rw (lt-ltb value (2 ^ 64) bound) refl
value-checked base value (c ∷ digits) h bound = elim (cases_Bool (c == 95)) [
  | inl is ↦ rw is (value-checked base value digits h bound)
  | inr other ↦ elim (cases_Bool (ltb (digit_value c) base)) [
    | inr wrong ↦ rw (other, wrong) refl
    | inl digit ↦ elim (cases_Bool (ltb (value * base + digit_value c) (2 ^ 64))) [
      | inl fits ↦
          let rest = value-checked base (value * base + digit_value c) digits h (ltb-true (value * base + digit_value c) (2 ^ 64) fits) in
          rw (other, digit, fits) rest
      | inr over ↦
          let large : 2 ^ 64 ≤ value * base + digit_value c = ltb-false (value * base + digit_value c) (2 ^ 64) over in
          let grows = value-grows base (value * base + digit_value c) digits h in
          let out : ltb (digits_value base (value * base + digit_value c) digits) (2 ^ 64) ≡ false = le-ltb (digits_value base (value * base + digit_value c) digits) (2 ^ 64) (omega arith) in
          rw (other, digit, over, out) (sym (none_left (list_all (is_digit_of base) digits) (Some (digits_value base (value * base + digit_value c) digits))))
    ]
  ]
]

pub number-sound : (base : ℕ) (digits : List ℕ) → 1 ≤ base → number_of base digits ≡ cond (is_sound base digits) (Some (digits_value base 0 digits)) None
number-sound base [] h = refl
number-sound base (c ∷ digits) h = elim (cases_Bool (c == 95)) [
  | inl is ↦ rw is refl
  | inr other ↦
      let all = value-checked base 0 (c ∷ digits) h (omega arith) in
      rw other (rw other at all)
]

pub based-positive : (word : List ℕ) → 1 ≤ (based word).0
based-positive [] = omega arith
based-positive (c ∷ []) = omega arith
based-positive (c ∷ d ∷ rest) = elim (cases_Bool (c == 48 && d == 120)) [
  | inl is ↦ rw is (omega arith)
  | inr not_hex ↦ elim (cases_Bool (c == 48 && d == 111)) [
    | inl is ↦ rw (not_hex, is) (omega arith)
    | inr not_octal ↦ elim (cases_Bool (c == 48 && d == 98)) [
      | inl is ↦ rw (not_hex, not_octal, is) (omega arith)
      | inr not_binary ↦ rw (not_hex, not_octal, not_binary) (omega arith)
    ]
  ]
]

-- a word falls into these parts
pub number-parts : (word : List ℕ) → IsNumber word (based word).0 (front (is_among_digits (based word).0) (based word).1) (after_front (is_among_digits (based word).0) (based word).1)
number-parts word =
    let base = (based word).0 in
    let rest = (based word).1 in
    record {
      parts = ap (λ (t : List ℕ). (base, t)) (front-parts (is_among_digits base) rest);
      all = front-all (is_among_digits base) rest;
      ends = front-next (is_among_digits base) rest;
    }

-- and into no others
pub number-again : (word : List ℕ) (base : ℕ) (digits rest : List ℕ) → IsNumber word base digits rest → (integer_of word ≡ integer_with base digits rest) × (1 ≤ base)
unfolding integer_of
number-again word base digits rest is =
    let read : ℕ × List ℕ → Result Integer Code = λ parts.
    integer_with parts.0 (front (is_among_digits parts.0) parts.1) (after_front (is_among_digits parts.0) parts.1) in
    let cut = front-again (is_among_digits base) digits rest is.all is.ends in (
      ap read is.parts ∙ ap (λ (t : List ℕ). integer_with base t (after_front (is_among_digits base) (digits ++ rest))) cut.0
          ∙ ap (λ (t : List ℕ). integer_with base digits t) cut.1,
      subst (λ n. 1 ≤ n) (ap (λ (p : ℕ × List ℕ). p.0) is.parts) (based-positive word),
    )

-- the integer of sound digits
pub integer-sound : (base : ℕ) (digits rest : List ℕ) → 1 ≤ base → is_sound base digits ≡ true → integer_with base digits rest ≡ suffixed (digits_value base 0 digits) rest
integer-sound base digits rest h sound =
    let value : number_of base digits ≡ Some (digits_value base 0 digits) =
    number-sound base digits h ∙ ap (λ (b : Bool). cond b (Some (digits_value base 0 digits)) None) sound in
    ap (λ (o : Option ℕ). elim o [ Some value ↦ suffixed value rest | None ↦ Err BadNumber ]) value

pub integer-unsound : (base : ℕ) (digits rest : List ℕ) → 1 ≤ base → is_sound base digits ≡ false → integer_with base digits rest ≡ Err BadNumber
integer-unsound base digits rest h sound =
    let value : number_of base digits ≡ None =
    number-sound base digits h ∙ ap (λ (b : Bool). cond b (Some (digits_value base 0 digits)) None) sound in
    ap (λ (o : Option ℕ). elim o [ Some value ↦ suffixed value rest | None ↦ Err BadNumber ]) value

abbrev read_suffix : ℕ → Option Suffix → Result Integer Code
read_suffix value (Some suffix) = Ok (record { value = value; suffix = Some suffix })
read_suffix value None = Err UnknownSuffix

suffixed-some : (value : ℕ) (word : List ℕ) (s : Suffix) → suffix_of word ≡ Some s → suffixed value word ≡ Ok (record { value = value; suffix = Some s })
unfolding suffix_of
suffixed-some value [] s e = absurd cc
suffixed-some value (c ∷ word) s e =
    ap (read_suffix value) e

-- a suffix, or nothing, is read
pub suffixed-again : (value : ℕ) (suffix : Option Suffix) → suffixed value (suffixed_text suffix) ≡ Ok (record { value = value; suffix = suffix })
suffixed-again value None = refl
suffixed-again value (Some s) = suffixed-some value (suffix_text s) s (suffix-found s)

-- what stands behind digits: nothing or a suffix, which is read; or something else, which is refused
pub data Suffixed (value : ℕ) (rest : List ℕ) : Type 0 where
  Has : (suffix : Option Suffix) → rest ≡ suffixed_text suffix → suffixed value rest ≡ Ok (record { value = value; suffix = suffix }) → Suffixed value rest
  HasNone : rest ≢ [] → ((suffix : Suffix) → rest ≢ suffix_text suffix) → suffixed value rest ≡ Err UnknownSuffix → Suffixed value rest

pub suffixed-cases : (value : ℕ) (rest : List ℕ) → Suffixed value rest
suffixed-cases value [] = Has None refl refl
suffixed-cases value (c ∷ rest) = elim (tell (suffix_of (c ∷ rest))) [
  | inr found ↦ Has (Some found.0) (suffix-is (c ∷ rest) found.0 found.1) (suffixed-some value (c ∷ rest) found.0 found.1)
  | inl none ↦
      HasNone (λ e. cc) (λ suffix e. suffix-none (c ∷ rest) none suffix e)
      (ap (read_suffix value) none)
]
