-- The stages of a literal mean what was read, and what is written is read.
use Rattle.std.proofs.Common.{◌≡◌, inl, inr, ℕ, ◌+◌, ◌*◌, ◌^◌, ◌<◌, ◌≤◌, true, ◌&&◌, ◌==◌, cond, ltb, ltb-true, List, [], ◌∷◌, ◌++◌, length, length-append, Option, Some, None, refl, ap, sym, subst, ◌∙◌, arith, append_assoc, eqb-true, add-one, pow-suc, append-nil}
use Rattle.std.specs.Char.{digit_value, IsScalar}
use Rattle.std.specs.List.{list_all}
use lib.Utf8.{scalar}
use Rattle.std.proofs.lemmas.Bool.{eqb-false}
use Rattle.tb_lex.specs.declared.literal.Literal.{Literal}
use Rattle.tb_lex.specs.declared.literal.Literal.TheVariants.{Character, Byte, Text}
use Rattle.tb_lex.specs.declared.literal.Stage.{Stage}
use Rattle.tb_lex.specs.declared.literal.Stage.TheVariants.{Open, Escape, Hex, Digit, Unicode, Digits, Full}
use Rattle.tb_lex.specs.Stages.{full, full_value, from_open, unicode, from_escape, from_hex, plus_hex, from_digit, may_grow, grown, closed, from_digits, next_stage, content}
use Rattle.tb_lex.specs.Literals.{has_unicode, is_hex, hex_value, IsWritten, AreWritten, is_plain, short, high_limit}
use Rattle.tb_lex.specs.Literals.IsWritten.{Plain, Short, Hex as Twice, Braced}
use Rattle.tb_lex.proofs.Cases.{both, either, chosen, some_is, tell}

-- Digits.

pub hex_value-push : (value : ℕ) (digits : List ℕ) (c : ℕ) → hex_value value (digits ++ c ∷ []) ≡ hex_value value digits * 16 + digit_value c
hex_value-push value [] c = refl
hex_value-push value (d ∷ digits) c = hex_value-push (value * 16 + digit_value d) digits c

pub is_hex-push : (digits : List ℕ) (c : ℕ) → list_all is_hex digits ≡ true → is_hex c ≡ true → list_all is_hex (digits ++ c ∷ []) ≡ true
is_hex-push [] c all e = rw e refl
is_hex-push (d ∷ digits) c all e =
    let parts = both (is_hex d) (list_all is_hex digits) all in
    rw parts.0 (is_hex-push digits c parts.1 e)

-- What was read since the quote, by stage.

-- whole characters: none in a literal of one
abbrev pub Start : Literal → List ℕ → Type 0
Start Character piece = piece ≡ []
Start Byte piece = piece ≡ []
Start Text piece = (values : List ℕ) × AreWritten values piece

-- a start, and an escape so far
pub record Behind (literal : Literal) (piece escape : List ℕ) : Type 0 where
  pub start : List ℕ
  pub starts : Start literal start
  pub parts : piece ≡ start ++ escape

pub record BehindDigits (literal : Literal) (count value : ℕ) (piece : List ℕ) : Type 0 where
  pub digits : List ℕ
  pub behind : Behind literal piece (92 ∷ 117 ∷ 123 ∷ digits)
  pub allowed : has_unicode literal ≡ true
  pub long : length digits ≡ count
  pub worth : hex_value 0 digits ≡ value
  pub hex : list_all is_hex digits ≡ true
  pub few : count ≤ 6
  pub last : count ≡ 6 → IsScalar value
  pub bound : value < 16 ^ count

abbrev pub Means : Literal → Stage → List ℕ → Type 0
Means literal Open piece = Start literal piece
Means literal Escape piece = Behind literal piece (92 ∷ [])
Means literal Hex piece = Behind literal piece (92 ∷ 120 ∷ [])
Means literal (Digit high) piece =
    (d : ℕ) × (digit_value d ≡ high) × (high < high_limit literal) × Behind literal piece (92 ∷ 120 ∷ d ∷ [])
Means literal Unicode piece = Behind literal piece (92 ∷ 117 ∷ []) × (has_unicode literal ≡ true)
Means literal (Digits count value) piece = BehindDigits literal count value piece
Means Character (Full value) piece = IsWritten Character value piece
Means Byte (Full value) piece = IsWritten Byte value piece
Means Text (Full value) piece = ⊥

pub more : (literal : Literal) (piece escape : List ℕ) (c : ℕ) → Behind literal piece escape → Behind literal (piece ++ c ∷ []) (escape ++ c ∷ [])
more literal piece escape c b = record {
  start = b.start;
  starts = b.starts;
  parts = ap (λ (t : List ℕ). t ++ c ∷ []) b.parts ∙ append_assoc b.start escape (c ∷ []);
}

written-push : (values : List ℕ) (piece : List ℕ) (value : ℕ) (spelled : List ℕ) → AreWritten values piece → IsWritten Text value spelled → AreWritten (values ++ value ∷ []) (piece ++ spelled)
written-push [] piece value spelled none is =
    (spelled, [], ap (λ (t : List ℕ). t ++ spelled) none ∙ sym (append-nil spelled), is, refl)
written-push (v ∷ values) piece value spelled (first, rest, parts, here, others) is =
    (first, rest ++ spelled, ap (λ (t : List ℕ). t ++ spelled) parts ∙ append_assoc first rest spelled, here, written-push values rest value spelled others is)

-- behind a whole character
pub after_full : (literal : Literal) (piece start : List ℕ) (value : ℕ) (spelled : List ℕ) → Start literal start → piece ≡ start ++ spelled → IsWritten literal value spelled
    → Means literal (full literal value) piece
after_full Character piece start value spelled starts parts is =
    subst (IsWritten Character value) (sym (parts ∙ ap (λ (t : List ℕ). t ++ spelled) starts)) is
after_full Byte piece start value spelled starts parts is =
    subst (IsWritten Byte value) (sym (parts ∙ ap (λ (t : List ℕ). t ++ spelled) starts)) is
after_full Text piece start value spelled starts parts is =
    subst (Start Text) (sym parts) (starts.0 ++ value ∷ [], written-push starts.0 start value spelled starts.1 is)

-- the same, the last character of its spelling being read
after_last : (literal : Literal) (piece escape : List ℕ) (c value : ℕ) (stage : Stage) → Behind literal piece escape → IsWritten literal value (escape ++ c ∷ []) → full literal value ≡ stage
    → Means literal stage (piece ++ c ∷ [])
after_last literal piece escape c value stage b is e =
    let m = more literal piece escape c b in
    subst (λ s. Means literal s (piece ++ c ∷ [])) e (after_full literal (piece ++ c ∷ []) m.start value (escape ++ c ∷ []) m.starts m.parts is)

-- One step.

step_open : (literal : Literal) (piece : List ℕ) (c : ℕ) (next : Stage) → Start literal piece → from_open literal c ≡ Some next → Means literal next (piece ++ c ∷ [])
step_open literal piece c next starts e =
    elim (chosen (c == 92) (Some Escape) (cond (is_plain literal c) (Some (full literal c)) None) (Some next) e) [
      | inl k ↦
          let same : 92 ≡ c = sym (eqb-true c 92 k.0) in
          subst (λ s. Means literal s (piece ++ c ∷ [])) (some_is Escape next k.1)
          (record { start = piece; starts = starts; parts = ap (λ (x : ℕ). piece ++ x ∷ []) (sym same) })
      | inr k ↦ elim (chosen (is_plain literal c) (Some (full literal c)) None (Some next) k.1) [
        | inl j ↦
            subst (λ s. Means literal s (piece ++ c ∷ [])) (some_is (full literal c) next j.1)
            (after_full literal (piece ++ c ∷ []) piece c (c ∷ []) starts refl (Plain c j.0))
        | inr j ↦ absurd cc
      ]
    ]

step_unicode : (literal : Literal) (piece : List ℕ) (next : Stage) → unicode literal ≡ Some next → Behind literal piece (92 ∷ 117 ∷ []) → Means literal next piece
step_unicode Character piece next e b = subst (λ s. Means Character s piece) (some_is Unicode next e) (b, refl)
step_unicode Byte piece next e b = absurd cc
step_unicode Text piece next e b = subst (λ s. Means Text s piece) (some_is Unicode next e) (b, refl)

step_escape : (literal : Literal) (piece : List ℕ) (c : ℕ) (next : Stage) → Behind literal piece (92 ∷ []) → from_escape literal c ≡ Some next → Means literal next (piece ++ c ∷ [])
step_escape literal piece c next b e =
    let read : Option Stage = elim (short c) [ Some value ↦ Some (full literal value) | None ↦ None ] in
    elim (chosen (c == 120) (Some Hex) (cond (c == 117) (unicode literal) read) (Some next) e) [
      | inl k ↦
          let m = subst (λ x. Behind literal (piece ++ c ∷ []) (92 ∷ x ∷ [])) (eqb-true c 120 k.0) (more literal piece (92 ∷ []) c b) in
          subst (λ s. Means literal s (piece ++ c ∷ [])) (some_is Hex next k.1) m
      | inr k ↦ elim (chosen (c == 117) (unicode literal) read (Some next) k.1) [
        | inl j ↦
            let m = subst (λ x. Behind literal (piece ++ c ∷ []) (92 ∷ x ∷ [])) (eqb-true c 117 j.0) (more literal piece (92 ∷ []) c b) in
            step_unicode literal (piece ++ c ∷ []) next j.1 m
        | inr j ↦
            (elim (short c) as (λ o. short c ≡ o → elim o [ Some value ↦ Some (full literal value) | None ↦ None ] ≡ Some next → Means literal next (piece ++ c ∷ [])) [
              | Some value ↦ λ is h. after_last literal piece (92 ∷ []) c value next b (Short value c is) (some_is (full literal value) next h)
              | None ↦ λ is h. absurd cc
            ]) refl j.1
      ]
    ]

step_hex : (literal : Literal) (piece : List ℕ) (c : ℕ) (next : Stage) → Behind literal piece (92 ∷ 120 ∷ []) → from_hex literal c ≡ Some next → Means literal next (piece ++ c ∷ [])
step_hex literal piece c next b e =
    elim (chosen (ltb (digit_value c) (high_limit literal)) (Some (Digit (digit_value c))) None (Some next) e) [
      | inl k ↦
          subst (λ s. Means literal s (piece ++ c ∷ [])) (some_is (Digit (digit_value c)) next k.1)
          (c, refl, ltb-true (digit_value c) (high_limit literal) k.0, more literal piece (92 ∷ 120 ∷ []) c b)
      | inr k ↦ absurd cc
    ]

-- one more digit, and the value with it
plus_hex-is : (value c sum : ℕ) → plus_hex value c ≡ Some sum → (is_hex c ≡ true) × (value * 16 + digit_value c ≡ sum)
plus_hex-is value c sum e =
    elim (chosen (ltb (digit_value c) 16 && ltb (value * 16 + digit_value c) (2 ^ 32)) (Some (value * 16 + digit_value c)) None (Some sum) e) [
      | inl k ↦ ((both (ltb (digit_value c) 16) (ltb (value * 16 + digit_value c) (2 ^ 32)) k.0).0, some_is (value * 16 + digit_value c) sum k.1)
      | inr k ↦ absurd cc
    ]

-- behind a whole escape of this value
full_value-is : (literal : Literal) (value : ℕ) (next : Stage) → full_value literal value ≡ Some next → IsScalar value × (full literal value ≡ next)
full_value-is literal value next e =
    elim (chosen (scalar value) (Some (full literal value)) None (Some next) e) [
      | inl k ↦ (k.0, some_is (full literal value) next k.1)
      | inr k ↦ absurd cc
    ]

step_digit : (literal : Literal) (high : ℕ) (piece : List ℕ) (c : ℕ) (next : Stage) → Means literal (Digit high) piece → from_digit literal high c ≡ Some next → Means literal next (piece ++ c ∷ [])
step_digit literal high piece c next m e = elim (tell (plus_hex high c)) [
  | inl none ↦ let h : None ≡ Some next = sym (ap (λ (o : Option ℕ). elim o [ Some value ↦ full_value literal value | None ↦ None ]) none) ∙ e in absurd cc
  | inr found ↦
      let h : full_value literal found.0 ≡ Some next = sym (ap (λ (o : Option ℕ). elim o [ Some value ↦ full_value literal value | None ↦ None ]) found.1) ∙ e in
      let sum = plus_hex-is high c found.0 found.1 in
      let done = full_value-is literal found.0 next h in
      let d : ℕ = m.0 in
      let value : digit_value d * 16 + digit_value c ≡ found.0 = ap (λ (n : ℕ). n * 16 + digit_value c) m.1 ∙ sum.1 in
      let limit : digit_value d < high_limit literal = subst (λ n. n < high_limit literal) (sym m.1) m.2 in
      let is : IsWritten literal found.0 (92 ∷ 120 ∷ d ∷ c ∷ []) = subst (λ n. IsWritten literal n (92 ∷ 120 ∷ d ∷ c ∷ [])) value (Twice d c limit (ltb-true (digit_value c) 16 sum.0)) in
      after_last literal piece (92 ∷ 120 ∷ d ∷ []) c found.0 next m.3 is done.1
]

may_grow-is : (count value : ℕ) → may_grow count value ≡ true → (count + 1 ≤ 6) × (count ≡ 5 → IsScalar value)
may_grow-is count value e = elim (either (ltb count 5) (count == 5 && scalar value) e) [
  | inl under ↦ let h : count < 5 = ltb-true count 5 under in (omega arith, λ is. absurd (omega arith))
  | inr last ↦
      let parts = both (count == 5) (scalar value) last in
      let h : count ≡ 5 = eqb-true count 5 parts.0 in
      (omega arith, λ is. parts.1)
]

step_digits : (literal : Literal) (count value : ℕ) (piece : List ℕ) (c : ℕ) (next : Stage) → BehindDigits literal count value piece → from_digits literal count value c ≡ Some next → Means literal next (piece ++ c ∷ [])
step_digits literal count value piece c next m e =
    let read : Option Stage = elim (plus_hex value c) [ Some sum ↦ grown count sum | None ↦ None ] in
    elim (chosen (c == 125) (closed literal count value) read (Some next) e) [
      | inl k ↦ elim (chosen (count == 0) None (full_value literal value) (Some next) k.1) [
        | inl j ↦ absurd cc
        | inr j ↦
            let done = full_value-is literal value next j.1 in
            let long = m.long in
            let least : 1 ≤ length m.digits = grind (arith, eqb-false count 0 j.0, long) in
            let most : length m.digits ≤ 6 = subst (λ n. n ≤ 6) (sym m.long) m.few in
            let is : IsWritten literal value (92 ∷ 117 ∷ 123 ∷ (m.digits ++ 125 ∷ [])) =
            subst (λ n. IsWritten literal n (92 ∷ 117 ∷ 123 ∷ (m.digits ++ 125 ∷ []))) m.worth (Braced m.digits m.allowed least most m.hex (subst IsScalar (sym m.worth) done.0)) in
            let same : 125 ≡ c = sym (eqb-true c 125 k.0) in
            subst (λ x. Means literal next (piece ++ x ∷ [])) same (after_last literal piece (92 ∷ 117 ∷ 123 ∷ m.digits) 125 value next m.behind is done.1)
      ]
      | inr k ↦ elim (tell (plus_hex value c)) [
        | inl none ↦ let h : None ≡ Some next = sym (ap (λ (o : Option ℕ). elim o [ Some sum ↦ grown count sum | None ↦ None ]) none) ∙ k.1 in absurd cc
        | inr found ↦
            let h : grown count found.0 ≡ Some next = sym (ap (λ (o : Option ℕ). elim o [ Some sum ↦ grown count sum | None ↦ None ]) found.1) ∙ k.1 in
            let sum = plus_hex-is value c found.0 found.1 in
            elim (chosen (may_grow count found.0) (Some (Digits (count + 1) found.0)) None (Some next) h) [
              | inr j ↦ absurd cc
              | inl j ↦
                  let may = may_grow-is count found.0 j.0 in
                  let digit : digit_value c < 16 = ltb-true (digit_value c) 16 sum.0 in
                  let under : value < 16 ^ count = m.bound in
                  let power : 16 ^ (count + 1) ≡ 16 ^ count * 16 = ap (λ (n : ℕ). 16 ^ n) (add-one count) ∙ pow-suc 16 count in
                  let total : value * 16 + digit_value c ≡ found.0 = sum.1 in
                  subst (λ s. Means literal s (piece ++ c ∷ [])) (some_is (Digits (count + 1) found.0) next j.1) (record {
                    digits = m.digits ++ c ∷ [];
                    behind = more literal piece (92 ∷ 117 ∷ 123 ∷ m.digits) c m.behind;
                    allowed = m.allowed;
                    long = length-append m.digits (c ∷ []) ∙ ap (λ (n : ℕ). n + 1) m.long;
                    worth = hex_value-push 0 m.digits c ∙ ap (λ (n : ℕ). n * 16 + digit_value c) m.worth ∙ sum.1;
                    hex = is_hex-push m.digits c m.hex sum.0;
                    few = may.0;
                    last = λ is. may.1 (omega arith);
                    bound = omega (arith, power, under, digit, total);
                  })
            ]
      ]
    ]

pub step : (literal : Literal) (stage : Stage) (piece : List ℕ) (c : ℕ) (next : Stage) → Means literal stage piece → next_stage literal stage c ≡ Some next → Means literal next (piece ++ c ∷ [])
unfolding next_stage
step literal Open piece c next m e = step_open literal piece c next m e
step literal Escape piece c next m e = step_escape literal piece c next m e
step literal Hex piece c next m e = step_hex literal piece c next m e
step literal (Digit high) piece c next m e = step_digit literal high piece c next m e
step literal Unicode piece c next m e =
    elim (chosen (c == 123) (Some (Digits 0 0)) None (Some next) e) [
      | inl k ↦
          let b = subst (λ x. Behind literal (piece ++ c ∷ []) (92 ∷ 117 ∷ x ∷ [])) (eqb-true c 123 k.0) (more literal piece (92 ∷ 117 ∷ []) c m.0) in
          subst (λ s. Means literal s (piece ++ c ∷ [])) (some_is (Digits 0 0) next k.1) (record {
            digits = [];
            behind = b;
            allowed = m.1;
            long = refl;
            worth = refl;
            hex = refl;
            few = omega arith;
            last = λ is. absurd (omega arith);
            bound = omega arith;
          })
      | inr k ↦ absurd cc
    ]
step literal (Digits count value) piece c next m e = step_digits literal count value piece c next m e
step literal (Full value) piece c next m e = absurd cc

-- Reading goes on, or stops.

pub content-next : (literal : Literal) (stage : Stage) (c : ℕ) (text : List ℕ) (next : Stage) → next_stage literal stage c ≡ Some next → content literal stage (c ∷ text) ≡ content literal next text
content-next literal stage c text next e =
    ap (λ (o : Option Stage). elim o [ Some following ↦ content literal following text | None ↦ (stage, c ∷ text) ]) e

pub content-stop : (literal : Literal) (stage : Stage) (c : ℕ) (text : List ℕ) → next_stage literal stage c ≡ None → content literal stage (c ∷ text) ≡ (stage, c ∷ text)
content-stop literal stage c text e =
    ap (λ (o : Option Stage). elim o [ Some following ↦ content literal following text | None ↦ (stage, c ∷ text) ]) e

-- what is read means its stage
abbrev pub Meant : Literal → List ℕ → List ℕ → Stage × List ℕ → Type 0
Meant literal piece text read =
    (inner : List ℕ) × (text ≡ inner ++ read.1) × Means literal read.0 (piece ++ inner)

pub content-means : (literal : Literal) (stage : Stage) (piece text : List ℕ) → Means literal stage piece → Meant literal piece text (content literal stage text)
content-means literal stage piece [] m = ([], refl, subst (Means literal stage) (sym (append-nil piece)) m)
content-means literal stage piece (c ∷ text) m = elim (tell (next_stage literal stage c)) [
  | inl none ↦
      subst (Meant literal piece (c ∷ text)) (sym (content-stop literal stage c text none)) ([], refl, subst (Means literal stage) (sym (append-nil piece)) m)
  | inr found ↦
      let others = content-means literal found.0 (piece ++ c ∷ []) text (step literal stage piece c found.0 m found.1) in
      subst (Meant literal piece (c ∷ text)) (sym (content-next literal stage c text found.0 found.1))
      (c ∷ others.0, ap (λ (t : List ℕ). c ∷ t) others.1, subst (Means literal (content literal found.0 text).0) (append_assoc piece (c ∷ []) others.0) others.2)
]
