-- Which characters are of which class.
use Rattle.std.proofs.Common.{◌≡◌, inl, inr, ℕ, ◌<◌, Bool, true, false, ◌||◌, ◌==◌, ap, sym, ◌∙◌, arith, lit<, eqb-true}
use Rattle.std.specs.Char.{is_ascii_digit, is_ascii_alphabetic}
use Rattle.std.specs.Int.{is_in_range}
use Rattle.std.proofs.lemmas.Bool.{cases_Bool}
use Rattle.std.proofs.lemmas.Bool.Decides.{nat_tests}
use Rattle.unicode_ident.specs.Ident.{is_xid_start}
use Rattle.unicode_ident.proofs.IdentLemmas.{is_xid_start-ascii, is_xid_continue-ascii, is_xid_start-is_xid_continue}
use Rattle.tb_lex.specs.Characters.{is_space, is_start, is_continue}
use Rattle.tb_lex.proofs.Cases.{either}

-- ASCII's letters and `_`
pub start-ascii : (c : ℕ) → c < 128 → is_start c ≡ (is_ascii_alphabetic c || c == 95)
start-ascii c h = ap (λ (b : Bool). b || c == 95) (is_xid_start-ascii c h)

pub start-continue : (c : ℕ) → is_start c ≡ true → is_continue c ≡ true
start-continue c e = elim (either (is_xid_start c) (c == 95) e) [
  | inl is ↦ is_xid_start-is_xid_continue c is
  | inr is ↦
      let same : c ≡ 95 = eqb-true c 95 is in
      rw same (is_xid_continue-ascii 95 (lit< tt))
]

-- a character with which identifiers begin is none of these
pub start-space : (c : ℕ) → is_start c ≡ true → is_space c ≡ false
start-space c e = elim (cases_Bool (is_space c)) [
  | inr other ↦ other
  | inl is ↦
      let low : c < 128 = grind (arith, nat_tests) in
      let letter : (is_ascii_alphabetic c || c == 95) ≡ true = sym (start-ascii c low) ∙ e in
      absurd (grind (arith, nat_tests))
]

pub start-digit : (c : ℕ) → is_start c ≡ true → is_ascii_digit c ≡ false
start-digit c e = elim (cases_Bool (is_ascii_digit c)) [
  | inr other ↦ other
  | inl is ↦
      let low : c < 128 = grind (arith, nat_tests) in
      let letter : (is_ascii_alphabetic c || c == 95) ≡ true = sym (start-ascii c low) ∙ e in
      absurd (grind (arith, nat_tests))
]

pub start-not : (c d : ℕ) → is_start d ≡ false → is_start c ≡ true → (c == d) ≡ false
start-not c d other e = elim (cases_Bool (c == d)) [
  | inr differs ↦ differs
  | inl is ↦
      let same : c ≡ d = eqb-true c d is in
      let both : true ≡ false = sym e ∙ ap is_start same ∙ other in
      absurd cc
]

pub not_start-39 : is_start 39 ≡ false
not_start-39 = start-ascii 39 (lit< tt)

pub not_start-34 : is_start 34 ≡ false
not_start-34 = start-ascii 34 (lit< tt)

pub not_start-47 : is_start 47 ≡ false
not_start-47 = start-ascii 47 (lit< tt)

pub not_start-92 : is_start 92 ≡ false
not_start-92 = start-ascii 92 (lit< tt)

pub not_continue-39 : is_continue 39 ≡ false
not_continue-39 = is_xid_continue-ascii 39 (lit< tt)

pub start-98 : is_start 98 ≡ true
start-98 = start-ascii 98 (lit< tt)

pub letter-start : (c : ℕ) → is_ascii_alphabetic c ≡ true → is_start c ≡ true
letter-start c e =
    let low : c < 128 = grind (arith, nat_tests) in
    start-ascii c low ∙ ap (λ (b : Bool). b || c == 95) e

pub digit-continue : (c : ℕ) → is_ascii_digit c ≡ true → is_continue c ≡ true
digit-continue c e =
    let low : c < 128 = grind (arith, nat_tests) in
    is_xid_continue-ascii c low ∙ ap (λ (b : Bool). (b || is_in_range 65 90 c || is_in_range 97 122 c) || c == 95) e

pub digit-space : (c : ℕ) → is_ascii_digit c ≡ true → is_space c ≡ false
digit-space c e = elim (cases_Bool (is_space c)) [ inr other ↦ other | inl is ↦ absurd (grind (arith, nat_tests)) ]
