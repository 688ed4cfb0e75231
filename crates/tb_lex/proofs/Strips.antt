-- Words at the front of a text.
use Rattle.std.proofs.Common.{◌≡◌, ℕ, ◌+◌, ◌<◌, Bool, true, false, ◌==◌, List, [], ◌∷◌, length, drop, get_or, eqb, Option, Some, None, refl, ap, sym, ◌∙◌, arith, inl, inr, suc, add-one}
use Rattle.std.proofs.Math.Seq.{drop-cons}
use Rattle.std.specs.Str.{bytes_eq}
use Rattle.std.proofs.lemmas.Bool.{cases_Bool, ne_eqb}
use Rattle.tb_lex.specs.Characters.{begins, tail}
use Rattle.tb_lex.specs.Tables.{strip}

-- the next character of a word does not stand there
strip-other : (d : ℕ) (word text : List ℕ) → begins d text ≡ false → strip (d ∷ word) text ≡ None
strip-other d word [] e = refl
strip-other d word (c ∷ text) e = rw e refl

-- it does
strip-same : (d : ℕ) (word text : List ℕ) → begins d text ≡ true → strip (d ∷ word) text ≡ strip word (tail text)
strip-same d word [] e = absurd cc
strip-same d word (c ∷ text) e = rw e refl

pub strip-stops : (word text : List ℕ) (i : ℕ) → i < length word → begins (get_or word i 0) text ≡ false → strip (drop i word) text ≡ None
strip-stops word text i h e =
    ap (λ (w : List ℕ). strip w text) (drop-cons word i 0 h) ∙ strip-other (get_or word i 0) (drop (suc i) word) text e

pub strip-goes : (word text : List ℕ) (i : ℕ) → i < length word → begins (get_or word i 0) text ≡ true → strip (drop i word) text ≡ strip (drop (i + 1) word) (tail text)
strip-goes word text i h e =
    ap (λ (w : List ℕ). strip w text) (drop-cons word i 0 h) ∙ strip-same (get_or word i 0) (drop (suc i) word) text e
    ∙ ap (λ (n : ℕ). strip (drop n word) (tail text)) (sym (add-one i))

pub ruleset steps = (strip-stops, strip-goes)

abbrev is_done : Option (List ℕ) → Bool
is_done None = false
is_done (Some []) = true
is_done (Some (c ∷ rest)) = false

-- a text is a word where the word leaves nothing
is_done-strip : (word text : List ℕ) → bytes_eq text word ≡ is_done (strip word text)
is_done-strip [] [] = refl
is_done-strip [] (c ∷ text) = refl
is_done-strip (d ∷ word) [] = refl
is_done-strip (d ∷ word) (c ∷ text) = elim (cases_Bool (c == d)) [
  | inl is ↦ rw is (is_done-strip word text)
  | inr other ↦ rw other refl
]

pub whole-some : (word text rest : List ℕ) → strip word text ≡ Some rest → bytes_eq text word ≡ eqb (length rest) 0
whole-some word text [] e = is_done-strip word text ∙ ap is_done e
whole-some word text (c ∷ rest) e = is_done-strip word text ∙ ap is_done e ∙ sym (ne_eqb (length (c ∷ rest)) 0 (λ h. absurd (omega arith)))

pub whole-none : (word text : List ℕ) → strip word text ≡ None → bytes_eq text word ≡ false
whole-none word text e = is_done-strip word text ∙ ap is_done e

pub ruleset whole = (whole-some, whole-none)
