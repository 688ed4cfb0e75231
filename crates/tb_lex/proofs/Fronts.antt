-- The longest front of characters that pass a test, and what follows it.
use Rattle.std.proofs.Common.{◌≡◌, ℕ, ◌+◌, ◌-◌, ◌≤◌, Bool, true, false, List, [], ◌∷◌, ◌++◌, length, take, refl, ap, ◌∙◌, arith, inl, inr, length-append}
use Rattle.std.specs.List.{list_all}
use Rattle.std.proofs.lemmas.Bool.{cases_Bool}
use Rattle.std.proofs.lemmas.List.{take_at}
use Rattle.tb_lex.specs.Characters.{begins_by, front, after_front}
use Rattle.tb_lex.proofs.Cases.{both}

pub front-parts : (p : ℕ → Bool) (text : List ℕ) → text ≡ front p text ++ after_front p text
front-parts p [] = refl
front-parts p (c ∷ text) = elim (cases_Bool (p c)) [
  | inl is ↦ rw is (ap (λ (t : List ℕ). c ∷ t) (front-parts p text))
  | inr other ↦ rw other refl
]

-- the front is what the rest leaves
pub front-cut : (p : ℕ → Bool) (text : List ℕ) → take (length text - length (after_front p text)) text ≡ front p text
front-cut p text =
    let parts : text ≡ front p text ++ after_front p text = front-parts p text in
    let long : length text ≡ length (front p text) + length (after_front p text) = ap length parts ∙ length-append (front p text) (after_front p text) in
    let count : length (front p text) ≡ length text - length (after_front p text) = omega arith in
    ap (take (length text - length (after_front p text))) parts ∙ take_at (front p text) (after_front p text) (length text - length (after_front p text)) count

pub front-next : (p : ℕ → Bool) (text : List ℕ) → begins_by p (after_front p text) ≡ false
front-next p [] = refl
front-next p (c ∷ text) = elim (cases_Bool (p c)) [
  | inl is ↦ rw is (front-next p text)
  | inr other ↦ rw other other
]

pub front-all : (p : ℕ → Bool) (text : List ℕ) → list_all p (front p text) ≡ true
front-all p [] = refl
front-all p (c ∷ text) = elim (cases_Bool (p c)) [
  | inl is ↦ rw is (rw is (front-all p text))
  | inr other ↦ rw other refl
]

-- characters that pass, with none behind them, are read whole
pub front-again : (p : ℕ → Bool) (word rest : List ℕ) → list_all p word ≡ true → begins_by p rest ≡ false → (front p (word ++ rest) ≡ word) × (after_front p (word ++ rest) ≡ rest)
front-again p [] [] all next = (refl, refl)
front-again p [] (c ∷ rest) all next = (rw next refl, rw next refl)
front-again p (c ∷ word) rest all next =
    let parts = both (p c) (list_all p word) all in
    let others = front-again p word rest parts.1 next in
    (rw parts.0 (ap (λ (t : List ℕ). c ∷ t) others.0), rw parts.0 others.1)

-- characters that pass are no more than the longest front
pub front-longest : (p : ℕ → Bool) (word rest : List ℕ) → list_all p word ≡ true → length (after_front p (word ++ rest)) ≤ length rest
front-longest p [] [] all = omega arith
front-longest p [] (c ∷ rest) all = elim (cases_Bool (p c)) [
  | inl is ↦ let h = front-longest p [] rest refl in rw is (omega arith)
  | inr other ↦ rw other (omega arith)
]
front-longest p (c ∷ word) rest all =
    let parts = both (p c) (list_all p word) all in
    rw parts.0 (front-longest p word rest parts.1)

pub ruleset cuts = (front-cut)
