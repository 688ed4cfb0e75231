-- Going over a list of values that mention.
use Rattle.std.proofs.Common.{◌≡◌, ℕ, suc, ◌+◌, ◌<◌, List, [], ◌∷◌, ◌++◌, map, drop, length, get_or, sym, ap, ◌∙◌, arith, drop-cons}
use Rattle.std.proofs.lemmas.List.{append_assoc}
use Rattle.tb_outline.specs.Outlines.{Outline, StepOf, joined}

-- one of several values is noted
pub note_next : {A : Type 0} (f : A → Outline) (values : List A) (at : ℕ) (value : A)
    → at < length values → value ≡ get_or values at value
    → (before after start : Outline) → after ≡ before ++ f value
    → before ++ joined (map f (drop at values)) ≡ start
    → after ++ joined (map f (drop (at + 1) values)) ≡ start
note_next f values at value inside is before after start first whole =
    let one : at + 1 ≡ suc at = omega arith in
    let rest : Outline = joined (map f (drop (suc at) values)) in
    ap (λ n. after ++ joined (map f (drop n values))) one
    ∙ ap (λ xs. xs ++ rest) first
    ∙ append_assoc before (f value) rest
    ∙ ap (λ xs. before ++ xs) (sym (ap (λ vs. joined (map f vs)) (drop-cons values at value inside ∙ ap (λ v. v ∷ drop (suc at) values) (sym is))))
    ∙ whole

-- one of several mentions is noted
pub note_one : {A : Type 0} (f : A → StepOf) (values : List A) (at : ℕ) (value : A)
    → at < length values → value ≡ get_or values at value
    → (before after start : Outline) → after ≡ before ++ f value ∷ []
    → before ++ map f (drop at values) ≡ start
    → after ++ map f (drop (at + 1) values) ≡ start
note_one f values at value inside is before after start first whole =
    let one : at + 1 ≡ suc at = omega arith in
    let rest : Outline = map f (drop (suc at) values) in
    ap (λ n. after ++ map f (drop n values)) one
    ∙ ap (λ xs. xs ++ rest) first
    ∙ append_assoc before (f value ∷ []) rest
    ∙ ap (λ xs. before ++ xs) (sym (ap (λ vs. map f vs) (drop-cons values at value inside ∙ ap (λ v. v ∷ drop (suc at) values) (sym is))))
    ∙ whole
