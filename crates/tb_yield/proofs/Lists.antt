-- Going over a list of values and the marks between them.
use Rattle.std.proofs.Common.{◌≡◌, ℕ, suc, zero, ◌+◌, ◌<◌, List, [], ◌∷◌, ◌++◌, map, drop, length, get_or, slice_get, refl, sym, ap, ◌∙◌, arith, drop-cons, Result, Ok, Err, OnOk}
use Rattle.std.proofs.lemmas.List.{append_assoc}
use Rattle.tb_perm.specs.declared.span.Span.{Span}
use Rattle.tb_lex.specs.declared.punctuation.Punctuation.{Punctuation}
use Rattle.tb_ast.specs.declared.piece.Piece.{Piece}
use Rattle.tb_ast.specs.Pieces.{optional_mark, separated, in_order}

-- what is left from a place on
first_left : {A : Type 0} (xs : List A) (at : ℕ) → slice_get (drop at xs) 0 ≡ slice_get xs at
first_left [] zero = refl
first_left [] (suc at) = refl
first_left (x ∷ xs) zero = refl
first_left (x ∷ xs) (suc at) = first_left xs at

more_left : {A : Type 0} (xs : List A) (at : ℕ) → drop 1 (drop at xs) ≡ drop (suc at) xs
more_left [] zero = refl
more_left [] (suc at) = refl
more_left (x ∷ xs) zero = refl
more_left (x ∷ xs) (suc at) = more_left xs at

goes_on : {A : Type 0} (f : A → List Piece) (punctuation : Punctuation) (values : List A) (marks : List Span) (at : ℕ) (value : A)
    → at < length values → value ≡ get_or values at value
    → separated punctuation (map f (drop at values)) (drop at marks)
    ≡ f value ++ (optional_mark punctuation (slice_get marks at) ++ separated punctuation (map f (drop (suc at) values)) (drop (suc at) marks))
goes_on f punctuation values marks at value inside is =
    ap (λ vs. separated punctuation (map f vs) (drop at marks)) (drop-cons values at value inside ∙ ap (λ v. v ∷ drop (suc at) values) (sym is))
    ∙ ap (λ m. f value ++ (optional_mark punctuation m ++ separated punctuation (map f (drop (suc at) values)) (drop 1 (drop at marks)))) (first_left marks at)
    ∙ ap (λ ms. f value ++ (optional_mark punctuation (slice_get marks at) ++ separated punctuation (map f (drop (suc at) values)) ms)) (more_left marks at)

-- a value and the mark behind it are put down
pub put_one : {A : Type 0} (f : A → List Piece) (punctuation : Punctuation) (values : List A) (marks : List Span) (at : ℕ) (value : A)
    → at < length values → value ≡ get_or values at value
    → (before between after start : List Piece) → between ≡ before ++ f value → after ≡ between ++ optional_mark punctuation (slice_get marks at)
    → before ++ separated punctuation (map f (drop at values)) (drop at marks) ≡ start
    → after ++ separated punctuation (map f (drop (at + 1) values)) (drop (at + 1) marks) ≡ start
put_one f punctuation values marks at value inside is before between after start first second whole =
    let one : at + 1 ≡ suc at = omega arith in
    let rest : List Piece = separated punctuation (map f (drop (suc at) values)) (drop (suc at) marks) in
    ap (λ n. after ++ separated punctuation (map f (drop n values)) (drop n marks)) one
    ∙ ap (λ xs. xs ++ rest) (second ∙ ap (λ xs. xs ++ optional_mark punctuation (slice_get marks at)) first)
    ∙ append_assoc (before ++ f value) (optional_mark punctuation (slice_get marks at)) rest
    ∙ append_assoc before (f value) (optional_mark punctuation (slice_get marks at) ++ rest)
    ∙ ap (λ xs. before ++ xs) (sym (goes_on f punctuation values marks at value inside is))
    ∙ whole

-- one of several rows is put down
pub put_next : {A : Type 0} (f : A → List Piece) (values : List A) (at : ℕ) (value : A)
    → at < length values → value ≡ get_or values at value
    → (before after start : List Piece) → after ≡ before ++ f value
    → before ++ in_order (map f (drop at values)) ≡ start
    → after ++ in_order (map f (drop (at + 1) values)) ≡ start
put_next f values at value inside is before after start first whole =
    let one : at + 1 ≡ suc at = omega arith in
    let rest : List Piece = in_order (map f (drop (suc at) values)) in
    ap (λ n. after ++ in_order (map f (drop n values))) one
    ∙ ap (λ xs. xs ++ rest) first
    ∙ append_assoc before (f value) rest
    ∙ ap (λ xs. before ++ xs) (sym (ap (λ vs. in_order (map f vs)) (drop-cons values at value inside ∙ ap (λ v. v ∷ drop (suc at) values) (sym is))))
    ∙ whole

-- three rows are put down one behind another
pub put_three : {T E : Type 0} (answer : Result T E) (start one two three first second third : List Piece)
    → one ≡ start ++ first → two ≡ one ++ second → OnOk answer (three ≡ two ++ third) → OnOk answer (three ≡ start ++ (first ++ (second ++ third)))
put_three (Ok value) start one two three first second third a b c =
    c ∙ ap (λ xs. xs ++ third) (b ∙ ap (λ xs. xs ++ second) a)
    ∙ append_assoc (start ++ first) second third ∙ append_assoc start first (second ++ third)
put_three (Err error) start one two three first second third a b c = tt
