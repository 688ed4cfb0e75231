-- The greatest tag of some rows.
use Rattle.std.proofs.Common.{◌≡◌, ◌∙◌, ℕ, ◌+◌, ◌<◌, ◌≤◌, ◌||◌, Bool, true, false, cond, List, [], ◌∷◌, ◌++◌, length, take, refl, ap, sym, subst, arith, Option, Some, None, nat_lt, ◌==◌, slice_index_or}
use Rattle.std.specs.List.{AllByRecursion}
use Rattle.std.proofs.lemmas.Bool.{eq-eqb, ltb-true, ltb-false}
use Rattle.std.proofs.lemmas.List.{take_more, map-append}
use Rattle.std.proofs.lemmas.List.Folds.{list_any-append}
use Rattle.tb_perm.specs.declared.tag.Tag.{Tag}
use Rattle.tb_plain.specs.declared.row.PlainRow.{PlainRow}
use Rattle.tb_plain.specs.Sweep.{contains}
use Rattle.tb_plain.specs.Pruning.{tags_of, is_lesser, better_of, IsGreatest}

all_append : (P : PlainRow → Type 0) (xs ys : List PlainRow) → AllByRecursion P xs → AllByRecursion P ys → AllByRecursion P (xs ++ ys)
all_append P [] ys all more = more
all_append P (x ∷ xs) ys all more = (all.0, all_append P xs ys all.1 more)

all_mapped : (P Q : PlainRow → Type 0) (rows : List PlainRow) → ((r : PlainRow) → P r → Q r) → AllByRecursion P rows → AllByRecursion Q rows
all_mapped P Q [] f all = tt
all_mapped P Q (r ∷ rows) f all = (f r all.0, all_mapped P Q rows f all.1)

contains-append : (rows : List PlainRow) (r : PlainRow) (t : ℕ) → contains (tags_of (rows ++ r ∷ [])) t ≡ (contains (tags_of rows) t || ((r.tag.0 == t) || false))
contains-append rows r t = ap (λ ks. contains ks t) (map-append (λ (x : PlainRow). x.tag.0) rows (r ∷ [])) ∙ list_any-append (λ k. k == t) (tags_of rows) (r.tag.0 ∷ [])

or_left : (a b : Bool) → a ≡ true → (a || b) ≡ true
or_left a b h = ap (λ c. c || b) h

or_right : (a b : Bool) → b ≡ true → (a || b) ≡ true
or_right true b h = refl
or_right false b h = h

there_more : (rows : List PlainRow) (r : PlainRow) (t : ℕ) → contains (tags_of rows) t ≡ true → contains (tags_of (rows ++ r ∷ [])) t ≡ true
there_more rows r t has = contains-append rows r t ∙ or_left _ _ has

there_last : (rows : List PlainRow) (r : PlainRow) → contains (tags_of (rows ++ r ∷ [])) r.tag.0 ≡ true
there_last rows r = contains-append rows r r.tag.0 ∙ or_right _ _ (or_left _ _ (eq-eqb r.tag.0 r.tag.0 refl))

-- one more row
greatest_push : (bound : Option Tag) (rows : List PlainRow) (best : Option Tag) (r : PlainRow) → IsGreatest bound rows best → IsGreatest bound (rows ++ r ∷ []) (better_of bound best r.tag)
greatest_push bound rows None r is = at (is_lesser bound r.tag) refl
  where
    at : (b : Bool) → is_lesser bound r.tag ≡ b → IsGreatest bound (rows ++ r ∷ []) (cond b (Some r.tag) None)
    at true lesser = (
      there_last rows r,
      lesser,
      all_append (λ (x : PlainRow). is_lesser bound x.tag ≡ true → x.tag.0 ≤ r.tag.0) rows (r ∷ []) (all_mapped (λ (x : PlainRow). is_lesser bound x.tag ≡ false) (λ (x : PlainRow). is_lesser bound x.tag ≡ true → x.tag.0 ≤ r.tag.0) rows (λ x no_less less. let clash : false ≡ true = sym no_less ∙ less in absurd (cc)) is) (λ less. omega arith, tt),
    )
    at false greater = all_append (λ (x : PlainRow). is_lesser bound x.tag ≡ false) rows (r ∷ []) is (greater, tt)
greatest_push bound rows (Some t) r is = at (is_lesser bound r.tag) refl (nat_lt t.0 r.tag.0) refl
  where
    at : (b : Bool) → is_lesser bound r.tag ≡ b → (c : Bool) → nat_lt t.0 r.tag.0 ≡ c → IsGreatest bound (rows ++ r ∷ []) (cond b (Some (cond c r.tag t)) (Some t))
    at true lesser true more = (
      there_last rows r,
      lesser,
      all_append (λ (x : PlainRow). is_lesser bound x.tag ≡ true → x.tag.0 ≤ r.tag.0) rows (r ∷ []) (all_mapped (λ (x : PlainRow). is_lesser bound x.tag ≡ true → x.tag.0 ≤ t.0) (λ (x : PlainRow). is_lesser bound x.tag ≡ true → x.tag.0 ≤ r.tag.0) rows (λ x below less. omega (arith, below less, ltb-true t.0 r.tag.0 more)) is.2) (λ less. omega arith, tt),
    )
    at true lesser false more = (
      there_more rows r t.0 is.0,
      is.1,
      all_append (λ (x : PlainRow). is_lesser bound x.tag ≡ true → x.tag.0 ≤ t.0) rows (r ∷ []) is.2 (λ less. ltb-false t.0 r.tag.0 more, tt),
    )
    at false greater c more = (
      there_more rows r t.0 is.0,
      is.1,
      all_append (λ (x : PlainRow). is_lesser bound x.tag ≡ true → x.tag.0 ≤ t.0) rows (r ∷ []) is.2 (λ less. let clash : false ≡ true = sym greater ∙ less in absurd (cc), tt),
    )

pub IsGreatest-more : (bound : Option Tag) (rows : List PlainRow) (i : ℕ) (best : Option Tag) (r : PlainRow) → i < length rows → r ≡ slice_index_or rows i r → IsGreatest bound (take i rows) best → IsGreatest bound (take (i + 1) rows) (better_of bound best r.tag)
IsGreatest-more bound rows i best r within is so_far =
    subst (λ xs. IsGreatest bound xs (better_of bound best r.tag)) (sym (take_more rows i r within ∙ ap (λ x. take i rows ++ x ∷ []) (sym is))) (greatest_push bound (take i rows) best r so_far)
