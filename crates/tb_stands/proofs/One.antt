-- Only one set of tags is folded.
use Rattle.std.proofs.Common.{◌≡◌, ◌∙◌, ◌||◌, ℕ, zero, suc, ◌+◌, ◌<◌, ◌≤◌, Bool, true, false, cond, List, [], ◌∷◌, map, filter, reverse, find, Option, Some, refl, ap, sym, arith, inl, inr}
use Rattle.std.specs.Prelude.{option_map}
use Rattle.std.specs.List.{list_any, AllByRecursion}
use Rattle.std.proofs.lemmas.Bool.{eqb-true, eq-eqb, or_left, or_right}
use Rattle.tb_perm.specs.Rows.{Row, is_tag, HasTag, IsRows, path_from}
use Rattle.tb_perm.specs.Release.{is_below}
use Rattle.tb_perm.proofs.Unique.{AllByRecursion-path_from, AllByRecursion-reverse}
use Rattle.tb_stands.specs.Restricted.{is_kept, nearest, raised, restricted}
use Rattle.tb_stands.specs.Stands.{MayMiss}
use Rattle.tb_stands.specs.Folded.{must_stay, IsFolded}
use Rattle.tb_stands.proofs.Below.{not_both, below_less}

-- a number above all tags
pub above_all : (rows : List Row) → (n : ℕ) × ((t : ℕ) → HasTag rows t → t < n)
above_all [] = (0, λ t has. absurd (not_both false has refl))
above_all (row ∷ rows) = more (above_all rows)
  where
    more : (n : ℕ) × ((t : ℕ) → HasTag rows t → t < n) → (n : ℕ) × ((t : ℕ) → HasTag (row ∷ rows) t → t < n)
    more rest = (row.tag + 1 + rest.0, λ t has. at t (is_tag t row) refl has)
      where
        at : (t : ℕ) (b : Bool) → is_tag t row ≡ b → (b || list_any (is_tag t) rows) ≡ true → t < row.tag + 1 + rest.0
        at t true is has = let same : row.tag ≡ t = eqb-true row.tag t is in omega (arith, same)
        at t false is has = let less : t < rest.0 = rest.1 t has in omega (arith, less)

-- whether a tag may be missing depends on what is below it
pub miss_same : (a b : ℕ → Bool) (size : ℕ) (rows : List Row) (t : ℕ) → ((u : ℕ) → HasTag rows u → is_below rows t u ≡ true → a u ≡ b u) → MayMiss a size rows t → MayMiss b size rows t
miss_same a b size rows t same (inl bare) = inl (λ u has is. at u has is (is_below rows t u) refl)
  where
    at : (u : ℕ) → HasTag rows u → b u ≡ true → (c : Bool) → is_below rows t u ≡ c → is_below rows t u ≡ false
    at u has is true below = absurd (not_both (is_below rows t u) below (bare u has (same u has below ∙ is)))
    at u has is false none = none
miss_same a b size rows t same (inr some) =
    inr (
      some.0,
      record {
        there = some.1.there;
        keeps = sym (same some.0 some.1.there some.1.below) ∙ some.1.keeps;
        below = some.1.below;
        topmost = λ u has is below. some.1.topmost u has (same u has below ∙ is) below;
        folds = some.1.folds;
      },
    )

module _ (size : ℕ) (rows : List Row) (reached : List ℕ) (is : IsRows size rows) where
  clash : (a b : ℕ → Bool) (t : ℕ) → IsFolded size rows reached a → IsFolded size rows reached b → HasTag rows t → ((u : ℕ) → HasTag rows u → is_below rows t u ≡ true → a u ≡ b u) → a t ≡ false → b t ≡ true → ⊥
  clash a b t folded_a folded_b has same go stay = at (must_stay rows reached t) refl
    where
      at : (c : Bool) → must_stay rows reached t ≡ c → ⊥
      at true must = not_both (a t) (folded_a.must t has must) go
      at false free = not_both (b t) stay (folded_b.all_go t has free (miss_same a b size rows t same (folded_a.goes t has go)))

  one_at : (a b : ℕ → Bool) (t : ℕ) → IsFolded size rows reached a → IsFolded size rows reached b → HasTag rows t → ((u : ℕ) → HasTag rows u → is_below rows t u ≡ true → a u ≡ b u) → a t ≡ b t
  one_at a b t folded_a folded_b has same = at (a t) refl (b t) refl
    where
      at : (c : Bool) → a t ≡ c → (d : Bool) → b t ≡ d → a t ≡ b t
      at true is_a true is_b = is_a ∙ sym is_b
      at false is_a false is_b = is_a ∙ sym is_b
      at false is_a true is_b = absurd (clash a b t folded_a folded_b has same is_a is_b)
      at true is_a false is_b = absurd (clash b a t folded_b folded_a has (λ u has_u below. sym (same u has_u below)) is_b is_a)

  one_from : (a b : ℕ → Bool) → IsFolded size rows reached a → IsFolded size rows reached b → (n t : ℕ) → (above_all rows).0 ≤ t + n → HasTag rows t → a t ≡ b t
  one_from a b folded_a folded_b zero t high has = let less : t < (above_all rows).0 = (above_all rows).1 t has in absurd (omega (arith, high, less))
  one_from a b folded_a folded_b (suc n) t high has =
      one_at a b t folded_a folded_b has
      (λ u has_u below.
      let less : t < u = below_less size rows t u is below in
      one_from a b folded_a folded_b n u (omega (arith, high, less)) has_u)

  pub one_folded : (a b : ℕ → Bool) → IsFolded size rows reached a → IsFolded size rows reached b → (t : ℕ) → HasTag rows t → a t ≡ b t
  one_folded a b folded_a folded_b t has = one_from a b folded_a folded_b (above_all rows).0 t (omega arith) has

find_agree : (p q : Row → Bool) (xs : List Row) → AllByRecursion (λ (x : Row). p x ≡ q x) xs → find p xs ≡ find q xs
find_agree p q [] all = refl
find_agree p q (x ∷ xs) all = ap (λ b. cond b (Some x) (find p xs)) all.0 ∙ ap (λ o. cond (q x) (Some x) o) (find_agree p q xs all.1)

filter_agree : (p q : Row → Bool) (xs : List Row) → AllByRecursion (λ (x : Row). p x ≡ q x) xs → filter p xs ≡ filter q xs
filter_agree p q [] all = refl
filter_agree p q (x ∷ xs) all = ap (λ b. cond b (x ∷ filter p xs) (filter p xs)) all.0 ∙ ap (λ ys. cond (q x) (x ∷ ys) ys) (filter_agree p q xs all.1)

map_agree : (f g : Row → Row) → ((x : Row) → f x ≡ g x) → (xs : List Row) → map f xs ≡ map g xs
map_agree f g same [] = refl
map_agree f g same (x ∷ xs) = ap (λ y. y ∷ map f xs) (same x) ∙ ap (λ ys. g x ∷ ys) (map_agree f g same xs)

agree_all : (a b : ℕ → Bool) (rows : List Row) → ((t : ℕ) → HasTag rows t → a t ≡ b t) → AllByRecursion (λ (x : Row). a x.tag ≡ b x.tag) rows
agree_all a b [] same = tt
agree_all a b (row ∷ rows) same = (same row.tag (or_left _ _ (eq-eqb row.tag row.tag refl)), agree_all a b rows (λ t has. same t (or_right (is_tag t row) _ has)))

pub nearest_agree : (a b : ℕ → Bool) (rows : List Row) → ((t : ℕ) → HasTag rows t → a t ≡ b t) → (o : Option ℕ) → nearest a (reverse rows) o ≡ nearest b (reverse rows) o
nearest_agree a b rows same o =
    ap (option_map (λ (row : Row). row.tag)) (find_agree (is_kept a) (is_kept b) (path_from (reverse rows) o) (AllByRecursion-path_from (λ (x : Row). a x.tag ≡ b x.tag) (reverse rows) o (AllByRecursion-reverse (λ (x : Row). a x.tag ≡ b x.tag) rows (agree_all a b rows same))))

-- the kept rows depend on the tags of the rows alone
pub restricted_agree : (a b : ℕ → Bool) (rows : List Row) → ((t : ℕ) → HasTag rows t → a t ≡ b t) → restricted a rows ≡ restricted b rows
restricted_agree a b rows same =
    ap (map (raised a rows)) (filter_agree (is_kept a) (is_kept b) rows (agree_all a b rows same))
    ∙ map_agree (raised a rows) (raised b rows) (λ x. ap (λ o. record x { parent = o }) (nearest_agree a b rows same x.parent)) (filter (is_kept b) rows)
