-- Rows that are changed one by one and keep their tags and parents; with it the rows at one byte.
use Rattle.std.proofs.Common.{◌≡◌, ◌∙◌, ◌||◌, ℕ, ◌<◌, List, [], ◌∷◌, length, map, reverse, refl, ap, sym, subst, ◌==◌}
use Rattle.std.specs.List.{list_any, AllByRecursion}
use mathlib.Core.List.{reverse_aux}
use Rattle.tb_perm.specs.Rows.{Row, is_tag, HasTag, IsGrown, IsRows}
use Rattle.tb_perm.specs.OneByte.{at_byte}

module _ (f : Row → Row) (tags : (row : Row) → (f row).tag ≡ row.tag) (parents : (row : Row) → (f row).parent ≡ row.parent) where
  pub list_any-changed : (rows : List Row) (t : ℕ) → list_any (is_tag t) (map f rows) ≡ list_any (is_tag t) rows
  list_any-changed [] t = refl
  list_any-changed (row ∷ rows) t = ap (λ k. (k == t) || list_any (is_tag t) (map f rows)) (tags row) ∙ ap (λ b. (row.tag == t) || b) (list_any-changed rows t)

  below_changed : (k : ℕ) (rows : List Row) → AllByRecursion (λ (o : Row). o.tag < k) rows → AllByRecursion (λ (o : Row). o.tag < k) (map f rows)
  below_changed k [] all = tt
  below_changed k (row ∷ rows) all = (subst (λ n. n < k) (sym (tags row)) all.0, below_changed k rows all.1)

  IsGrown-changed : (rows : List Row) → IsGrown rows → IsGrown (map f rows)
  IsGrown-changed [] grown = grown
  IsGrown-changed (row ∷ []) grown = parents row ∙ grown
  IsGrown-changed (row ∷ next ∷ older) grown = (
    record {
      above = subst (λ k. AllByRecursion (λ (o : Row). o.tag < k) (map f (next ∷ older))) (sym (tags row)) (below_changed row.tag (next ∷ older) grown.0.above);
      parent = grown.0.parent;
      is_parent = parents row ∙ grown.0.is_parent;
      has_parent = list_any-changed (next ∷ older) grown.0.parent ∙ grown.0.has_parent;
    },
    IsGrown-changed (next ∷ older) grown.1,
  )

  reverse_changed : (xs ys : List Row) → reverse_aux (map f xs) (map f ys) ≡ map f (reverse_aux xs ys)
  reverse_changed [] ys = refl
  reverse_changed (x ∷ xs) ys = reverse_changed xs (x ∷ ys)

  -- they are rows of an allocation, where their states are as many as it has bytes
  pub IsRows-changed : (size now : ℕ) (rows : List Row) → IsRows size rows → AllByRecursion (λ (row : Row). length row.states ≡ now) (map f rows) → IsRows now (map f rows)
  IsRows-changed size now rows is sized =
      record {
        grown = subst IsGrown (sym (reverse_changed rows [])) (IsGrown-changed (reverse rows) is.grown);
        sized = sized;
      }

-- the rows at one byte are the rows of an allocation of one byte
pub IsRows-at_byte : (size byte : ℕ) (rows : List Row) → IsRows size rows → IsRows 1 (map (at_byte byte) rows)
IsRows-at_byte size byte rows is = IsRows-changed (at_byte byte) (λ row. refl) (λ row. refl) size 1 rows is (sized rows)
  where
    sized : (xs : List Row) → AllByRecursion (λ (row : Row). length row.states ≡ 1) (map (at_byte byte) xs)
    sized [] = tt
    sized (x ∷ xs) = (refl, sized xs)

-- a tag has a row there where it has one
pub HasTag-at_byte : (byte : ℕ) (rows : List Row) (t : ℕ) → HasTag rows t → HasTag (map (at_byte byte) rows) t
HasTag-at_byte byte rows t has = list_any-changed (at_byte byte) (λ row. refl) (λ row. refl) rows t ∙ has
