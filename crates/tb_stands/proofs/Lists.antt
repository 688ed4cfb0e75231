-- Lists of rows that are changed one by one and of which some are left out.
use Rattle.std.proofs.Common.{◌≡◌, ◌∙◌, ◌||◌, ℕ, Bool, true, false, cond, List, [], ◌∷◌, map, filter, refl, ap, sym, Option, Some, None, find, ◌==◌}
use Rattle.std.specs.Prelude.{option_map, is_some}
use Rattle.std.specs.List.{list_any}
use mathlib.Core.List.{reverse_aux}
use Rattle.tb_perm.specs.Rows.{Row, path_from}

-- the rows that pass a test, changed
abbrev pub some_of : (Row → Bool) → (Row → Row) → List Row → List Row
some_of p f rows = map f (filter p rows)

-- a list is a row in front of another, or that other
abbrev pub front : Bool → Row → List Row → List Row
front b row rows = cond b (row ∷ rows) rows

pub some_of-step : (p : Row → Bool) (f : Row → Row) (row : Row) (rows : List Row) → some_of p f (row ∷ rows) ≡ front (p row) (f row) (some_of p f rows)
some_of-step p f row rows = at (p row)
  where
    at : (b : Bool) → map f (cond b (row ∷ filter p rows) (filter p rows)) ≡ front b (f row) (some_of p f rows)
    at true = refl
    at false = refl

-- read from the other end
pub reverse_some : (p : Row → Bool) (f : Row → Row) (xs ys : List Row) → reverse_aux (some_of p f xs) (some_of p f ys) ≡ some_of p f (reverse_aux xs ys)
reverse_some p f [] ys = refl
reverse_some p f (x ∷ xs) ys = ap (λ zs. reverse_aux zs (some_of p f ys)) (some_of-step p f x xs) ∙ at (p x) refl (reverse_some p f xs (x ∷ ys))
  where
    at : (b : Bool) → p x ≡ b → reverse_aux (some_of p f xs) (some_of p f (x ∷ ys)) ≡ some_of p f (reverse_aux xs (x ∷ ys)) → reverse_aux (front b (f x) (some_of p f xs)) (some_of p f ys) ≡ some_of p f (reverse_aux xs (x ∷ ys))
    at true is later = ap (λ b. reverse_aux (some_of p f xs) (front b (f x) (some_of p f ys))) (sym is) ∙ ap (reverse_aux (some_of p f xs)) (sym (some_of-step p f x ys)) ∙ later
    at false is later = ap (λ b. reverse_aux (some_of p f xs) (front b (f x) (some_of p f ys))) (sym is) ∙ ap (reverse_aux (some_of p f xs)) (sym (some_of-step p f x ys)) ∙ later

-- a search among all rows changed one by one
pub find_changed : (q r : Row → Bool) (f : Row → Row) → ((row : Row) → q (f row) ≡ r row) → (rows : List Row) → find q (map f rows) ≡ option_map f (find r rows)
find_changed q r f same [] = refl
find_changed q r f same (row ∷ rows) = ap (λ b. cond b (Some (f row)) (find q (map f rows))) (same row) ∙ at (r row) (find_changed q r f same rows)
  where
    at : (b : Bool) → find q (map f rows) ≡ option_map f (find r rows) → cond b (Some (f row)) (find q (map f rows)) ≡ option_map f (cond b (Some row) (find r rows))
    at true later = refl
    at false later = later

-- a search among some of the rows finds what is found among all, where that is one of them
pub find_some : (q r p : Row → Bool) (f : Row → Row) → ((row : Row) → p row ≡ true → q (f row) ≡ r row) → (rows : List Row) → ((row : Row) → find r rows ≡ Some row → p row ≡ true) → find q (some_of p f rows) ≡ option_map f (find r rows)
find_some q r p f same [] kept = refl
find_some q r p f same (row ∷ rows) kept = ap (find q) (some_of-step p f row rows) ∙ at (r row) refl (p row) refl kept (find_some q r p f same rows)
  where
    at : (b : Bool) → r row ≡ b → (c : Bool) → p row ≡ c → ((x : Row) → cond b (Some row) (find r rows) ≡ Some x → p x ≡ true) → (((x : Row) → find r rows ≡ Some x → p x ≡ true) → find q (some_of p f rows) ≡ option_map f (find r rows)) → find q (front c (f row) (some_of p f rows)) ≡ option_map f (cond b (Some row) (find r rows))
    at true is true keeps kept later = ap (λ b. cond b (Some (f row)) (find q (some_of p f rows))) (same row keeps ∙ is)
    at true is false keeps kept later = let clash : false ≡ true = sym keeps ∙ kept row refl in cc
    at false is true keeps kept later = ap (λ b. cond b (Some (f row)) (find q (some_of p f rows))) (same row keeps ∙ is) ∙ later kept
    at false is false keeps kept later = later kept

-- a search for kept rows alone
pub find_both : (q p : Row → Bool) (f : Row → Row) (r : Row → Bool) → ((row : Row) → cond (p row) (q (f row)) false ≡ r row) → (rows : List Row) → find q (some_of p f rows) ≡ option_map f (find r rows)
find_both q p f r same [] = refl
find_both q p f r same (row ∷ rows) =
    ap (find q) (some_of-step p f row rows)
    ∙ at (p row) (q (f row)) refl (find_both q p f r same rows)
    ∙ ap (λ b. option_map f (cond b (Some row) (find r rows))) (same row)
  where
    at : (b c : Bool) → q (f row) ≡ c → find q (some_of p f rows) ≡ option_map f (find r rows) → find q (front b (f row) (some_of p f rows)) ≡ option_map f (cond (cond b c false) (Some row) (find r rows))
    at true true is later = ap (λ d. cond d (Some (f row)) (find q (some_of p f rows))) is
    at true false is later = ap (λ d. cond d (Some (f row)) (find q (some_of p f rows))) is ∙ later
    at false c is later = later

-- whether some row passes is whether one is found
pub any_find : (q : Row → Bool) (rows : List Row) → list_any q rows ≡ is_some (find q rows)
any_find q [] = refl
any_find q (row ∷ rows) = at (q row) (any_find q rows)
  where
    at : (b : Bool) → list_any q rows ≡ is_some (find q rows) → (b || list_any q rows) ≡ is_some (cond b (Some row) (find q rows))
    at true later = refl
    at false later = later

pub some_map : (f : Row → Row) (o : Option Row) → is_some (option_map f o) ≡ is_some o
some_map f None = refl
some_map f (Some row) = refl

-- a path among rows that are changed one by one, and keep their tags and parents
pub path_changed : (f : Row → Row) → ((row : Row) → (f row).tag ≡ row.tag) → ((row : Row) → (f row).parent ≡ row.parent) → (rows : List Row) (asked : Option ℕ) → path_from (map f rows) asked ≡ map f (path_from rows asked)
path_changed f tags parents [] asked = refl
path_changed f tags parents (row ∷ rows) None = path_changed f tags parents rows None
path_changed f tags parents (row ∷ rows) (Some t) =
    ap (λ k. cond (k == t) (f row ∷ path_from (map f rows) (f row).parent) (path_from (map f rows) (Some t))) (tags row)
    ∙ at (row.tag == t) (ap (path_from (map f rows)) (parents row) ∙ path_changed f tags parents rows row.parent) (path_changed f tags parents rows (Some t))
  where
    at : (b : Bool) → path_from (map f rows) (f row).parent ≡ map f (path_from rows row.parent) → path_from (map f rows) (Some t) ≡ map f (path_from rows (Some t)) → cond b (f row ∷ path_from (map f rows) (f row).parent) (path_from (map f rows) (Some t)) ≡ map f (cond b (row ∷ path_from rows row.parent) (path_from rows (Some t)))
    at true up on = ap (λ xs. f row ∷ xs) up
    at false up on = on

pub filter_changed : (p : Row → Bool) (f : Row → Row) → ((row : Row) → p (f row) ≡ p row) → (rows : List Row) → filter p (map f rows) ≡ map f (filter p rows)
filter_changed p f same [] = refl
filter_changed p f same (row ∷ rows) = ap (λ b. cond b (f row ∷ filter p (map f rows)) (filter p (map f rows))) (same row) ∙ at (p row) (filter_changed p f same rows)
  where
    at : (b : Bool) → filter p (map f rows) ≡ map f (filter p rows) → cond b (f row ∷ filter p (map f rows)) (filter p (map f rows)) ≡ map f (cond b (row ∷ filter p rows) (filter p rows))
    at true later = ap (λ xs. f row ∷ xs) later
    at false later = later

pub reverse_map : (f : Row → Row) (xs ys : List Row) → reverse_aux (map f xs) (map f ys) ≡ map f (reverse_aux xs ys)
reverse_map f [] ys = refl
reverse_map f (x ∷ xs) ys = reverse_map f xs (x ∷ ys)

-- changed twice, where the changes agree on the rows that are left
pub map_some : (p : Row → Bool) (f g h k : Row → Row) → ((row : Row) → p row ≡ true → f (g row) ≡ h (k row)) → (rows : List Row) → map f (map g (filter p rows)) ≡ map h (map k (filter p rows))
map_some p f g h k same [] = refl
map_some p f g h k same (row ∷ rows) = at (p row) refl (map_some p f g h k same rows)
  where
    at : (b : Bool) → p row ≡ b → map f (map g (filter p rows)) ≡ map h (map k (filter p rows)) → map f (map g (cond b (row ∷ filter p rows) (filter p rows))) ≡ map h (map k (cond b (row ∷ filter p rows) (filter p rows)))
    at true is later = ap (λ x. x ∷ map f (map g (filter p rows))) (same row is) ∙ ap (λ xs. h (k row) ∷ xs) later
    at false is later = later
