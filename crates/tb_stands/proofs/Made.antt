-- A new row among the kept rows and among all.
use Rattle.std.proofs.Common.{◌≡◌, ◌∙◌, ◌⊎◌, ◌||◌, ◌&&◌, ◌++◌, ℕ, ◌<◌, Bool, true, false, cond, not, List, [], ◌∷◌, length, reverse, refl, ap, sym, subst, arith, Option, Some, None, find, inl, inr, ◌==◌}
use Rattle.std.specs.Prelude.{option_map, option_and_then, unwrap_or}
use Rattle.std.specs.List.{list_any, AllByRecursion}
use Rattle.std.proofs.lemmas.Bool.{eqb-true, eq-eqb, ne_eqb, or_left}
use Rattle.std.proofs.lemmas.List.{reverse-append}
use Rattle.std.proofs.lemmas.List.Folds.{list_any-append}
use Rattle.tb_perm.specs.declared.perm.Perm.TheVariants.{Disabled}
use Rattle.tb_perm.specs.declared.perm.Guard.TheVariants.{Free}
use Rattle.tb_perm.specs.Rows.{Row, is_tag, HasTag, path_from, path_to_root, is_on_path, guard_in, state_at}
use Rattle.tb_perm.specs.Release.{is_below}
use Rattle.tb_perm.specs.Table.{is_guarded}
use Rattle.tb_perm.specs.Pruning.{perm_in, parent_in}
use Rattle.tb_perm.specs.Covers.{Covers}
use Rattle.tb_perm.proofs.Kept.{IsRows-append}
use Rattle.tb_perm.proofs.Removed.{below_tag}
use Rattle.tb_perm.proofs.Roots.{parent_lesser}
use Rattle.tb_perm.proofs.Unique.{AreRising-rows, find_self}
use Rattle.tb_stands.specs.Restricted.{is_kept, nearest, raised, restricted}
use Rattle.tb_stands.specs.Stands.{MayMiss, KeepsRoot, StandsBy}
use Rattle.tb_stands.proofs.Lists.{some_of, front, some_of-step}
use Rattle.tb_stands.proofs.Ways.{path_none, passed, nearest_self, has_back}
use Rattle.tb_stands.proofs.Reports.{Among}
use Rattle.tb_stands.proofs.Below.{not_both, below_on, kept_below, kept_differs}

some_append : (p : Row → Bool) (f : Row → Row) (xs ys : List Row) → some_of p f (xs ++ ys) ≡ some_of p f xs ++ some_of p f ys
some_append p f [] ys = refl
some_append p f (x ∷ xs) ys = some_of-step p f x (xs ++ ys) ∙ at (p x) (some_append p f xs ys) ∙ ap (λ zs. zs ++ some_of p f ys) (sym (some_of-step p f x xs))
  where
    at : (b : Bool) → some_of p f (xs ++ ys) ≡ some_of p f xs ++ some_of p f ys → front b (f x) (some_of p f (xs ++ ys)) ≡ front b (f x) (some_of p f xs) ++ some_of p f ys
    at true later = ap (λ zs. f x ∷ zs) later
    at false later = later

pub some_agree : (p : Row → Bool) (f g : Row → Row) (xs : List Row) → AllByRecursion (λ (x : Row). f x ≡ g x) xs → some_of p f xs ≡ some_of p g xs
some_agree p f g [] all = refl
some_agree p f g (x ∷ xs) all =
    some_of-step p f x xs ∙ ap (λ y. front (p x) y (some_of p f xs)) all.0 ∙ ap (front (p x) (g x)) (some_agree p f g xs all.1) ∙ sym (some_of-step p g x xs)

pub find_append : (rows : List Row) (row : Row) (t : ℕ) → HasTag rows t → find (is_tag t) (rows ++ row ∷ []) ≡ find (is_tag t) rows
find_append [] row t has = absurd (cc)
find_append (x ∷ rows) row t has = at (is_tag t x) has (find_append rows row t)
  where
    at : (b : Bool) → (b || list_any (is_tag t) rows) ≡ true → (HasTag rows t → find (is_tag t) (rows ++ row ∷ []) ≡ find (is_tag t) rows) → cond b (Some x) (find (is_tag t) (rows ++ row ∷ [])) ≡ cond b (Some x) (find (is_tag t) rows)
    at true has later = refl
    at false has later = later has

or_parts : (a b : Bool) → (a || b) ≡ false → (a ≡ false) × (b ≡ false)
or_parts true b none = absurd (not_both true refl none)
or_parts false b none = (refl, none)

and_false : (a b : Bool) → b ≡ false → (a && b) ≡ false
and_false true b is = is
and_false false b is = refl

module _ (kept : ℕ → Bool) (size : ℕ) (rows : List Row) (row : Row) (p : ℕ) (stands : StandsBy kept size (restricted kept rows) rows) (above : AllByRecursion (λ (o : Row). o.tag < row.tag) rows) (is_parent : row.parent ≡ Some p) (has : HasTag rows p) (keeps_p : kept p ≡ true) (sized : length row.states ≡ size) where
  abbrev longer : List Row
  longer = rows ++ row ∷ []

  back : reverse (rows ++ row ∷ []) ≡ row ∷ reverse rows
  back = reverse-append rows (row ∷ [])

  older : (t : ℕ) → HasTag rows t → (row.tag == t) ≡ false
  older t there = let less : t < row.tag = below_tag row.tag t rows above there in ne_eqb row.tag t (λ same. absurd (omega (arith, less, same)))

  keeps_new : kept row.tag ≡ true
  keeps_new = stands.unknown row.tag (at (list_any (is_tag row.tag) rows) refl)
    where
      at : (b : Bool) → list_any (is_tag row.tag) rows ≡ b → list_any (is_tag row.tag) rows ≡ false
      at true there = absurd (not_both (row.tag == row.tag) (eq-eqb row.tag row.tag refl) (older row.tag there))
      at false away = away

  -- tags of the appended rows
  has_longer : (t : ℕ) → HasTag rows t → HasTag longer t
  has_longer t there = list_any-append (is_tag t) rows (row ∷ []) ∙ or_left _ _ there

  has_either : (t : ℕ) → HasTag longer t → (row.tag ≡ t) ⊎ HasTag rows t
  has_either t there = at (row.tag == t) refl (list_any (is_tag t) rows) refl (sym (list_any-append (is_tag t) rows (row ∷ [])) ∙ there)
    where
      at : (b : Bool) → (row.tag == t) ≡ b → (c : Bool) → list_any (is_tag t) rows ≡ c → (list_any (is_tag t) rows || ((row.tag == t) || false)) ≡ true → (row.tag ≡ t) ⊎ HasTag rows t
      at true same c is either = inl (eqb-true row.tag t same)
      at false other true is either = inr is
      at false other false is either = let clash : false ≡ true = sym (ap (λ b. b || ((row.tag == t) || false)) is ∙ ap (λ b. b || false) other) ∙ either in cc

  has_dropped : (t : ℕ) → kept t ≡ false → HasTag longer t → HasTag rows t
  has_dropped t drops there = at (has_either t there)
    where
      at : (row.tag ≡ t) ⊎ HasTag rows t → HasTag rows t
      at (inl same) = absurd (kept_differs kept row.tag t keeps_new drops same)
      at (inr before) = before

  -- the paths are the same
  path_before : (u : ℕ) → HasTag rows u → path_to_root longer u ≡ path_to_root rows u
  path_before u there = ap (λ xs. path_from xs (Some u)) back ∙ passed row (reverse rows) u (older u there)

  path_made : path_to_root longer row.tag ≡ row ∷ path_to_root rows p
  path_made =
      ap (λ xs. path_from xs (Some row.tag)) back
      ∙ ap (λ b. cond b (row ∷ path_from (reverse rows) row.parent) (path_from (reverse rows) (Some row.tag))) (eq-eqb row.tag row.tag refl)
      ∙ ap (λ o. row ∷ path_from (reverse rows) o) is_parent

  on_before : (u t : ℕ) → HasTag rows u → is_on_path longer u t ≡ is_on_path rows u t
  on_before u t there = ap (list_any (is_tag t)) (path_before u there)

  on_made : (t : ℕ) → HasTag rows t → is_on_path longer row.tag t ≡ is_on_path rows p t
  on_made t there = ap (list_any (is_tag t)) path_made ∙ ap (λ b. b || is_on_path rows p t) (older t there)

  below_before : (t u : ℕ) → HasTag rows u → is_below longer t u ≡ is_below rows t u
  below_before t u there = ap (λ b. not (u == t) && b) (on_before u t there)

  -- parents are raised as before
  nearest_before : (x : Row) → Among rows x → nearest kept (reverse longer) x.parent ≡ nearest kept (reverse rows) x.parent
  nearest_before x among = at x.parent refl
    where
      up : parent_in rows x.tag ≡ x.parent
      up = ap (option_and_then (λ (y : Row). y.parent)) among

      at : (o : Option ℕ) → x.parent ≡ o → nearest kept (reverse longer) o ≡ nearest kept (reverse rows) o
      at None is = ap (λ xs. option_map (λ (y : Row). y.tag) (find (is_kept kept) xs)) (path_none (reverse longer) ∙ sym (path_none (reverse rows)))
      at (Some q) is = ap (λ xs. option_map (λ (y : Row). y.tag) (find (is_kept kept) xs)) (path_before q (parent_lesser size rows x.tag q stands.sound (up ∙ is)).0)

  raised_before : (xs : List Row) → AllByRecursion (Among rows) xs → AllByRecursion (λ (x : Row). raised kept longer x ≡ raised kept rows x) xs
  raised_before [] all = tt
  raised_before (x ∷ xs) all = (ap (λ o. record x { parent = o }) (nearest_before x all.0), raised_before xs all.1)

  raised_new : raised kept longer row ≡ row
  raised_new =
      ap (λ o. record row { parent = nearest kept (reverse longer) o }) is_parent
      ∙ ap (λ o. record row { parent = o }) (nearest_self kept (reverse longer) p keeps_p (has_back kept longer p ∙ has_longer p has))
      ∙ ap (λ o. record row { parent = o }) (sym is_parent)

  appended : restricted kept rows ++ row ∷ [] ≡ restricted kept longer
  appended =
      sym
      (some_append (is_kept kept) (raised kept longer) rows (row ∷ [])
      ∙ ap (λ xs. xs ++ some_of (is_kept kept) (raised kept longer) (row ∷ [])) (some_agree (is_kept kept) (raised kept longer) (raised kept rows) rows (raised_before rows (find_self rows (AreRising-rows size rows stands.sound))))
      ∙ ap (λ xs. restricted kept rows ++ xs) (some_of-step (is_kept kept) (raised kept longer) row [] ∙ ap (λ b. front b (raised kept longer row) []) keeps_new ∙ ap (λ x. x ∷ []) raised_new))

  guard_before : (t : ℕ) → HasTag rows t → guard_in longer t ≡ guard_in rows t
  guard_before t there = ap (λ o. unwrap_or (option_map (λ (x : Row). x.guard) o) Free) (find_append rows row t there)

  perm_before : (t byte : ℕ) → HasTag rows t → perm_in longer t byte ≡ perm_in rows t byte
  perm_before t byte there = ap (λ o. (unwrap_or (option_map (λ x. state_at x byte) o) (record { perm = Disabled; accessed = false })).perm) (find_append rows row t there)

  folds_before : (t c byte : ℕ) → HasTag rows t → HasTag rows c → Covers (perm_in rows t byte) (perm_in rows c byte) (is_guarded (guard_in rows c)) → Covers (perm_in longer t byte) (perm_in longer c byte) (is_guarded (guard_in longer c))
  folds_before t c byte there there_c covers =
      subst (λ q. Covers q (perm_in longer c byte) (is_guarded (guard_in longer c))) (sym (perm_before t byte there))
      (subst (λ q. Covers (perm_in rows t byte) q (is_guarded (guard_in longer c))) (sym (perm_before c byte there_c))
      (subst (λ g. Covers (perm_in rows t byte) (perm_in rows c byte) (is_guarded g)) (sym (guard_before c there_c)) covers))

  covered : (t : ℕ) → HasTag rows t → kept t ≡ false → MayMiss kept size rows t → MayMiss kept size longer t
  covered t there drops (inl bare) = inl (λ u has_u keeps_u. at u keeps_u (has_either u has_u))
    where
      at : (u : ℕ) → kept u ≡ true → (row.tag ≡ u) ⊎ HasTag rows u → is_below longer t u ≡ false
      at u keeps_u (inr before) = below_before t u before ∙ bare u before keeps_u
      at u keeps_u (inl same) = subst (λ k. is_below longer t k ≡ false) same (and_false (not (row.tag == t)) (is_on_path longer row.tag t) (on_made t there ∙ off (is_on_path rows p t) refl))
        where
          off : (b : Bool) → is_on_path rows p t ≡ b → is_on_path rows p t ≡ false
          off true on = absurd (not_both (is_below rows t p) (kept_below kept rows t p keeps_p drops on) (bare p has keeps_p))
          off false is = is
  covered t there drops (inr some) =
      inr (
        some.0,
        record {
          there = has_longer some.0 some.1.there;
          keeps = some.1.keeps;
          below = below_before t some.0 some.1.there ∙ some.1.below;
          topmost = λ u has_u keeps_u below. at u keeps_u below (has_either u has_u);
          folds = λ byte within. folds_before t some.0 byte there some.1.there (some.1.folds byte within);
        },
      )
    where
      at : (u : ℕ) → kept u ≡ true → is_below longer t u ≡ true → (row.tag ≡ u) ⊎ HasTag rows u → is_on_path longer u some.0 ≡ true
      at u keeps_u below (inr before) = on_before u some.0 before ∙ some.1.topmost u before keeps_u (sym (below_before t u before) ∙ below)
      at u keeps_u below (inl same) =
          let on : is_on_path longer u t ≡ true = (below_on longer t u below).0 in
          let on_p : is_on_path rows p t ≡ true = sym (on_made t there) ∙ ap (λ k. is_on_path longer k t) same ∙ on in
          ap (λ k. is_on_path longer k some.0) (sym same) ∙ on_made some.0 some.1.there ∙ some.1.topmost p has keeps_p (kept_below kept rows t p keeps_p drops on_p)

  root_longer : (xs : List Row) → KeepsRoot kept xs → KeepsRoot kept (xs ++ row ∷ [])
  root_longer [] root = absurd root
  root_longer (x ∷ xs) root = root

  pub made_stands : StandsBy kept size (restricted kept rows ++ row ∷ []) (rows ++ row ∷ [])
  made_stands =
      record {
        sound = IsRows-append size rows row p stands.sound above is_parent has sized;
        are = appended;
        root = root_longer rows stands.root;
        unknown = λ t away. stands.unknown t (or_parts (list_any (is_tag t) rows) _ (sym (list_any-append (is_tag t) rows (row ∷ [])) ∙ away)).0;
        free = λ t there drops. guard_before t (has_dropped t drops there) ∙ stands.free t (has_dropped t drops there) drops;
        covered = λ t there drops. covered t (has_dropped t drops there) drops (stands.covered t (has_dropped t drops there) drops);
      }
