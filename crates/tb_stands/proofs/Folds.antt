-- What is folded among own rows is folded among all.
use Rattle.std.proofs.Common.{◌≡◌, ◌∙◌, ◌&&◌, ◌||◌, ℕ, Bool, true, false, cond, not, List, [], ◌∷◌, reverse, refl, ap, sym, subst, Option, Some, None, find, inl, inr, ◌==◌}
use Rattle.std.specs.Prelude.{option_map, unwrap_or}
use Rattle.std.specs.List.{list_any, AllByRecursion}
use Rattle.std.proofs.lemmas.Bool.{eqb-true, eq-eqb, and_parts, or_left}
use Rattle.tb_perm.specs.declared.perm.Guard.{Guard}
use Rattle.tb_perm.specs.declared.perm.Guard.TheVariants.{Free, Weak, Strong}
use Rattle.tb_perm.specs.declared.perm.Perm.TheVariants.{Disabled}
use Rattle.tb_perm.specs.Rows.{Row, is_tag, HasTag, IsRows, path_from, guard_in, state_at}
use Rattle.tb_perm.specs.Table.{is_guarded}
use Rattle.tb_perm.specs.Release.{is_below}
use Rattle.tb_perm.specs.Pruning.{is_noted, perm_in}
use Rattle.tb_perm.specs.Covers.{Covers}
use Rattle.tb_perm.proofs.Order.{Covers-chain}
use Rattle.tb_stands.specs.Restricted.{is_kept, nearest, raised, restricted}
use Rattle.tb_stands.specs.Stands.{IsCover, MayMiss, KeepsRoot, StandsBy}
use Rattle.tb_stands.specs.Folded.{is_first, must_stay, IsFolded}
use Rattle.tb_stands.proofs.Lists.{some_of, front, some_of-step, find_both}
use Rattle.tb_stands.proofs.Ways.{path_nearest, find_own, has_own, own_keeps, own_has, on_own}
use Rattle.tb_stands.proofs.Table.{covers_guard}
use Rattle.tb_stands.proofs.Below.{not_both, below_on, on_below, below_chain}

-- kept before, and staying now
abbrev pub both : (ℕ → Bool) → (ℕ → Bool) → ℕ → Bool
both kept stays t = kept t && stays t

both_true : (a b : Bool) → a ≡ true → b ≡ true → (a && b) ≡ true
both_true true b is_a is_b = is_b
both_true false b is_a is_b = is_a

both_false : (a b : Bool) → b ≡ false → (a && b) ≡ false
both_false true b is = is
both_false false b is = refl

rest_false : (a b : Bool) → a ≡ true → (a && b) ≡ false → b ≡ false
rest_false true b is_a is = is
rest_false false b is_a is = absurd (not_both false is_a refl)

free_guard : (g : Guard) → is_guarded g ≡ false → g ≡ Free
free_guard Free is = refl
free_guard Weak is = absurd (not_both true refl is)
free_guard Strong is = absurd (not_both true refl is)

or_rest : (a b c : Bool) → (a || (b || c)) ≡ false → c ≡ false
or_rest false false c is = is
or_rest false true c is = absurd (not_both true refl is)
or_rest true b c is = absurd (not_both true refl is)

-- of what is left some is left out
some_twice : (p q r : Row → Bool) (f g h : Row → Row) → ((x : Row) → cond (p x) (q (f x)) false ≡ r x) → ((x : Row) → p x ≡ true → g (f x) ≡ h x) → (xs : List Row) → some_of q g (some_of p f xs) ≡ some_of r h xs
some_twice p q r f g h tests same [] = refl
some_twice p q r f g h tests same (x ∷ xs) =
    ap (some_of q g) (some_of-step p f x xs)
    ∙ at (p x) refl (q (f x)) refl (some_twice p q r f g h tests same xs)
    ∙ ap (λ b. front b (h x) (some_of r h xs)) (tests x)
    ∙ sym (some_of-step r h x xs)
  where
    at : (b : Bool) → p x ≡ b → (c : Bool) → q (f x) ≡ c → some_of q g (some_of p f xs) ≡ some_of r h xs → some_of q g (front b (f x) (some_of p f xs)) ≡ front (cond b (q (f x)) false) (h x) (some_of r h xs)
    at true is true passes later =
        some_of-step q g (f x) (some_of p f xs)
        ∙ ap (λ d. front d (g (f x)) (some_of q g (some_of p f xs))) passes
        ∙ ap (λ y. y ∷ some_of q g (some_of p f xs)) (same x is)
        ∙ ap (λ ys. h x ∷ ys) later
        ∙ ap (λ d. front d (h x) (some_of r h xs)) (sym passes)
    at true is false fails later =
        some_of-step q g (f x) (some_of p f xs)
        ∙ ap (λ d. front d (g (f x)) (some_of q g (some_of p f xs))) fails
        ∙ later
        ∙ ap (λ d. front d (h x) (some_of r h xs)) (sym fails)
    at false is c fails later = later

pub restricted_twice : (kept stays : ℕ → Bool) (size : ℕ) (rows : List Row) → IsRows size rows → restricted stays (restricted kept rows) ≡ restricted (both kept stays) rows
restricted_twice kept stays size rows is =
    some_twice (is_kept kept) (is_kept stays) (is_kept (both kept stays)) (raised kept rows) (raised stays (restricted kept rows)) (raised (both kept stays) rows) tests (λ row keeps. ap (λ o. record row { parent = o }) (twice row.parent)) rows
  where
    tests : (x : Row) → cond (kept x.tag) (stays x.tag) false ≡ (kept x.tag && stays x.tag)
    tests x = at (kept x.tag)
      where
        at : (b : Bool) → cond b (stays x.tag) false ≡ (b && stays x.tag)
        at true = refl
        at false = refl

    of_raised : (o : Option Row) → option_map (λ (row : Row). row.tag) (option_map (raised kept rows) o) ≡ option_map (λ (row : Row). row.tag) o
    of_raised None = refl
    of_raised (Some row) = refl

    twice : (o : Option ℕ) → nearest stays (reverse (restricted kept rows)) (nearest kept (reverse rows) o) ≡ nearest (both kept stays) (reverse rows) o
    twice o =
        ap (λ xs. option_map (λ (row : Row). row.tag) (find (is_kept stays) xs)) (path_nearest kept rows size o is)
        ∙ ap (option_map (λ (row : Row). row.tag)) (find_both (is_kept stays) (is_kept kept) (raised kept rows) (is_kept (both kept stays)) tests (path_from (reverse rows) o))
        ∙ of_raised (find (is_kept (both kept stays)) (path_from (reverse rows) o))

module _ (kept : ℕ → Bool) (rows : List Row) where
  pub guard_own : (t : ℕ) → kept t ≡ true → guard_in (restricted kept rows) t ≡ guard_in rows t
  guard_own t keeps = ap (λ o. unwrap_or (option_map (λ (row : Row). row.guard) o) Free) (find_own kept rows t keeps) ∙ at (find (is_tag t) rows)
    where
      at : (o : Option Row) → unwrap_or (option_map (λ (row : Row). row.guard) (option_map (raised kept rows) o)) Free ≡ unwrap_or (option_map (λ (row : Row). row.guard) o) Free
      at None = refl
      at (Some row) = refl

  pub perm_own : (t byte : ℕ) → kept t ≡ true → perm_in (restricted kept rows) t byte ≡ perm_in rows t byte
  perm_own t byte keeps = ap (λ o. (unwrap_or (option_map (λ row. state_at row byte) o) (record { perm = Disabled; accessed = false })).perm) (find_own kept rows t keeps) ∙ at (find (is_tag t) rows)
    where
      at : (o : Option Row) → (unwrap_or (option_map (λ row. state_at row byte) (option_map (raised kept rows) o)) (record { perm = Disabled; accessed = false })).perm ≡ (unwrap_or (option_map (λ row. state_at row byte) o) (record { perm = Disabled; accessed = false })).perm
      at None = refl
      at (Some row) = refl

pub first_own : (kept : ℕ → Bool) (all rows : List Row) (t : ℕ) → KeepsRoot kept rows → is_first (some_of (is_kept kept) (raised kept all) rows) t ≡ is_first rows t
first_own kept all [] t root = absurd root
first_own kept all (row ∷ rows) t root =
    ap (λ xs. is_first xs t) (some_of-step (is_kept kept) (raised kept all) row rows) ∙ ap (λ b. is_first (front b (raised kept all row) (some_of (is_kept kept) (raised kept all) rows)) t) root

root_both : (kept stays : ℕ → Bool) (rows : List Row) → ((t : ℕ) → HasTag rows t → is_first rows t ≡ true → stays t ≡ true) → KeepsRoot kept rows → KeepsRoot stays rows
root_both kept stays [] show root = absurd root
root_both kept stays (row ∷ rows) show root = show row.tag (or_left _ _ (eq-eqb row.tag row.tag refl)) (eq-eqb row.tag row.tag refl)

pub noted_own : (own : List Row) (reached : List ℕ) (t : ℕ) → AllByRecursion (HasTag own) reached → is_noted reached t ≡ true → HasTag own t
noted_own own [] t all noted = absurd (not_both false noted refl)
noted_own own (k ∷ reached) t all noted = at (k == t) refl noted (noted_own own reached t all.1)
  where
    at : (b : Bool) → (k == t) ≡ b → (b || is_noted reached t) ≡ true → (is_noted reached t ≡ true → HasTag own t) → HasTag own t
    at true same noted later = subst (HasTag own) (eqb-true k t same) all.0
    at false other noted later = later noted

module _ (kept stays : ℕ → Bool) (size : ℕ) (rows : List Row) (reached : List ℕ) (stands : StandsBy kept size (restricted kept rows) rows) (known : AllByRecursion (HasTag (restricted kept rows)) reached) (folded : IsFolded size (restricted kept rows) reached stays) where
  abbrev own : List Row
  own = restricted kept rows

  must_kept : (t : ℕ) → HasTag rows t → must_stay rows reached t ≡ true → kept t ≡ true
  must_kept t has must = at (is_first rows t) refl (is_noted reached t) refl (is_guarded (guard_in rows t)) refl (kept t) refl must
    where
      first : (xs : List Row) → KeepsRoot kept xs → is_first xs t ≡ true → kept t ≡ true
      first [] root is = absurd root
      first (x ∷ xs) root is = ap kept (sym (eqb-true x.tag t is)) ∙ root

      at : (a : Bool) → is_first rows t ≡ a → (b : Bool) → is_noted reached t ≡ b → (c : Bool) → is_guarded (guard_in rows t) ≡ c → (d : Bool) → kept t ≡ d → (a || (b || c)) ≡ true → kept t ≡ true
      at a is_a b is_b c is_c true keeps must = keeps
      at true is_a b is_b c is_c false drops must = first rows stands.root is_a
      at false is_a true is_b c is_c false drops must = own_keeps kept rows t (noted_own own reached t known is_b)
      at false is_a false is_b true is_c false drops must = absurd (not_both (is_guarded (guard_in rows t)) is_c (ap is_guarded (stands.free t has drops)))
      at false is_a false is_b false is_c false drops must = absurd (not_both false must refl)

  must_same : (t : ℕ) → kept t ≡ true → must_stay own reached t ≡ must_stay rows reached t
  must_same t keeps =
      ap (λ b. b || (is_noted reached t || is_guarded (guard_in own t))) (first_own kept rows rows t stands.root)
      ∙ ap (λ g. is_first rows t || (is_noted reached t || is_guarded g)) (guard_own kept rows t keeps)

  has_kept : (t : ℕ) → HasTag rows t → kept t ≡ true → HasTag own t
  has_kept t has keeps = has_own kept rows t keeps ∙ has

  below_own : (t u : ℕ) → kept t ≡ true → kept u ≡ true → is_below own t u ≡ is_below rows t u
  below_own t u keeps_t keeps_u = ap (λ b. not (u == t) && b) (on_own kept rows size u t stands.sound keeps_u keeps_t)

  folds_own : (t c byte : ℕ) → kept t ≡ true → kept c ≡ true → Covers (perm_in own t byte) (perm_in own c byte) (is_guarded (guard_in own c)) → Covers (perm_in rows t byte) (perm_in rows c byte) (is_guarded (guard_in rows c))
  folds_own t c byte keeps_t keeps_c covers =
      subst (λ p. Covers p (perm_in rows c byte) (is_guarded (guard_in rows c))) (perm_own kept rows t byte keeps_t)
      (subst (λ p. Covers (perm_in own t byte) p (is_guarded (guard_in rows c))) (perm_own kept rows c byte keeps_c)
      (subst (λ g. Covers (perm_in own t byte) (perm_in own c byte) (is_guarded g)) (guard_own kept rows c keeps_c) covers))

  folds_all : (t c byte : ℕ) → kept t ≡ true → kept c ≡ true → Covers (perm_in rows t byte) (perm_in rows c byte) (is_guarded (guard_in rows c)) → Covers (perm_in own t byte) (perm_in own c byte) (is_guarded (guard_in own c))
  folds_all t c byte keeps_t keeps_c covers =
      subst (λ p. Covers p (perm_in own c byte) (is_guarded (guard_in own c))) (sym (perm_own kept rows t byte keeps_t))
      (subst (λ p. Covers (perm_in rows t byte) p (is_guarded (guard_in own c))) (sym (perm_own kept rows c byte keeps_c))
      (subst (λ g. Covers (perm_in rows t byte) (perm_in rows c byte) (is_guarded g)) (sym (guard_own kept rows c keeps_c)) covers))

  parts : (t : ℕ) → both kept stays t ≡ true → (kept t ≡ true) × (stays t ≡ true)
  parts t is = and_parts (kept t) (stays t) is

  -- what may be missing among own rows may be missing among all
  miss_up : (t : ℕ) → kept t ≡ true → MayMiss stays size own t → MayMiss (both kept stays) size rows t
  miss_up t keeps (inl bare) = inl (λ u has is. sym (below_own t u keeps (parts u is).0) ∙ bare u (has_kept u has (parts u is).0) (parts u is).1)
  miss_up t keeps (inr some) =
      let keeps_c : kept some.0 ≡ true = own_keeps kept rows some.0 some.1.there in
      inr (
        some.0,
        record {
          there = own_has kept rows some.0 some.1.there;
          keeps = both_true (kept some.0) (stays some.0) keeps_c some.1.keeps;
          below = sym (below_own t some.0 keeps keeps_c) ∙ some.1.below;
          topmost = λ u has is below. sym (on_own kept rows size u some.0 stands.sound (parts u is).0 keeps_c) ∙ some.1.topmost u (has_kept u has (parts u is).0) (parts u is).1 (below_own t u keeps (parts u is).0 ∙ below);
          folds = λ byte within. folds_own t some.0 byte keeps keeps_c (some.1.folds byte within);
        },
      )

  miss_down : (t : ℕ) → kept t ≡ true → MayMiss (both kept stays) size rows t → MayMiss stays size own t
  miss_down t keeps (inl bare) = inl (λ u has is. below_own t u keeps (own_keeps kept rows u has) ∙ bare u (own_has kept rows u has) (both_true (kept u) (stays u) (own_keeps kept rows u has) is))
  miss_down t keeps (inr some) =
      let keeps_c : kept some.0 ≡ true = (parts some.0 some.1.keeps).0 in
      inr (
        some.0,
        record {
          there = has_kept some.0 some.1.there keeps_c;
          keeps = (parts some.0 some.1.keeps).1;
          below = below_own t some.0 keeps keeps_c ∙ some.1.below;
          topmost = λ u has is below. on_own kept rows size u some.0 stands.sound (own_keeps kept rows u has) keeps_c ∙ some.1.topmost u (own_has kept rows u has) (both_true (kept u) (stays u) (own_keeps kept rows u has) is) (sym (below_own t u keeps (own_keeps kept rows u has)) ∙ below);
          folds = λ byte within. folds_all t some.0 byte keeps keeps_c (some.1.folds byte within);
        },
      )

  -- a staying tag below a tag that is covered by one that goes is below that one
  under : (t c u : ℕ) → IsCover kept size rows t c → stays c ≡ false → HasTag rows u → both kept stays u ≡ true → is_below rows t u ≡ true → is_below own c u ≡ true
  under t c u cover goes has is below =
      below_own c u cover.keeps (parts u is).0 ∙ on_below rows c u (cover.topmost u has (parts u is).0 below) (λ same. not_both (stays u) (parts u is).1 (ap stays same ∙ goes))

  -- where the tag that covers a missing one goes, what is below that one takes its place
  miss_on : (t c : ℕ) → IsCover kept size rows t c → stays c ≡ false → MayMiss stays size own c → MayMiss (both kept stays) size rows t
  miss_on t c cover goes (inl bare) = inl (λ u has is. at u has is (is_below rows t u) refl)
    where
      at : (u : ℕ) → HasTag rows u → both kept stays u ≡ true → (b : Bool) → is_below rows t u ≡ b → is_below rows t u ≡ false
      at u has is true below = absurd (not_both (is_below own c u) (under t c u cover goes has is below) (bare u (has_kept u has (parts u is).0) (parts u is).1))
      at u has is false none = none
  miss_on t c cover goes (inr some) =
      let keeps_d : kept some.0 ≡ true = own_keeps kept rows some.0 some.1.there in
      let below_c : is_below rows c some.0 ≡ true = sym (below_own c some.0 cover.keeps keeps_d) ∙ some.1.below in
      inr (
        some.0,
        record {
          there = own_has kept rows some.0 some.1.there;
          keeps = both_true (kept some.0) (stays some.0) keeps_d some.1.keeps;
          below = below_chain size rows t c some.0 stands.sound cover.below (below_on rows c some.0 below_c).0;
          topmost = λ u has is below. sym (on_own kept rows size u some.0 stands.sound (parts u is).0 keeps_d) ∙ some.1.topmost u (has_kept u has (parts u is).0) (parts u is).1 (under t c u cover goes has is below);
          folds = λ byte within.
              Covers-chain (perm_in rows t byte) (perm_in rows c byte) (perm_in rows some.0 byte) (is_guarded (guard_in rows some.0))
              (covers_guard (perm_in rows t byte) (perm_in rows c byte) (is_guarded (guard_in rows c)) false (cover.folds byte within))
              (folds_own c some.0 byte cover.keeps keeps_d (some.1.folds byte within));
        },
      )

  goes_all : (t : ℕ) → HasTag rows t → both kept stays t ≡ false → MayMiss (both kept stays) size rows t
  goes_all t has drops = at (kept t) refl
    where
      missing : kept t ≡ false → MayMiss kept size rows t → MayMiss (both kept stays) size rows t
      missing is (inl bare) = inl (λ u has_u both_u. bare u has_u (parts u both_u).0)
      missing is (inr some) = by_cover (stays some.0) refl
        where
          by_cover : (b : Bool) → stays some.0 ≡ b → MayMiss (both kept stays) size rows t
          by_cover true stay =
              inr (
                some.0,
                record {
                  there = some.1.there;
                  keeps = both_true (kept some.0) (stays some.0) some.1.keeps stay;
                  below = some.1.below;
                  topmost = λ u has_u both_u below. some.1.topmost u has_u (parts u both_u).0 below;
                  folds = some.1.folds;
                },
              )
          by_cover false go = miss_on t some.0 some.1 go (folded.goes some.0 (has_kept some.0 some.1.there some.1.keeps) go)

      at : (b : Bool) → kept t ≡ b → MayMiss (both kept stays) size rows t
      at true keeps = miss_up t keeps (folded.goes t (has_kept t has keeps) (rest_false (kept t) (stays t) keeps drops))
      at false is = missing is (stands.covered t has is)

  must_all : (t : ℕ) → HasTag rows t → must_stay rows reached t ≡ true → both kept stays t ≡ true
  must_all t has must =
      let keeps : kept t ≡ true = must_kept t has must in
      both_true (kept t) (stays t) keeps (folded.must t (has_kept t has keeps) (must_same t keeps ∙ must))

  unknown_all : (t : ℕ) → list_any (is_tag t) rows ≡ false → both kept stays t ≡ true
  unknown_all t away =
      let keeps : kept t ≡ true = stands.unknown t away in
      both_true (kept t) (stays t) keeps (folded.unknown t (has_own kept rows t keeps ∙ away))

  pub folded_all : IsFolded size rows reached (both kept stays)
  folded_all =
      record {
        unknown = unknown_all;
        must = must_all;
        goes = goes_all;
        all_go = λ t has free may. at t has free may (kept t) refl;
      }
    where
      at : (t : ℕ) → HasTag rows t → must_stay rows reached t ≡ false → MayMiss (both kept stays) size rows t → (b : Bool) → kept t ≡ b → both kept stays t ≡ false
      at t has free may true keeps = both_false (kept t) (stays t) (folded.all_go t (has_kept t has keeps) (must_same t keeps ∙ free) (miss_down t keeps may))
      at t has free may false drops = ap (λ b. b && stays t) drops

  -- what is left of own rows stands for all
  pub folded_stands : StandsBy (both kept stays) size (restricted stays (restricted kept rows)) rows
  folded_stands =
      record {
        sound = stands.sound;
        are = restricted_twice kept stays size rows stands.sound;
        root = root_both kept (both kept stays) rows (λ t has is. must_all t has (or_left _ _ is)) stands.root;
        unknown = unknown_all;
        free = λ t has drops. free_guard (guard_in rows t) (or_rest (is_first rows t) (is_noted reached t) (is_guarded (guard_in rows t)) (not_must t has drops (must_stay rows reached t) refl));
        covered = goes_all;
      }
    where
      not_must : (t : ℕ) → HasTag rows t → both kept stays t ≡ false → (b : Bool) → must_stay rows reached t ≡ b → must_stay rows reached t ≡ false
      not_must t has drops true must = absurd (not_both (both kept stays t) (must_all t has must) drops)
      not_must t has drops false is = is
