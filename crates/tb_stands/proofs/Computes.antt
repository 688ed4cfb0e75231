-- The list of folded tags meets the rules.
use Rattle.std.proofs.Common.{◌≡◌, ◌∙◌, ◌⊎◌, ◌&&◌, ◌||◌, ◌++◌, ℕ, zero, suc, ◌+◌, ◌<◌, ◌≤◌, Bool, true, false, cond, not, List, [], ◌∷◌, map, filter, reverse, refl, ap, sym, subst, arith, Option, Some, None, find, inl, inr, ◌==◌}
use Rattle.std.specs.Prelude.{leb, is_some}
use Rattle.std.specs.List.{list_any, range_with_len}
use Rattle.std.proofs.lemmas.Bool.{eqb-true, eq-eqb, ne_eqb, and_parts, leb-true, le-leb, or_left, or_right}
use mathlib.Core.List.{reverse_aux}
use Rattle.tb_perm.specs.Rows.{Row, is_tag, tags, HasTag, IsRows, is_on_path, guard_in}
use Rattle.tb_perm.specs.Table.{is_guarded}
use Rattle.tb_perm.specs.Release.{is_below}
use Rattle.tb_perm.specs.Covers.{order_of}
use Rattle.tb_perm.specs.Pruning.{is_noted, perm_in, Folds}
use Rattle.tb_perm.proofs.Found.{has_found, found_tag}
use Rattle.tb_perm.proofs.Order.{Covers-order, order-Covers}
use Rattle.tb_perm.proofs.Paths.{path_falls}
use Rattle.tb_perm.proofs.Removed.{below_tag, find_has}
use Rattle.tb_perm.proofs.Unique.{AreRising, AreRising-rows, find_self}
use Rattle.tb_stands.specs.Restricted.{is_kept, raised}
use Rattle.tb_stands.specs.Stands.{IsCover, MayMiss}
use Rattle.tb_stands.specs.Folded.{must_stay, IsFolded, Prunes, is_uncovered, stays_below, is_beside, misses, may_miss, stays_with, folded_back, folded}
use Rattle.tb_stands.proofs.Lists.{any_find}
use Rattle.tb_stands.proofs.Ways.{IsBack, grown_back, find_All, has_back}
use Rattle.tb_stands.proofs.Reports.{Among, find_any, find_passes}
use Rattle.tb_stands.proofs.AnyEvent.{none_passes}
use Rattle.tb_stands.proofs.Below.{not_both, below_less}
use Rattle.tb_stands.proofs.One.{miss_same, one_folded, restricted_agree}

not_false : (b : Bool) → not b ≡ true → b ≡ false
not_false false is = refl
not_false true is = absurd (not_both false is refl)

not_true : (b : Bool) → not b ≡ false → b ≡ true
not_true true is = refl
not_true false is = absurd (not_both true refl is)

and_true : (a b : Bool) → a ≡ true → b ≡ true → (a && b) ≡ true
and_true true b is_a is_b = is_b
and_true false b is_a is_b = is_a

-- no number of a range passes
none_range : (q : ℕ → Bool) (from n : ℕ) → ((c : ℕ) → from ≤ c → c < from + n → q c ≡ false) → list_any q (range_with_len from n) ≡ false
none_range q from zero none = refl
none_range q from (suc n) none =
    ap (λ b. b || list_any q (range_with_len (from + 1) n)) (none from (omega arith) (omega arith))
    ∙ none_range q (from + 1) n (λ c low high. none c (omega (arith, low)) (omega (arith, high)))

range_none : (q : ℕ → Bool) (from n : ℕ) → list_any q (range_with_len from n) ≡ false → (c : ℕ) → from ≤ c → c < from + n → q c ≡ false
range_none q from zero none c low high = absurd (omega (arith, low, high))
range_none q from (suc n) none c low high = at (q from) refl none (eq_or_above from c low) (λ rest above. range_none q (from + 1) n rest c above (omega (arith, high)))
  where
    eq_or_above : (a b : ℕ) → a ≤ b → (a ≡ b) ⊎ (a + 1 ≤ b)
    eq_or_above zero zero least = inl refl
    eq_or_above zero (suc b) least = inr (omega arith)
    eq_or_above (suc a) zero least = absurd (omega (arith, least))
    eq_or_above (suc a) (suc b) least = up (eq_or_above a b (omega (arith, least)))
      where
        up : (a ≡ b) ⊎ (a + 1 ≤ b) → (suc a ≡ suc b) ⊎ (suc a + 1 ≤ suc b)
        up (inl same) = inl (ap suc same)
        up (inr above) = inr (omega (arith, above))

    at : (b : Bool) → q from ≡ b → (b || list_any q (range_with_len (from + 1) n)) ≡ false → (from ≡ c) ⊎ (from + 1 ≤ c) → (list_any q (range_with_len (from + 1) n) ≡ false → from + 1 ≤ c → q c ≡ false) → q c ≡ false
    at true is none which later = absurd (not_both true refl none)
    at false is none (inl same) later = ap q (sym same) ∙ is
    at false is none (inr above) later = later none above

folds_yes : (size : ℕ) (rows : List Row) (t c : ℕ) (g : Bool) → is_uncovered size rows t c ≡ false → Folds rows size t c g
folds_yes size rows t c g none byte within =
    Covers-order (perm_in rows t byte) (perm_in rows c byte) g
    (leb-true _ _ (at (leb (order_of (perm_in rows t byte)) (order_of (perm_in rows c byte))) (range_none (λ b. not (leb (order_of (perm_in rows t b)) (order_of (perm_in rows c b)))) 0 size none byte (omega arith) (omega (arith, within)))))
  where
    at : (b : Bool) → not b ≡ false → b ≡ true
    at b is = not_true b is

folds_no : (size : ℕ) (rows : List Row) (t c : ℕ) (g : Bool) → Folds rows size t c g → is_uncovered size rows t c ≡ false
folds_no size rows t c g folds =
    none_range (λ b. not (leb (order_of (perm_in rows t b)) (order_of (perm_in rows c b)))) 0 size
    (λ b low high. ap not (le-leb _ _ (order-Covers (perm_in rows t b) (perm_in rows c b) g (folds b (omega (arith, high))))))

-- in rising rows the first that passes is the least
first_rising : (q : Row → Bool) (xs : List Row) (r c : Row) → AreRising xs → find q xs ≡ Some r → find (is_tag c.tag) xs ≡ Some c → q c ≡ true → r.tag ≤ c.tag
first_rising q [] r c rises found there passes = cc
first_rising q (x ∷ xs) r c rises found there passes = at (q x) refl found (x.tag == c.tag) refl there (λ found there. first_rising q xs r c rises.1 found there passes)
  where
    at : (a : Bool) → q x ≡ a → cond a (Some x) (find q xs) ≡ Some r → (b : Bool) → (x.tag == c.tag) ≡ b → cond b (Some x) (find (is_tag c.tag) xs) ≡ Some c → (find q xs ≡ Some r → find (is_tag c.tag) xs ≡ Some c → r.tag ≤ c.tag) → r.tag ≤ c.tag
    at true is found true same there later =
        let one : x ≡ r = cc in
        let two : x.tag ≡ r.tag = ap (λ (z : Row). z.tag) one in
        let three : x.tag ≡ c.tag = eqb-true x.tag c.tag same in
        omega (arith, two, three)
    at true is found false other there later =
        let one : x ≡ r = cc in
        let two : x.tag ≡ r.tag = ap (λ (z : Row). z.tag) one in
        let less : x.tag < c.tag = find_All (λ (o : Row). x.tag < o.tag) (is_tag c.tag) xs c rises.0 there in
        omega (arith, two, less)
    at false is found true same there later = let one : x ≡ c = cc in absurd (not_both (q x) (ap q one ∙ passes) is)
    at false is found false other there later = later found there

module _ (size : ℕ) (rows : List Row) (is : IsRows size rows) where
  row_of : (u : ℕ) → HasTag rows u → (r : Row) × Among rows r × (r.tag ≡ u)
  row_of u has =
      let found = has_found rows u has in
      let same : found.0.tag ≡ u = found_tag rows u found.0 found.1 in
      (found.0, ap (λ k. find (is_tag k) rows) same ∙ found.1, same)

  found_has : (q : Row → Bool) (r : Row) → find q rows ≡ Some r → HasTag rows r.tag
  found_has q r found = find_has rows r.tag r (find_All (Among rows) q rows r (find_self rows (AreRising-rows size rows is)) found)

  miss_yes : (stays : ℕ → Bool) (t : ℕ) → may_miss stays size rows t ≡ true → MayMiss stays size rows t
  miss_yes stays t may = at (find (stays_below stays rows t) rows) refl may
    where
      passes : (r : Row) (u : ℕ) → r.tag ≡ u → stays u ≡ true → is_below rows t u ≡ true → stays_below stays rows t r ≡ true
      passes r u same stay below = and_true (stays r.tag) (is_below rows t r.tag) (ap stays same ∙ stay) (ap (is_below rows t) same ∙ below)

      none_below : find (stays_below stays rows t) rows ≡ None → (u : ℕ) → HasTag rows u → stays u ≡ true → (b : Bool) → is_below rows t u ≡ b → is_below rows t u ≡ false
      none_below none u has stay true below =
          let r = row_of u has in
          absurd (not_both (list_any (stays_below stays rows t) rows) (find_any (is_tag r.0.tag) (stays_below stays rows t) rows r.0 r.1 (passes r.0 u r.2 stay below)) (any_find (stays_below stays rows t) rows ∙ ap is_some none))
      none_below none u has stay false off = off

      top : (c : ℕ) → list_any (is_beside stays rows t c) rows ≡ false → (u : ℕ) → HasTag rows u → stays u ≡ true → is_below rows t u ≡ true → is_on_path rows u c ≡ true
      top c none u has stay below = on (row_of u has)
        where
          on : (r : Row) × Among rows r × (r.tag ≡ u) → is_on_path rows u c ≡ true
          on r =
              ap (λ k. is_on_path rows k c) (sym r.2)
              ∙ not_true (is_on_path rows r.0.tag c)
              (sym (ap (λ b. b && not (is_on_path rows r.0.tag c)) (passes r.0 u r.2 stay below)) ∙ none_passes (is_tag r.0.tag) (is_beside stays rows t c) rows r.0 none r.1)

      at : (o : Option Row) → find (stays_below stays rows t) rows ≡ o → misses stays size rows t o ≡ true → MayMiss stays size rows t
      at None none may = inl (λ u has stay. none_below none u has stay (is_below rows t u) refl)
      at (Some c) found may =
          let parts = and_parts (not (list_any (is_beside stays rows t c.tag) rows)) (not (is_uncovered size rows t c.tag)) may in
          let both = and_parts (stays c.tag) (is_below rows t c.tag) (find_passes (stays_below stays rows t) rows c found) in
          inr (
            c.tag,
            record {
              there = found_has (stays_below stays rows t) c found;
              keeps = both.0;
              below = both.1;
              topmost = top c.tag (not_false (list_any (is_beside stays rows t c.tag) rows) parts.0);
              folds = folds_yes size rows t c.tag (is_guarded (guard_in rows c.tag)) (not_false (is_uncovered size rows t c.tag) parts.1);
            },
          )

  miss_no : (stays : ℕ → Bool) (t : ℕ) → MayMiss stays size rows t → may_miss stays size rows t ≡ true
  miss_no stays t may = at (find (stays_below stays rows t) rows) refl may
    where
      least : (d : Row) → find (stays_below stays rows t) rows ≡ Some d → (c : ℕ) → IsCover stays size rows t c → d.tag ≡ c
      least d found c cover = by (row_of c cover.there)
        where
          both : (stays d.tag ≡ true) × (is_below rows t d.tag ≡ true)
          both = and_parts (stays d.tag) (is_below rows t d.tag) (find_passes (stays_below stays rows t) rows d found)

          high : c ≤ d.tag
          high = path_falls size rows d.tag c is (cover.topmost d.tag (found_has (stays_below stays rows t) d found) both.0 both.1)

          by : (r : Row) × Among rows r × (r.tag ≡ c) → d.tag ≡ c
          by r =
              let low : d.tag ≤ r.0.tag = first_rising (stays_below stays rows t) rows d r.0 (AreRising-rows size rows is) found r.1 (and_true (stays r.0.tag) (is_below rows t r.0.tag) (ap stays r.2 ∙ cover.keeps) (ap (is_below rows t) r.2 ∙ cover.below)) in
              let same : r.0.tag ≡ c = r.2 in
              let most : c ≤ d.tag = high in
              omega (arith, low, same, most)

      none : (c : ℕ) → IsCover stays size rows t c → list_any (is_beside stays rows t c) rows ≡ false
      none c cover = any_find (is_beside stays rows t c) rows ∙ search_none (find (is_beside stays rows t c) rows) refl
        where
          search_none : (o : Option Row) → find (is_beside stays rows t c) rows ≡ o → is_some o ≡ false
          search_none None nothing = refl
          search_none (Some r) found =
              let parts = and_parts (stays_below stays rows t r) (not (is_on_path rows r.tag c)) (find_passes (is_beside stays rows t c) rows r found) in
              let both = and_parts (stays r.tag) (is_below rows t r.tag) parts.0 in
              absurd (not_both (is_on_path rows r.tag c) (cover.topmost r.tag (found_has (is_beside stays rows t c) r found) both.0 both.1) (not_false (is_on_path rows r.tag c) parts.1))

      at : (o : Option Row) → find (stays_below stays rows t) rows ≡ o → MayMiss stays size rows t → misses stays size rows t o ≡ true
      at None nothing may = refl
      at (Some d) found (inl bare) =
          let both = and_parts (stays d.tag) (is_below rows t d.tag) (find_passes (stays_below stays rows t) rows d found) in
          absurd (not_both (is_below rows t d.tag) both.1 (bare d.tag (found_has (stays_below stays rows t) d found) both.0))
      at (Some d) found (inr some) =
          let cover : IsCover stays size rows t d.tag = subst (IsCover stays size rows t) (sym (least d found some.0 some.1)) some.1 in
          and_true (not (list_any (is_beside stays rows t d.tag) rows)) (not (is_uncovered size rows t d.tag)) (ap not (none d.tag cover)) (ap not (folds_no size rows t d.tag (is_guarded (guard_in rows d.tag)) cover.folds))

module _ (size : ℕ) (rows : List Row) (reached : List ℕ) (is : IsRows size rows) where
  abbrev list_of : List Row → List ℕ → List ℕ
  list_of back later = folded_back size rows reached back later

  -- older rows change nothing of a greater tag
  noted_same : (back : List Row) (later : List ℕ) (u : ℕ) → list_any (is_tag u) back ≡ false → is_noted (list_of back later) u ≡ is_noted later u
  noted_same [] later u away = refl
  noted_same (row ∷ older) later u away = at (is_tag u row) refl away (stays_with size rows reached later row.tag) (λ xs none. noted_same older xs u none)
    where
      at : (b : Bool) → is_tag u row ≡ b → (b || list_any (is_tag u) older) ≡ false → (c : Bool) → ((xs : List ℕ) → list_any (is_tag u) older ≡ false → is_noted (list_of older xs) u ≡ is_noted xs u) → is_noted (list_of older (cond c (row.tag ∷ later) later)) u ≡ is_noted later u
      at true same away c older_same = absurd (not_both true refl away)
      at false other away true older_same = older_same (row.tag ∷ later) away ∙ ap (λ b. b || is_noted later u) other
      at false other away false older_same = older_same later away

  -- what the list says of one tag
  record Says (list : List ℕ) (t : ℕ) : Type 0 where
    must : must_stay rows reached t ≡ true → is_noted list t ≡ true
    goes : is_noted list t ≡ false → MayMiss (is_noted list) size rows t
    all_go : must_stay rows reached t ≡ false → MayMiss (is_noted list) size rows t → is_noted list t ≡ false

  says : (list later : List ℕ) (t : ℕ) → is_noted list t ≡ stays_with size rows reached later t → ((u : ℕ) → HasTag rows u → is_below rows t u ≡ true → is_noted later u ≡ is_noted list u) → Says list t
  says list later t noted same =
      record {
        must = λ must. noted ∙ or_left _ _ must;
        goes = λ gone. miss_same (is_noted later) (is_noted list) size rows t same (miss_yes size rows is (is_noted later) t (may (must_stay rows reached t) (may_miss (is_noted later) size rows t) (sym noted ∙ gone)));
        all_go = λ free miss. noted ∙ gone (must_stay rows reached t) (may_miss (is_noted later) size rows t) free (miss_no size rows is (is_noted later) t (miss_same (is_noted list) (is_noted later) size rows t (λ u has below. sym (same u has below)) miss));
      }
    where
      may : (a b : Bool) → (a || not b) ≡ false → b ≡ true
      may true b gone = absurd (not_both true refl gone)
      may false b gone = not_true b gone

      gone : (a b : Bool) → a ≡ false → b ≡ true → (a || not b) ≡ false
      gone true b is_a is_b = absurd (not_both true refl is_a)
      gone false b is_a is_b = ap not is_b

  -- it says so of each tag
  says_all : (back : List Row) (later : List ℕ) → IsBack back → ((u : ℕ) → HasTag back u → is_noted later u ≡ false) → (t : ℕ) → HasTag back t → Says (list_of back later) t
  says_all [] later falls fresh t has = absurd (not_both false has refl)
  says_all (row ∷ older) later falls fresh t has = at (is_tag t row) refl has (λ there. says_all older (cond (stays_with size rows reached later row.tag) (row.tag ∷ later) later) falls.2 fresh_older t there)
    where
      less : (u : ℕ) → HasTag older u → u < row.tag
      less u there = below_tag row.tag u older falls.0 there

      away : (u : ℕ) → row.tag ≤ u → list_any (is_tag u) older ≡ false
      away u high = by (list_any (is_tag u) older) refl
        where
          by : (b : Bool) → list_any (is_tag u) older ≡ b → list_any (is_tag u) older ≡ false
          by true there = let small : u < row.tag = less u there in absurd (omega (arith, small, high))
          by false none = none

      fresh_older : (u : ℕ) → HasTag older u → is_noted (cond (stays_with size rows reached later row.tag) (row.tag ∷ later) later) u ≡ false
      fresh_older u there = by (stays_with size rows reached later row.tag)
        where
          old : is_noted later u ≡ false
          old = fresh u (or_right (is_tag u row) _ there)

          differs : (row.tag == u) ≡ false
          differs = let small : u < row.tag = less u there in ne_eqb row.tag u (λ same. absurd (omega (arith, small, same)))

          by : (c : Bool) → is_noted (cond c (row.tag ∷ later) later) u ≡ false
          by true = ap (λ b. b || is_noted later u) differs ∙ old
          by false = old

      here : Says (list_of (row ∷ older) later) row.tag
      here = says (list_of (row ∷ older) later) later row.tag (noted_same older _ row.tag (away row.tag (omega arith)) ∙ by (stays_with size rows reached later row.tag)) above
        where
          by : (c : Bool) → is_noted (cond c (row.tag ∷ later) later) row.tag ≡ c
          by true = or_left _ _ (eq-eqb row.tag row.tag refl)
          by false = fresh row.tag (or_left _ _ (eq-eqb row.tag row.tag refl))

          above : (u : ℕ) → HasTag rows u → is_below rows row.tag u ≡ true → is_noted later u ≡ is_noted (list_of (row ∷ older) later) u
          above u there below = sym (noted_same (row ∷ older) later u (ap (λ b. b || list_any (is_tag u) older) differs ∙ away u high))
            where
              greater : row.tag < u
              greater = below_less size rows row.tag u is below

              high : row.tag ≤ u
              high = omega (arith, greater)

              differs : is_tag u row ≡ false
              differs = ne_eqb row.tag u (λ same. absurd (omega (arith, greater, same)))

      at : (b : Bool) → is_tag t row ≡ b → (b || list_any (is_tag t) older) ≡ true → (HasTag older t → Says (list_of (row ∷ older) later) t) → Says (list_of (row ∷ older) later) t
      at true same has later_says = subst (Says (list_of (row ∷ older) later)) (eqb-true row.tag t same) here
      at false other has later_says = later_says has

  -- the tags of the list, and the numbers of no tag
  abbrev pub stays : ℕ → Bool
  stays t = is_noted (folded size rows reached) t || not (list_any (is_tag t) rows)

  at_tag : (t : ℕ) → HasTag rows t → stays t ≡ is_noted (folded size rows reached) t
  at_tag t has = ap (λ b. is_noted (folded size rows reached) t || not b) has ∙ or_none (is_noted (folded size rows reached) t)
    where
      or_none : (b : Bool) → (b || false) ≡ b
      or_none true = refl
      or_none false = refl

  pub computes : IsFolded size rows reached stays
  computes =
      record {
        unknown = λ t away. or_right _ _ (ap not away);
        must = λ t has must. at_tag t has ∙ (all t has).must must;
        goes = λ t has gone. miss_same (is_noted (folded size rows reached)) stays size rows t (λ u has_u below. sym (at_tag u has_u)) ((all t has).goes (sym (at_tag t has) ∙ gone));
        all_go = λ t has free may. at_tag t has ∙ (all t has).all_go free (miss_same stays (is_noted (folded size rows reached)) size rows t (λ u has_u below. at_tag u has_u) may);
      }
    where
      all : (t : ℕ) → HasTag rows t → Says (folded size rows reached) t
      all t has = says_all (reverse rows) [] (grown_back (reverse rows) is.grown) (λ u there. refl) t (has_back (λ k. true) rows t ∙ has)

  -- the tags of rows that stay
  abbrev left_of : (ℕ → Bool) → List Row → List ℕ
  left_of stay xs = tags (filter (is_kept stay) xs)

  left_step : (stay : ℕ → Bool) (x : Row) (xs : List Row) → left_of stay (x ∷ xs) ≡ cond (stay x.tag) (x.tag ∷ left_of stay xs) (left_of stay xs)
  left_step stay x xs = at (stay x.tag)
    where
      at : (b : Bool) → tags (cond b (x ∷ filter (is_kept stay) xs) (filter (is_kept stay) xs)) ≡ cond b (x.tag ∷ left_of stay xs) (left_of stay xs)
      at true = refl
      at false = refl

  -- the list is made of them
  list_is : (back : List Row) (later : List ℕ) → IsBack back → ((u : ℕ) → HasTag back u → is_noted later u ≡ false) → (stay : ℕ → Bool) → ((u : ℕ) → HasTag back u → stay u ≡ is_noted (list_of back later) u) → list_of back later ≡ reverse_aux (left_of stay back) later
  list_is [] later falls fresh stay same = refl
  list_is (row ∷ older) later falls fresh stay same =
      list_is older (cond (stays_with size rows reached later row.tag) (row.tag ∷ later) later) falls.2 fresh_older stay (λ u there. same u (or_right (is_tag u row) _ there))
      ∙ by (stays_with size rows reached later row.tag)
      ∙ ap (λ b. reverse_aux (cond b (row.tag ∷ left_of stay older) (left_of stay older)) later) (sym here)
      ∙ ap (λ xs. reverse_aux xs later) (sym (left_step stay row older))
    where
      less : (u : ℕ) → HasTag older u → u < row.tag
      less u there = below_tag row.tag u older falls.0 there

      fresh_older : (u : ℕ) → HasTag older u → is_noted (cond (stays_with size rows reached later row.tag) (row.tag ∷ later) later) u ≡ false
      fresh_older u there = at (stays_with size rows reached later row.tag)
        where
          old : is_noted later u ≡ false
          old = fresh u (or_right (is_tag u row) _ there)

          differs : (row.tag == u) ≡ false
          differs = let small : u < row.tag = less u there in ne_eqb row.tag u (λ same. absurd (omega (arith, small, same)))

          at : (c : Bool) → is_noted (cond c (row.tag ∷ later) later) u ≡ false
          at true = ap (λ b. b || is_noted later u) differs ∙ old
          at false = old

      none_older : list_any (is_tag row.tag) older ≡ false
      none_older = at (list_any (is_tag row.tag) older) refl
        where
          at : (b : Bool) → list_any (is_tag row.tag) older ≡ b → list_any (is_tag row.tag) older ≡ false
          at true there = let small : row.tag < row.tag = less row.tag there in absurd (omega (arith, small))
          at false none = none

      here : stay row.tag ≡ stays_with size rows reached later row.tag
      here = same row.tag (or_left _ _ (eq-eqb row.tag row.tag refl)) ∙ noted_same older _ row.tag none_older ∙ at (stays_with size rows reached later row.tag)
        where
          at : (c : Bool) → is_noted (cond c (row.tag ∷ later) later) row.tag ≡ c
          at true = or_left _ _ (eq-eqb row.tag row.tag refl)
          at false = fresh row.tag (or_left _ _ (eq-eqb row.tag row.tag refl))

      by : (c : Bool) → reverse_aux (left_of stay older) (cond c (row.tag ∷ later) later) ≡ reverse_aux (cond c (row.tag ∷ left_of stay older) (left_of stay older)) later
      by true = refl
      by false = refl

  reverse_left : (stay : ℕ → Bool) (xs ys : List Row) (zs : List ℕ) → reverse_aux (left_of stay (reverse_aux xs ys)) zs ≡ reverse_aux (left_of stay ys) (left_of stay xs ++ zs)
  reverse_left stay [] ys zs = refl
  reverse_left stay (x ∷ xs) ys zs =
      reverse_left stay xs (x ∷ ys) zs
      ∙ ap (λ a. reverse_aux a (left_of stay xs ++ zs)) (left_step stay x ys)
      ∙ by (stay x.tag)
      ∙ ap (λ a. reverse_aux (left_of stay ys) (a ++ zs)) (sym (left_step stay x xs))
    where
      by : (c : Bool) → reverse_aux (cond c (x.tag ∷ left_of stay ys) (left_of stay ys)) (left_of stay xs ++ zs) ≡ reverse_aux (left_of stay ys) (cond c (x.tag ∷ left_of stay xs) (left_of stay xs) ++ zs)
      by true = refl
      by false = refl

  tags_raised : (stay : ℕ → Bool) (xs : List Row) → tags (map (raised stay rows) xs) ≡ tags xs
  tags_raised stay [] = refl
  tags_raised stay (x ∷ xs) = ap (λ ks. x.tag ∷ ks) (tags_raised stay xs)

  append_none : (ks : List ℕ) → ks ++ [] ≡ ks
  append_none [] = refl
  append_none (k ∷ ks) = ap (λ xs. k ∷ xs) (append_none ks)

  -- what a prune leaves has the tags of the list
  pub left_list : (left : List Row) → Prunes size reached rows left → tags left ≡ folded size rows reached
  left_list left pruned =
      ap tags (pruned.2 ∙ restricted_agree pruned.0 stays rows (one_folded size rows reached is pruned.0 stays pruned.1 computes))
      ∙ tags_raised stays (filter (is_kept stays) rows)
      ∙ sym (append_none (left_of stays rows))
      ∙ sym (reverse_left stays rows [] [])
      ∙ sym (list_is (reverse rows) [] (grown_back (reverse rows) is.grown) (λ u there. refl) stays (λ u there. at_tag u (sym (has_back (λ k. true) rows u) ∙ there)))
