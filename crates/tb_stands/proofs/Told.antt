-- Standing point by point is standing by the kept tags.
use Rattle.std.proofs.Common.{◌≡◌, ◌∙◌, ◌⊎◌, ◌&&◌, ◌||◌, ℕ, zero, suc, ◌<◌, ◌≤◌, Bool, true, false, cond, not, List, [], ◌∷◌, reverse, refl, ap, sym, subst, arith, Option, Some, None, find, inl, inr, ◌==◌}
use Rattle.std.specs.Prelude.{option_map, is_some}
use Rattle.std.specs.List.{list_any, AllByRecursion}
use Rattle.std.proofs.lemmas.Bool.{eqb-true, eq-eqb, ne_eqb, and_parts, cases_eq, or_left}
use Rattle.tb_perm.specs.declared.perm.State.{State}
use Rattle.tb_perm.specs.declared.perm.Guard.{Guard}
use Rattle.tb_perm.specs.declared.span.Span.{Span}
use Rattle.tb_perm.specs.Rows.{Row, is_tag, HasTag, IsRows, is_on_path}
use Rattle.tb_perm.specs.Release.{is_below}
use Rattle.tb_perm.specs.Pruning.{is_noted}
use Rattle.tb_perm.proofs.Found.{has_found, found_tag, found_All}
use Rattle.tb_perm.proofs.Paths.{path_self, path_chain, path_falls}
use Rattle.tb_perm.proofs.Removed.{find_has}
use Rattle.tb_perm.proofs.Unique.{AreRising, AreRising-rows}
use Rattle.tb_stands.specs.Restricted.{nearest, raised, restricted}
use Rattle.tb_stands.specs.Stands.{MayMiss, KeepsRoot, Stands}
use Rattle.tb_stands.specs.Folded.{is_first}
use Rattle.tb_stands.specs.Points.{has, IsOwnRow, IsTopmost, MayLack, StandsInPoints}
use Rattle.tb_stands.proofs.Lists.{any_find}
use Rattle.tb_stands.proofs.Ways.{find_own, has_own, own_keeps, own_has}
use Rattle.tb_stands.proofs.Reports.{find_any, find_passes}
use Rattle.tb_stands.proofs.Below.{not_both, below_on, on_below, below_less}
use Rattle.tb_stands.proofs.Folds.{first_own, noted_own}
use Rattle.tb_stands.proofs.One.{nearest_agree, restricted_agree}
use Rattle.tb_stands.proofs.OwnRows.{own_rows, stands_rows}

-- Lists of rows.

abbrev a_row : ℕ → Option ℕ → Guard → Span → List State → Row
a_row tag parent guard made states = record { tag = tag; parent = parent; guard = guard; made = made; states = states }

find_away : (k : ℕ) (rows : List Row) → AllByRecursion (λ (o : Row). k < o.tag) rows → find (is_tag k) rows ≡ None
find_away k [] above = refl
find_away k (row ∷ rows) above =
    ap (λ b. cond b (Some row) (find (is_tag k) rows)) (ne_eqb row.tag k (λ same. absurd (omega (arith, same, above.0)))) ∙ find_away k rows above.1

some_same : (x y : Row) → Some x ≡ Some y → x ≡ y
some_same x y h = cc

-- rising rows are given by their searches
rising_same : (xs ys : List Row) → AreRising xs → AreRising ys → ((t : ℕ) → find (is_tag t) xs ≡ find (is_tag t) ys) → xs ≡ ys
rising_same [] [] rises_x rises_y same = refl
rising_same [] (y ∷ ys) rises_x rises_y same =
    let clash : None ≡ Some y = same y.tag ∙ ap (λ b. cond b (Some y) (find (is_tag y.tag) ys)) (eq-eqb y.tag y.tag refl) in absurd (cc)
rising_same (x ∷ xs) [] rises_x rises_y same =
    let clash : None ≡ Some x = sym (same x.tag) ∙ ap (λ b. cond b (Some x) (find (is_tag x.tag) xs)) (eq-eqb x.tag x.tag refl) in absurd (cc)
rising_same (x ∷ xs) (y ∷ ys) rises_x rises_y same =
    ap (λ z. z ∷ xs) heads ∙ ap (λ zs. y ∷ zs) (rising_same xs ys rises_x.1 rises_y.1 (λ t. tails t (x.tag == t) refl))
  where
    there_x : find (is_tag x.tag) (y ∷ ys) ≡ Some x
    there_x = sym (same x.tag) ∙ ap (λ b. cond b (Some x) (find (is_tag x.tag) xs)) (eq-eqb x.tag x.tag refl)

    there_y : find (is_tag y.tag) (x ∷ xs) ≡ Some y
    there_y = same y.tag ∙ ap (λ b. cond b (Some y) (find (is_tag y.tag) ys)) (eq-eqb y.tag y.tag refl)

    heads : x ≡ y
    heads = at (y.tag == x.tag) there_x (x.tag == y.tag) there_y
      where
        at : (b : Bool) → cond b (Some y) (find (is_tag x.tag) ys) ≡ Some x → (c : Bool) → cond c (Some x) (find (is_tag y.tag) xs) ≡ Some y → x ≡ y
        at true found c found_y = sym (some_same y x found)
        at false found true found_y = some_same x y found_y
        at false found false found_y =
            let more : y.tag < x.tag = found_All (λ (o : Row). y.tag < o.tag) ys x.tag x rises_y.0 found in
            let less : x.tag < y.tag = found_All (λ (o : Row). x.tag < o.tag) xs y.tag y rises_x.0 found_y in
            absurd (omega (arith, more, less))

    tails : (t : ℕ) (b : Bool) → (x.tag == t) ≡ b → find (is_tag t) xs ≡ find (is_tag t) ys
    tails t true is =
        let tag : x.tag ≡ t = eqb-true x.tag t is in
        find_away t xs (subst (λ k. AllByRecursion (λ (o : Row). k < o.tag) xs) tag rises_x.0)
        ∙ sym (find_away t ys (subst (λ k. AllByRecursion (λ (o : Row). k < o.tag) ys) (sym (ap (λ (z : Row). z.tag) heads) ∙ tag) rises_y.0))
    tails t false is =
        sym (ap (λ b. cond b (Some x) (find (is_tag t) xs)) is)
        ∙ same t
        ∙ ap (λ b. cond b (Some y) (find (is_tag t) ys)) (ap (λ (z : Row). z.tag == t) (sym heads) ∙ is)

find_none : (rows : List Row) (t : ℕ) → has rows t ≡ false → find (is_tag t) rows ≡ None
find_none rows t away = at (find (is_tag t) rows) refl
  where
    at : (o : Option Row) → find (is_tag t) rows ≡ o → find (is_tag t) rows ≡ None
    at None found = found
    at (Some r) found = absurd (not_both (has rows t) (find_has rows t r found) away)

-- From the kept tags to the points.

module _ (size : ℕ) (own rows : List Row) (reached : List ℕ) (stands : Stands size own rows reached) where
  abbrev kept : ℕ → Bool
  kept = stands.0

  owned : (t : ℕ) → HasTag own t → (kept t ≡ true) × HasTag rows t
  owned t there =
      let left : HasTag (restricted kept rows) t = subst (λ o. HasTag o t) stands.1.are there in
      (own_keeps kept rows t left, own_has kept rows t left)

  agree : (t : ℕ) → HasTag rows t → kept t ≡ has own t
  agree t there = at (kept t) refl (has own t) refl
    where
      at : (b : Bool) → kept t ≡ b → (c : Bool) → has own t ≡ c → kept t ≡ has own t
      at true keeps c is = keeps ∙ sym (ap (λ o. has o t) stands.1.are ∙ has_own kept rows t keeps ∙ there)
      at false drops true is = absurd (not_both (kept t) (owned t is).0 drops)
      at false drops false is = drops ∙ sym is

  are_own : own ≡ restricted (has own) rows
  are_own = stands.1.are ∙ restricted_agree kept (has own) rows agree

  each : (mine : Row) → find (is_tag mine.tag) own ≡ Some mine → (eager : Row) × (find (is_tag mine.tag) rows ≡ Some eager) × IsOwnRow own rows mine eager
  each mine found = (eager.0, eager.1, record { tag = ap (λ (x : Row). x.tag) same; guard = ap (λ (x : Row). x.guard) same; made = ap (λ (x : Row). x.made) same; states = ap (λ (x : Row). x.states) same; parent = ap (λ (x : Row). x.parent) same })
    where
      there : HasTag own mine.tag
      there = find_has own mine.tag mine found

      eager : (r : Row) × (find (is_tag mine.tag) rows ≡ Some r)
      eager = has_found rows mine.tag (owned mine.tag there).1

      same : mine ≡ raised (has own) rows eager.0
      same = some_same mine (raised (has own) rows eager.0) (sym found ∙ ap (find (is_tag mine.tag)) are_own ∙ find_own (has own) rows mine.tag there ∙ ap (option_map (raised (has own) rows)) eager.1)

  lacking : (t : ℕ) → HasTag rows t → has own t ≡ false → MayLack own size rows t
  lacking t there away = at (stands.1.covered t there (agree t there ∙ away))
    where
      at : MayMiss kept size rows t → MayLack own size rows t
      at (inl bare) = inl (λ u own_u. bare u (owned u own_u).1 (owned u own_u).0)
      at (inr some) = inr (some.0, top, only, some.1.folds)
        where
          c_own : HasTag own some.0
          c_own = sym (agree some.0 some.1.there) ∙ some.1.keeps

          -- no own tag lies between, since each is at or below
          between : (u : ℕ) → HasTag own u → is_below rows t u ≡ true → is_below rows u some.0 ≡ false
          between u own_u below = by (is_below rows u some.0) refl
            where
              by : (b : Bool) → is_below rows u some.0 ≡ b → is_below rows u some.0 ≡ false
              by false none = none
              by true above =
                  let less : u < some.0 = below_less size rows u some.0 stands.1.sound above in
                  let high : some.0 ≤ u = path_falls size rows u some.0 stands.1.sound (some.1.topmost u (owned u own_u).1 (owned u own_u).0 below) in
                  absurd (omega (arith, less, high))

          top : IsTopmost own rows t some.0
          top = record { there = c_own; below = some.1.below; between = between }

          only : (other : ℕ) → IsTopmost own rows t other → other ≡ some.0
          only other topmost = by (cases_eq other some.0)
            where
              by : (other ≡ some.0) ⊎ (other ≡ some.0 → ⊥) → other ≡ some.0
              by (inl same) = same
              by (inr differs) =
                  let on : is_on_path rows other some.0 ≡ true = some.1.topmost other (owned other topmost.there).1 (owned other topmost.there).0 topmost.below in
                  absurd (not_both (is_below rows some.0 other) (on_below rows some.0 other on differs) (topmost.between some.0 c_own some.1.below))

  unreached : (t : ℕ) → has own t ≡ false → is_noted reached t ≡ false
  unreached t away = at (is_noted reached t) refl
    where
      at : (b : Bool) → is_noted reached t ≡ b → is_noted reached t ≡ false
      at true noted = absurd (not_both (has own t) (noted_own own reached t stands.2 noted) away)
      at false none = none

  pub to_points : StandsInPoints size own rows reached
  to_points =
      record {
        own_sound = stands_rows size own rows reached stands;
        sound = stands.1.sound;
        root = λ t. ap (λ o. is_first o t) stands.1.are ∙ first_own kept rows rows t stands.1.root;
        each = each;
        reaches = stands.2;
        free = λ t there away. stands.1.free t there (agree t there ∙ away);
        unreached = λ t there away. unreached t away;
        lacking = lacking;
      }

-- From the points to the kept tags.

module _ (size : ℕ) (own rows : List Row) (reached : List ℕ) (points : StandsInPoints size own rows reached) where
  -- own tags, and numbers of no tag
  abbrev keeps : ℕ → Bool
  keeps t = has own t || not (has rows t)

  keeps_at : (t : ℕ) → HasTag rows t → keeps t ≡ has own t
  keeps_at t there = ap (λ b. has own t || not b) there ∙ or_none (has own t)
    where
      or_none : (b : Bool) → (b || false) ≡ b
      or_none true = refl
      or_none false = refl

  drops_both : (t : ℕ) → keeps t ≡ false → has own t ≡ false
  drops_both t is = at (has own t) (not (has rows t)) is
    where
      at : (a b : Bool) → (a || b) ≡ false → a ≡ false
      at false b none = refl
      at true b none = absurd (not_both true refl none)

  eager_has : (t : ℕ) → HasTag own t → HasTag rows t
  eager_has t there =
      let mine = has_found own t there in
      let tag : mine.0.tag ≡ t = found_tag own t mine.0 mine.1 in
      let eager = points.each mine.0 (ap (λ k. find (is_tag k) own) tag ∙ mine.1) in
      subst (HasTag rows) tag (find_has rows mine.0.tag eager.0 eager.1)

  root_keeps : (xs : List Row) → ((t : ℕ) → is_first xs t ≡ true → keeps t ≡ true) → KeepsRoot (λ t. true) xs → KeepsRoot keeps xs
  root_keeps [] show root = root
  root_keeps (x ∷ xs) show root = show x.tag (eq-eqb x.tag x.tag refl)

  first_has : (xs : List Row) (t : ℕ) → is_first xs t ≡ true → HasTag xs t
  first_has [] t first = absurd (not_both false first refl)
  first_has (x ∷ xs) t first = or_left _ _ first

  root : KeepsRoot keeps rows
  root = root_keeps rows (λ t first. or_left _ _ (first_has own t (points.root t ∙ first))) (some_root rows points.sound)
    where
      some_root : (xs : List Row) → IsRows size xs → KeepsRoot (λ t. true) xs
      some_root [] is = is.grown
      some_root (x ∷ xs) is = refl

  row_same : (mine eager : Row) → IsOwnRow own rows mine eager → mine ≡ raised keeps rows eager
  row_same mine eager is =
      ap (λ k. a_row k mine.parent mine.guard mine.made mine.states) is.tag
      ∙ ap (λ o. a_row eager.tag o mine.guard mine.made mine.states) (is.parent ∙ sym (nearest_agree keeps (has own) rows keeps_at eager.parent))
      ∙ ap (λ g. a_row eager.tag (nearest keeps (reverse rows) eager.parent) g mine.made mine.states) is.guard
      ∙ ap (λ m. a_row eager.tag (nearest keeps (reverse rows) eager.parent) eager.guard m mine.states) is.made
      ∙ ap (λ s. a_row eager.tag (nearest keeps (reverse rows) eager.parent) eager.guard eager.made s) is.states

  finds : (t : ℕ) → find (is_tag t) own ≡ find (is_tag t) (restricted keeps rows)
  finds t = at (has own t) refl (has rows t) refl
    where
      at : (b : Bool) → has own t ≡ b → (c : Bool) → has rows t ≡ c → find (is_tag t) own ≡ find (is_tag t) (restricted keeps rows)
      at true there c is =
          let mine = has_found own t there in
          let tag : mine.0.tag ≡ t = found_tag own t mine.0 mine.1 in
          let eager = points.each mine.0 (ap (λ k. find (is_tag k) own) tag ∙ mine.1) in
          mine.1
          ∙ ap Some (row_same mine.0 eager.0 eager.2)
          ∙ sym (ap (option_map (raised keeps rows)) (ap (λ k. find (is_tag k) rows) (sym tag) ∙ eager.1))
          ∙ sym (find_own keeps rows t (or_left _ _ there))
      at false away true is = find_none own t away ∙ sym (find_none (restricted keeps rows) t (dropped (has (restricted keeps rows) t) refl))
        where
          dropped : (b : Bool) → has (restricted keeps rows) t ≡ b → has (restricted keeps rows) t ≡ false
          dropped true left = absurd (not_both (keeps t) (own_keeps keeps rows t left) (keeps_at t is ∙ away))
          dropped false none = none
      at false away false is =
          find_none own t away
          ∙ sym (find_own keeps rows t (ap (λ b. has own t || not b) is ∙ or_true (has own t)) ∙ ap (option_map (raised keeps rows)) (find_none rows t is))
        where
          or_true : (b : Bool) → (b || true) ≡ true
          or_true true = refl
          or_true false = refl

  are : own ≡ restricted keeps rows
  are = rising_same own (restricted keeps rows) (AreRising-rows size own points.own_sound) (AreRising-rows size (restricted keeps rows) (own_rows keeps rows size points.sound root)) finds

  -- above each own tag below another, or there, is a topmost one
  topmost_above : (t n u : ℕ) → u < n → HasTag own u → is_below rows t u ≡ true → (w : ℕ) × IsTopmost own rows t w × (is_on_path rows u w ≡ true)
  topmost_above t zero u less there below = absurd (omega (arith, less))
  topmost_above t (suc n) u less there below = at (find between own) refl (λ v small there below. topmost_above t n v small there below)
    where
      between : Row → Bool
      between row = is_below rows t row.tag && is_below rows row.tag u

      none : find between own ≡ None → (v : ℕ) → HasTag own v → is_below rows t v ≡ true → is_below rows v u ≡ false
      none nothing v own_v below_v = by (is_below rows v u) refl
        where
          by : (b : Bool) → is_below rows v u ≡ b → is_below rows v u ≡ false
          by false off = off
          by true above =
              let mine = has_found own v own_v in
              let tag : mine.0.tag ≡ v = found_tag own v mine.0 mine.1 in
              let passes : between mine.0 ≡ true = ap (λ k. is_below rows t k && is_below rows k u) tag ∙ ap (λ b. b && is_below rows v u) below_v ∙ above in
              absurd (not_both (list_any between own) (find_any (is_tag v) between own mine.0 mine.1 passes) (any_find between own ∙ ap is_some nothing))

      at : (o : Option Row) → find between own ≡ o → ((v : ℕ) → v < n → HasTag own v → is_below rows t v ≡ true → (w : ℕ) × IsTopmost own rows t w × (is_on_path rows v w ≡ true)) → (w : ℕ) × IsTopmost own rows t w × (is_on_path rows u w ≡ true)
      at None nothing later = (u, record { there = there; below = below; between = none nothing }, path_self rows u (eager_has u there))
      at (Some x) found later =
          let parts = and_parts (is_below rows t x.tag) (is_below rows x.tag u) (find_passes between own x found) in
          let small : x.tag < u = below_less size rows x.tag u points.sound parts.1 in
          let rest = later x.tag (omega (arith, small, less)) (found_own x found) parts.0 in
          (rest.0, rest.1, path_chain size rows u x.tag rest.0 points.sound (below_on rows x.tag u parts.1).0 rest.2)
        where
          found_own : (y : Row) → find between own ≡ Some y → HasTag own y.tag
          found_own y is = find_any between (is_tag y.tag) own y is (eq-eqb y.tag y.tag refl)

  covered : (t : ℕ) → HasTag rows t → keeps t ≡ false → MayMiss keeps size rows t
  covered t there drops = at (points.lacking t there (drops_both t drops))
    where
      at : MayLack own size rows t → MayMiss keeps size rows t
      at (inl bare) = inl (λ u has_u is. bare u (sym (keeps_at u has_u) ∙ is))
      at (inr some) =
          inr (
            some.0,
            record {
              there = eager_has some.0 some.1.there;
              keeps = or_left _ _ some.1.there;
              below = some.1.below;
              topmost = λ u has_u is below.
                  let w = topmost_above t (suc u) u (omega arith) (sym (keeps_at u has_u) ∙ is) below in
                  ap (is_on_path rows u) (sym (some.2 w.0 w.1)) ∙ w.2;
              folds = some.3;
            },
          )

  pub from_points : Stands size own rows reached
  from_points = (
    keeps,
    record {
      sound = points.sound;
      are = are;
      root = root;
      unknown = λ t away. ap (λ b. has own t || not b) away ∙ or_true (has own t);
      free = λ t there drops. points.free t there (drops_both t drops);
      covered = covered;
    },
    points.reaches,
  )
    where
      or_true : (b : Bool) → (b || true) ≡ true
      or_true true = refl
      or_true false = refl
