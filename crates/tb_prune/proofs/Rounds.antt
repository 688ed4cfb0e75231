-- A prune round by round: the first is nothing done, each decides one tag more, and at the root all are.
use Rattle.std.proofs.Common.{◌≡◌, ◌∙◌, ◌≢◌, ◌⊎◌, ◌&&◌, ◌||◌, ℕ, zero, suc, ◌<◌, ◌≤◌, Bool, true, false, cond, not, List, [], ◌∷◌, refl, ap, sym, subst, arith, Option, Some, None, inl, inr, ◌==◌}
use Rattle.std.specs.Prelude.{IsSome}
use Rattle.std.specs.List.{list_any, AllByRecursion}
use Rattle.std.proofs.lemmas.Bool.{eqb-true, eq-eqb, ne_eqb, cases_eq, or_left}
use Rattle.tb_perm.specs.Rows.{Row, is_tag, HasTag, IsRows, guard_in}
use Rattle.tb_perm.specs.Table.{is_guarded}
use Rattle.tb_perm.specs.Release.{is_below}
use Rattle.tb_perm.specs.Pruning.{is_noted, parent_in, forgotten}
use Rattle.tb_perm.proofs.Unique.{AreRising-rows}
use Rattle.tb_stands.specs.Restricted.{restricted}
use Rattle.tb_stands.specs.Stands.{MayMiss}
use Rattle.tb_stands.specs.Folded.{is_first, must_stay, Prunes}
use Rattle.tb_stands.proofs.Ways.{has_own, own_keeps, own_has}
use Rattle.tb_stands.proofs.Below.{not_both, below_less}
use Rattle.tb_stands.proofs.Folds.{both, restricted_twice, guard_own}
use Rattle.tb_stands.proofs.One.{miss_same}
use Rattle.tb_stands.proofs.Start.{every, restricted_every, but, but_self, but_other, removed_restricted}
use Rattle.tb_prune.specs.Visits.{is_busy, MayGo, Leaves, TakesOut, Visits}
use Rattle.tb_prune.specs.Rounds.{IsDecided, Decided}
use Rattle.tb_prune.proofs.Children.{go_miss, miss_go}

-- what holds of the tags of all rows holds of a tag that has one
pub all_has : (P : ℕ → Type 0) (rows : List Row) (t : ℕ) → AllByRecursion (λ (row : Row). P row.tag) rows → HasTag rows t → P t
all_has P [] t all has = absurd (not_both false has refl)
all_has P (row ∷ rows) t all has = at (is_tag t row) refl has (all_has P rows t all.1)
  where
    at : (b : Bool) → is_tag t row ≡ b → (b || list_any (is_tag t) rows) ≡ true → (HasTag rows t → P t) → P t
    at true is has later = subst P (eqb-true row.tag t is) all.0
    at false is has later = later has

le_or_less : (a b : ℕ) → (a ≤ b) ⊎ (b < a)
le_or_less zero b = inl (omega arith)
le_or_less (suc a) zero = inr (omega arith)
le_or_less (suc a) (suc b) = at (le_or_less a b)
  where
    at : (a ≤ b) ⊎ (b < a) → (suc a ≤ suc b) ⊎ (suc b < suc a)
    at (inl least) = inl (omega (arith, least))
    at (inr less) = inr (omega (arith, less))

-- the first row's tag is the least
first_least : (size : ℕ) (rows : List Row) (t u : ℕ) → IsRows size rows → is_first rows t ≡ true → HasTag rows u → t ≤ u
first_least size [] t u is first has = absurd (not_both false first refl)
first_least size (row ∷ rows) t u is first has =
    all_has (λ k. t ≤ k) (row ∷ rows) u (first_le, later rows (AreRising-rows size (row ∷ rows) is).0) has
  where
    same : row.tag ≡ t
    same = eqb-true row.tag t first

    first_le : t ≤ row.tag
    first_le = omega (arith, same)

    later : (xs : List Row) → AllByRecursion (λ (o : Row). row.tag < o.tag) xs → AllByRecursion (λ (o : Row). t ≤ o.tag) xs
    later [] all = tt
    later (x ∷ xs) all = (omega (arith, same, all.0), later xs all.1)

-- some tag is the first
some_first : (size : ℕ) (rows : List Row) → IsRows size rows → (t : ℕ) × (is_first rows t ≡ true) × HasTag rows t
some_first size [] is = absurd is.grown
some_first size (row ∷ rows) is = (row.tag, eq-eqb row.tag row.tag refl, or_left _ _ (eq-eqb row.tag row.tag refl))

forgotten_other : (notes : List ℕ) (t u : ℕ) → u ≢ t → is_noted (forgotten notes t) u ≡ is_noted notes u
forgotten_other [] t u differs = refl
forgotten_other (k ∷ notes) t u differs = at (k == t) refl (forgotten_other notes t u differs)
  where
    at : (b : Bool) → (k == t) ≡ b → is_noted (forgotten notes t) u ≡ is_noted notes u → is_noted (cond (not b) (k ∷ forgotten notes t) (forgotten notes t)) u ≡ is_noted (k ∷ notes) u
    at true same later = later ∙ sym (ap (λ b. b || is_noted notes u) (ne_eqb k u (λ equal. differs (sym equal ∙ eqb-true k t same))))
    at false other later = ap (λ b. (k == u) || b) later

both_at : (stays : ℕ → Bool) (t u : ℕ) → u ≢ t → stays u ≡ both stays (but t) u
both_at stays t u differs = sym (ap (λ b. stays u && b) (but_other t u differs) ∙ and_true (stays u))
  where
    and_true : (b : Bool) → (b && true) ≡ b
    and_true true = refl
    and_true false = refl

both_self : (stays : ℕ → Bool) (t : ℕ) → both stays (but t) t ≡ false
both_self stays t = ap (λ b. stays t && b) (but_self t) ∙ and_false (stays t)
  where
    and_false : (b : Bool) → (b && false) ≡ false
    and_false true = refl
    and_false false = refl

some_parent : (o : Option ℕ) → IsSome o → (p : ℕ) × (o ≡ Some p)
some_parent None is = absurd (not_both false is refl)
some_parent (Some p) is = (p, refl)

module _ (size : ℕ) (rows : List Row) (reached : List ℕ) (is : IsRows size rows) where
  -- nothing is decided
  pub start_round : (g : ℕ) → AllByRecursion (λ (row : Row). row.tag ≤ g) rows → Decided size rows reached g rows reached
  start_round g all = (
    every,
    record {
      are = sym (restricted_every size rows is);
      sound = is;
      unknown = λ t away. refl;
      later = λ t has least. refl;
      must = λ t has must. refl;
      goes = λ t has drops. absurd (not_both true refl drops);
      all_go = λ t has less free may. absurd (apart t (all_has (λ k. k ≤ g) rows t all has) less);
      noted = λ t has. refl;
    },
  )
    where
      apart : (t : ℕ) → t ≤ g → g < t → ⊥
      apart t least less = absurd (omega (arith, least, less))

  module _ (n : ℕ) (stays : ℕ → Bool) (now : List Row) (notes : List ℕ) (decided : IsDecided size rows reached n stays now notes) (has_now : HasTag now n) where
    has_n : HasTag rows n
    has_n = own_has stays rows n (subst (λ o. HasTag o n) decided.are has_now)

    keeps_n : stays n ≡ true
    keeps_n = own_keeps stays rows n (subst (λ o. HasTag o n) decided.are has_now)

    still : (u : ℕ) → HasTag rows u → u ≤ n → HasTag now u
    still u has least = subst (λ o. HasTag o u) (sym decided.are) (has_own stays rows u (decided.later u has least) ∙ has)

    -- all is decided
    pub end_round : AllByRecursion (λ (row : Row). n ≤ row.tag) now → Prunes size reached rows now
    end_round least = (
      stays,
      record {
        unknown = decided.unknown;
        must = decided.must;
        goes = decided.goes;
        all_go = λ u has free may. at u has free may (le_or_less u n);
      },
      decided.are,
    )
      where
        lowest : (u : ℕ) → HasTag rows u → u ≤ n → n ≡ u
        lowest u has high = let low : n ≤ u = all_has (λ k. n ≤ k) now u least (still u has high) in omega (arith, low, high)

        first : is_first rows n ≡ true
        first =
            let f = some_first size rows is in
            let high : f.0 ≤ n = first_least size rows f.0 n is f.1 has_n in
            ap (is_first rows) (lowest f.0 f.2 high) ∙ f.1

        at : (u : ℕ) → HasTag rows u → must_stay rows reached u ≡ false → MayMiss stays size rows u → (u ≤ n) ⊎ (n < u) → stays u ≡ false
        at u has free may (inr less) = decided.all_go u has less free may
        at u has free may (inl high) = absurd (not_both (must_stay rows reached u) (or_left _ _ (ap (is_first rows) (sym (lowest u has high)) ∙ first)) free)

    module _ (next : ℕ) (less_next : next < n) (has_next : HasTag now next) (greatest : AllByRecursion (λ (row : Row). row.tag < n → row.tag ≤ next) now) (left : List Row) (rest : List ℕ) (sound : IsRows size left) where
      -- no tag lies between
      no_other : (u : ℕ) → HasTag rows u → next < u → u ≤ n → u ≡ n
      no_other u has above high = at (cases_eq u n)
        where
          at : (u ≡ n) ⊎ (u ≢ n) → u ≡ n
          at (inl same) = same
          at (inr differs) =
              let less : u < n = omega (arith, high, differs) in
              let low : u ≤ next = all_has (λ k. k < n → k ≤ next) now u greatest (still u has high) less in
              absurd (omega (arith, low, above))

      not_first : is_first rows n ≡ false
      not_first = at (is_first rows n) refl
        where
          at : (b : Bool) → is_first rows n ≡ b → is_first rows n ≡ false
          at true first = let low : n ≤ next = first_least size rows n next is first (own_has stays rows next (subst (λ o. HasTag o next) decided.are has_next)) in absurd (omega (arith, low, less_next))
          at false none = none

      must_same : must_stay rows reached n ≡ is_busy now notes n
      must_same =
          ap (λ b. b || (is_noted reached n || is_guarded (guard_in rows n))) not_first
          ∙ ap (λ b. b || is_guarded (guard_in rows n)) (sym (decided.noted n has_now))
          ∙ ap (λ g. is_noted notes n || is_guarded g) (sym (ap (λ o. guard_in o n) decided.are ∙ guard_own stays rows n keeps_n))

      leaves_round : Leaves size now notes n left rest → IsDecided size rows reached next stays left rest
      leaves_round visit =
          record {
            are = visit.same ∙ decided.are;
            sound = sound;
            unknown = decided.unknown;
            later = λ u has low. decided.later u has (lower u low);
            must = decided.must;
            goes = decided.goes;
            all_go = λ u has above free may. at u has above free may (le_or_less u n);
            noted = λ u has. ap (λ xs. is_noted xs u) visit.same_notes ∙ decided.noted u (subst (λ o. HasTag o u) visit.same has);
          }
        where
          lower : (u : ℕ) → u ≤ next → u ≤ n
          lower u low = omega (arith, low, less_next)

          never : must_stay rows reached n ≡ false → MayMiss stays size rows n → (is_busy now notes n ≡ true) ⊎ (MayGo size now n → ⊥) → ⊥
          never free may (inl busy) = not_both (must_stay rows reached n) (must_same ∙ busy) free
          never free may (inr none) = none (subst (λ o. MayGo size o n) (sym decided.are) (miss_go stays size rows is (subst (IsRows size) decided.are decided.sound) n keeps_n may))

          at : (u : ℕ) → HasTag rows u → next < u → must_stay rows reached u ≡ false → MayMiss stays size rows u → (u ≤ n) ⊎ (n < u) → stays u ≡ false
          at u has above free may (inr less) = decided.all_go u has less free may
          at u has above free may (inl high) =
              let same : u ≡ n = no_other u has above high in
              absurd (never (ap (must_stay rows reached) (sym same) ∙ free) (subst (MayMiss stays size rows) same may) visit.why)

      module _ (visit : TakesOut size now notes n left rest) (p : ℕ) (up : parent_in now n ≡ Some p) where
        abbrev out : ℕ → Bool
        out = both stays (but n)

        left_is : left ≡ restricted (but n) now
        left_is = visit.without ∙ removed_restricted size now n p decided.sound has_now up

        free_n : must_stay rows reached n ≡ false
        free_n = must_same ∙ visit.idle

        -- what is greater is as before
        same_above : (u v : ℕ) → n ≤ u → HasTag rows v → is_below rows u v ≡ true → stays v ≡ out v
        same_above u v low has below = both_at stays n v (apart (below_less size rows u v is below))
          where
            apart : u < v → v ≢ n
            apart less same = absurd (omega (arith, less, same, low))

        stays_other : (u : ℕ) → u ≢ n → stays u ≡ true → out u ≡ true
        stays_other u differs keeps = sym (both_at stays n u differs) ∙ keeps

        unknown : (u : ℕ) → list_any (is_tag u) rows ≡ false → out u ≡ true
        unknown u away = stays_other u (λ same. not_both (list_any (is_tag u) rows) (ap (λ k. list_any (is_tag k) rows) same ∙ has_n) away) (decided.unknown u away)

        later : (u : ℕ) → HasTag rows u → u ≤ next → out u ≡ true
        later u has low = stays_other u apart (decided.later u has lower)
          where
            apart : u ≢ n
            apart same = absurd (omega (arith, low, less_next, same))

            lower : u ≤ n
            lower = omega (arith, low, less_next)

        must : (u : ℕ) → HasTag rows u → must_stay rows reached u ≡ true → out u ≡ true
        must u has needs = stays_other u (λ same. not_both (must_stay rows reached u) needs (ap (must_stay rows reached) same ∙ free_n)) (decided.must u has needs)

        miss_n : MayMiss stays size rows n
        miss_n = go_miss stays size rows is (subst (IsRows size) decided.are decided.sound) n keeps_n (subst (λ o. MayGo size o n) decided.are visit.may)

        goes : (u : ℕ) → HasTag rows u → out u ≡ false → MayMiss out size rows u
        goes u has drops = at (cases_eq u n) (stays u) refl
          where
            high : stays u ≡ false → n ≤ u
            high gone = by (le_or_less n u)
              where
                by : (n ≤ u) ⊎ (u < n) → n ≤ u
                by (inl low) = low
                by (inr less) = absurd (not_both (stays u) (decided.later u has (omega (arith, less))) gone)

            at : (u ≡ n) ⊎ (u ≢ n) → (b : Bool) → stays u ≡ b → MayMiss out size rows u
            at (inl same) b is_b = subst (MayMiss out size rows) (sym same) (miss_same stays out size rows n (λ v has_v below. same_above n v (omega arith) has_v below) miss_n)
            at (inr differs) true keeps = absurd (not_both (out u) (stays_other u differs keeps) drops)
            at (inr differs) false gone = miss_same stays out size rows u (λ v has_v below. same_above u v (high gone) has_v below) (decided.goes u has gone)

        all_go : (u : ℕ) → HasTag rows u → next < u → must_stay rows reached u ≡ false → MayMiss out size rows u → out u ≡ false
        all_go u has above free may = at (cases_eq u n) (le_or_less u n)
          where
            at : (u ≡ n) ⊎ (u ≢ n) → (u ≤ n) ⊎ (n < u) → out u ≡ false
            at (inl same) order = ap out same ∙ both_self stays n
            at (inr differs) (inl high) = absurd (differs (no_other u has above high))
            at (inr differs) (inr less) =
                sym (both_at stays n u differs)
                ∙ decided.all_go u has less free (miss_same out stays size rows u (λ v has_v below. sym (same_above u v (omega (arith, less)) has_v below)) may)

        noted : (u : ℕ) → HasTag left u → is_noted rest u ≡ is_noted reached u
        noted u has =
            let there : HasTag (restricted (but n) now) u = subst (λ o. HasTag o u) left_is has in
            let differs : u ≢ n = λ same. not_both (but n u) (own_keeps (but n) now u there) (ap (but n) same ∙ but_self n) in
            ap (λ xs. is_noted xs u) visit.notes_without ∙ forgotten_other notes n u differs ∙ decided.noted u (own_has (but n) now u there)

        takes_round : IsDecided size rows reached next out left rest
        takes_round =
            record {
              are = left_is ∙ ap (restricted (but n)) decided.are ∙ restricted_twice stays (but n) size rows is;
              sound = sound;
              unknown = unknown;
              later = later;
              must = must;
              goes = goes;
              all_go = all_go;
              noted = noted;
            }

      -- one tag more
      pub next_round : IsSome (parent_in now n) → Visits size now notes n left rest → Decided size rows reached next left rest
      next_round some (inl visit) = (stays, leaves_round visit)
      next_round some (inr visit) = let p = some_parent (parent_in now n) some in (both stays (but n), takes_round visit p.0 p.1)

      -- the one below is still there
      pub next_has : Visits size now notes n left rest → IsSome (parent_in now n) → HasTag left next
      next_has (inl visit) some = subst (λ o. HasTag o next) (sym visit.same) has_next
      next_has (inr visit) some =
          let p = some_parent (parent_in now n) some in
          subst (λ o. HasTag o next) (sym (left_is visit p.0 p.1)) (has_own (but n) now next (but_other n next apart) ∙ has_next)
        where
          apart : next ≢ n
          apart same = absurd (omega (arith, less_next, same))
