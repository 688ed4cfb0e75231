-- No tag is visited twice, and each that is counts.
use Rattle.std.proofs.Common.{◌≡◌, ◌∙◌, ◌+◌, ◌≤◌, ◌<◌, ◌||◌, ℕ, Bool, true, false, cond, not, List, [], ◌∷◌, ◌++◌, length, filter, map, refl, ap, arith, ◌==◌, Option, Some, None}
use Rattle.std.proofs.lemmas.Bool.{or_left, or_right}
use Rattle.std.proofs.lemmas.List.{length-append}
use Rattle.tb_shape.specs.Tree.{Keys, IsKeys, HasKey, parent_of, IsPath}
use Rattle.tb_marks.specs.Event.{contains}
use Rattle.tb_marks.proofs.Ways.{has_start, path_from_key}
use Rattle.tb_marks.proofs.Trees.{has_parent, way_there}
use Rattle.tb_walk.specs.Walk.{count_of, seeded, opened, AreOpened, asks, is_counted, counted}
use Rattle.tb_walk.proofs.Counts.{count_has, count_lacks, count_append, count_kept, length_from_counts}
use Rattle.tb_walk.proofs.Seeds.{once_on_way}

module _ (tree : Keys) (root t : ℕ) (path from done keys : List ℕ) (shut : ℕ → Bool) (is : IsKeys tree root) (way : IsPath tree t path) (part : (key : ℕ) → count_of key from ≤ count_of key path) (front : (key : ℕ) → count_of key done ≤ count_of key keys) (opens : AreOpened tree path from shut done keys) where
  few_from : (key : ℕ) → count_of key from ≤ 1
  few_from key = omega (arith, part key, once_on_way tree t key path way)

  off_from : (key : ℕ) → contains path key ≡ false → count_of key from ≡ 0
  off_from key off = omega (arith, part key, count_lacks key path off)

  -- a tag of the way is not visited off it
  none_at : (key : ℕ) (q : List ℕ) → IsPath tree key q → ((a : ℕ) → contains q a ≡ true → contains path a ≡ true) → count_of key keys ≡ 0
  none_at key [] up within = absurd up
  none_at key (k ∷ []) up within = opens key ∙ ap (λ o. seeded path from key o + opened shut done o) up.2
  none_at key (k ∷ next ∷ q) up within =
      opens key ∙ ap (λ o. seeded path from key o + opened shut done o) up.1 ∙ at (contains path key) (within key (has_start tree key (k ∷ next ∷ q) up)) (shut next) (none_at next (next ∷ q) up.2 (λ a h. within a (or_right (k == a) _ h)))
    where
      at : (b : Bool) → b ≡ true → (c : Bool) → count_of next keys ≡ 0 → cond b 0 (count_of next from) + cond c 0 (count_of next done) ≡ 0
      at false on c none = absurd (cc)
      at true on true none = refl
      at true on false none = omega (arith, front next, none)

  pub none_on_way : (key : ℕ) → contains path key ≡ true → count_of key keys ≡ 0
  none_on_way key on = let q = path_from_key tree t key path way on in none_at key q.0 q.1 q.2

  once_at : (key : ℕ) (q : List ℕ) → IsPath tree key q → count_of key keys ≤ 1
  once_at key [] up = absurd up
  once_at key (k ∷ []) up = omega (arith, opens key ∙ ap (λ o. seeded path from key o + opened shut done o) up.2)
  once_at key (k ∷ next ∷ q) up =
      at (contains path key) (contains path next) refl (shut next) (once_at next (next ∷ q) up.2) (opens key ∙ ap (λ o. seeded path from key o + opened shut done o) up.1)
    where
      at : (b c : Bool) → contains path next ≡ c → (d : Bool) → count_of next keys ≤ 1 → count_of key keys ≡ cond b 0 (count_of next from) + cond d 0 (count_of next done) → count_of key keys ≤ 1
      at true c is d later here = least d here
        where
          least : (d : Bool) → count_of key keys ≡ 0 + cond d 0 (count_of next done) → count_of key keys ≤ 1
          least true here = omega (arith, here)
          least false here = omega (arith, here, front next, later)
      at false true is true later here = omega (arith, here, few_from next)
      at false true is false later here = omega (arith, here, few_from next, front next, none_on_way next is)
      at false false is true later here = omega (arith, here, off_from next is)
      at false false is false later here = omega (arith, here, off_from next is, front next, later)

  -- a key without a parent is not visited off the way
  none_top : (key : ℕ) → parent_of tree key ≡ None → count_of key keys ≡ 0
  none_top key top = opens key ∙ ap (λ o. seeded path from key o + opened shut done o) top

  pub once_off_way : (key : ℕ) → count_of key keys ≤ 1
  once_off_way key = at (parent_of tree key) refl
    where
      at : (o : Option ℕ) → parent_of tree key ≡ o → count_of key keys ≤ 1
      at None top = omega (arith, none_top key top)
      at (Some p) up = let q = is.paths key (has_parent tree key p up) in once_at key q.0 q.1

  -- a visited key has a parent, and counts
  visited_counts : (key : ℕ) → 0 < count_of key keys → HasKey tree key × (is_counted tree path shut key ≡ true)
  visited_counts key some = at (parent_of tree key) refl
    where
      at : (o : Option ℕ) → parent_of tree key ≡ o → HasKey tree key × (is_counted tree path shut key ≡ true)
      at None top = absurd (omega (arith, some, none_top key top))
      at (Some p) up = (has_parent tree key p up, or_right (contains path key) _ (ap (asks path shut) up ∙ asked (contains path p) refl (shut p) refl))
        where
          here : count_of key keys ≡ seeded path from key (Some p) + opened shut done (Some p)
          here = opens key ∙ ap (λ o. seeded path from key o + opened shut done o) up

          none : (b : Bool) → contains path p ≡ false → cond b 0 (count_of p from) ≡ 0
          none true off = refl
          none false off = off_from p off

          asked : (b : Bool) → contains path p ≡ b → (c : Bool) → shut p ≡ c → (b || not c) ≡ true
          asked true is c shut_is = refl
          asked false is false shut_is = refl
          asked false is true shut_is = absurd (omega (arith, some, here, none (contains path key) is, ap (λ b. cond b 0 (count_of p done)) shut_is))

  on_counts : (key : ℕ) → contains path key ≡ true → HasKey tree key × (is_counted tree path shut key ≡ true)
  on_counts key on = (way_there tree t key path way on, or_left (contains path key) _ on)

  -- the way and the visited keys are at most those that count
  pub counted_bound : length path + length keys ≤ counted tree path shut
  counted_bound = omega (arith, length_from_counts (path ++ keys) Kept at, length-append path keys)
    where
      Kept : List ℕ
      Kept = filter (is_counted tree path shut) (map (λ (e : ℕ × Option ℕ). e.0) tree)

      at : (key : ℕ) → count_of key (path ++ keys) ≤ count_of key Kept
      at key = by (contains path key) refl (contains keys key) refl
        where
          by : (b : Bool) → contains path key ≡ b → (c : Bool) → contains keys key ≡ c → count_of key (path ++ keys) ≤ count_of key Kept
          by true on c is =
              let counts = on_counts key on in
              omega (arith, count_append key path keys, none_on_way key on, once_on_way tree t key path way, count_kept (is_counted tree path shut) tree key counts.0 counts.1)
          by false off true has =
              let counts = visited_counts key (count_has key keys has) in
              omega (arith, count_append key path keys, count_lacks key path off, once_off_way key, count_kept (is_counted tree path shut) tree key counts.0 counts.1)
          by false off false lacks = omega (arith, count_append key path keys, count_lacks key path off, count_lacks key keys lacks)
