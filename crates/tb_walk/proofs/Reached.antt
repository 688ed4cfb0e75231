-- What a walk reaches, and what keeps it from the rest.
use Rattle.std.proofs.Common.{◌≡◌, ◌∙◌, ◌⊎◌, ◌+◌, ◌≤◌, ◌||◌, ℕ, Bool, true, false, cond, List, [], ◌∷◌, refl, ap, sym, arith, ◌==◌, Option, Some, None, inl, inr}
use Rattle.std.proofs.lemmas.Bool.{eqb-true, eq-eqb, or_right}
use Rattle.tb_shape.specs.Tree.{Keys, IsKeys, HasKey, parent_of, IsPath, IsAncestor}
use Rattle.tb_shape.proofs.Climb.{ancestor_up, ancestor_self}
use Rattle.tb_marks.specs.Event.{contains}
use Rattle.tb_marks.proofs.Trees.{has_parent}
use Rattle.tb_walk.specs.Walk.{count_of, seeded, opened, AreOpened, IsWalk, IsShutOff, IsPassedBy}
use Rattle.tb_walk.proofs.Counts.{count_has, has_count}
use Rattle.tb_walk.proofs.Bounds.{none_on_way, once_off_way}

-- a root is the last key of each way
ends_at : (tree : Keys) (root t : ℕ) (path : List ℕ) → IsKeys tree root → IsPath tree t path → contains path root ≡ true
ends_at tree root t [] is way = absurd way
ends_at tree root t (k ∷ []) is way = at (k == root) refl
  where
    same : k ≡ root
    same = way.0 ∙ is.only t way.1 way.2

    at : (b : Bool) → (k == root) ≡ b → (b || false) ≡ true
    at true h = refl
    at false h = absurd (let clash : true ≡ false = sym (eq-eqb k root same) ∙ h in cc)
ends_at tree root t (k ∷ next ∷ path) is way = or_right (k == root) _ (ends_at tree root next (next ∷ path) is way.2)

module _ (tree : Keys) (root t : ℕ) (path from keys : List ℕ) (shut : ℕ → Bool) (is : IsKeys tree root) (way : IsPath tree t path) (part : (key : ℕ) → count_of key from ≤ count_of key path) (opens : AreOpened tree path from shut keys keys) where
  here : (key p : ℕ) → parent_of tree key ≡ Some p → count_of key keys ≡ cond (contains path key) 0 (count_of p from) + cond (shut p) 0 (count_of p keys)
  here key p up = opens key ∙ ap (λ o. seeded path from key o + opened shut keys o) up

  -- the children of a key from which the walk begins
  child_seeded : (key p : ℕ) → parent_of tree key ≡ Some p → contains from p ≡ true → contains path key ≡ false → contains keys key ≡ true
  child_seeded key p up has off = has_count key keys (omega (arith, here key p up, ap (λ b. cond b 0 (count_of p from)) off, count_has p from has))

  -- those of a visited key that is not shut
  child_opened : (key p : ℕ) → parent_of tree key ≡ Some p → contains keys p ≡ true → shut p ≡ false → contains keys key ≡ true
  child_opened key p up has open_is = has_count key keys (omega (arith, here key p up, ap (λ b. cond b 0 (count_of p keys)) open_is, count_has p keys has))

  off_way : (key : ℕ) → contains keys key ≡ true → contains path key ≡ false
  off_way key has = at (contains path key) refl
    where
      at : (b : Bool) → contains path key ≡ b → contains path key ≡ false
      at false off = off
      at true on = absurd (omega (arith, count_has key keys has, none_on_way tree root t path from keys keys shut is way part (λ k. omega arith) opens key on))

  self_above : (key : ℕ) → HasKey tree key → IsAncestor tree key key
  self_above key has = let q = is.paths key has in ancestor_self tree key q.0 q.1

  shut_up : (key p : ℕ) → parent_of tree key ≡ Some p → IsShutOff tree path shut p → IsShutOff tree path shut key
  shut_up key p up off = (off.0, ancestor_up tree off.0 key p up off.1, off.2, off.3)

  passed_up : (key p : ℕ) → parent_of tree key ≡ Some p → IsPassedBy tree path from p → IsPassedBy tree path from key
  passed_up key p up by = (by.0, ancestor_up tree by.0 key p up by.1, by.2, by.3)

  whole_at : (key : ℕ) (q : List ℕ) → IsPath tree key q → contains path key ≡ false → contains keys key ≡ false → IsShutOff tree path shut key ⊎ IsPassedBy tree path from key
  whole_at key [] up off lacks = absurd up
  whole_at key (k ∷ []) up off lacks =
      let same : key ≡ root = is.only key up.1 up.2 in
      let clash : true ≡ false = sym (ends_at tree root t path is way) ∙ ap (contains path) (sym same) ∙ off in
      absurd (cc)
  whole_at key (k ∷ next ∷ q) up off lacks = at (contains path next) refl (contains from next) refl (contains keys next) refl (shut next) refl (λ on seen. whole_at next (next ∷ q) up.2 on seen)
    where
      there : HasKey tree next
      there = is.up key next up.1

      at : (on : Bool) → contains path next ≡ on → (seed : Bool) → contains from next ≡ seed → (seen : Bool) → contains keys next ≡ seen → (closed : Bool) → shut next ≡ closed → (contains path next ≡ false → contains keys next ≡ false → IsShutOff tree path shut next ⊎ IsPassedBy tree path from next) → IsShutOff tree path shut key ⊎ IsPassedBy tree path from key
      at true on true seed seen is_seen closed is_closed deeper =
          let clash : true ≡ false = sym (child_seeded key next up.1 seed off) ∙ lacks in
          absurd (cc)
      at true on false seed seen is_seen closed is_closed deeper = inr (passed_up key next up.1 (next, self_above next there, on, seed))
      at false on seed is_seed true is_seen true is_closed deeper = inl (shut_up key next up.1 (next, self_above next there, on, is_closed))
      at false on seed is_seed true is_seen false is_closed deeper =
          let clash : true ≡ false = sym (child_opened key next up.1 is_seen is_closed) ∙ lacks in
          absurd (cc)
      at false on seed is_seed false is_seen closed is_closed deeper = higher (deeper on is_seen)
        where
          higher : IsShutOff tree path shut next ⊎ IsPassedBy tree path from next → IsShutOff tree path shut key ⊎ IsPassedBy tree path from key
          higher (inl s) = inl (shut_up key next up.1 s)
          higher (inr b) = inr (passed_up key next up.1 b)

  below_at : (key other : ℕ) (q : List ℕ) → contains keys key ≡ true → IsPath tree other q → contains q key ≡ true → contains keys other ≡ false → IsShutOff tree path shut other
  below_at key other [] has up above lacks = absurd up
  below_at key other (k ∷ []) has up above lacks = absurd (at (k == key) refl above)
    where
      at : (b : Bool) → (k == key) ≡ b → (b || false) ≡ true → ⊥
      at true same h = let clash : true ≡ false = sym has ∙ ap (contains keys) (sym (eqb-true k key same) ∙ up.0) ∙ lacks in absurd (cc)
      at false same h = absurd (cc)
  below_at key other (k ∷ next ∷ q) has up above lacks = at (k == key) refl above (λ h. higher (contains keys next) refl (shut next) refl (below_at key next (next ∷ q) has up.2 h))
    where
      higher : (seen : Bool) → contains keys next ≡ seen → (closed : Bool) → shut next ≡ closed → (contains keys next ≡ false → IsShutOff tree path shut next) → IsShutOff tree path shut other
      higher true is_seen true is_closed deeper = shut_up other next up.1 (next, self_above next (is.up other next up.1), off_way next is_seen, is_closed)
      higher true is_seen false is_closed deeper =
          let clash : true ≡ false = sym (child_opened other next up.1 is_seen is_closed) ∙ lacks in
          absurd (cc)
      higher false is_seen closed is_closed deeper = shut_up other next up.1 (deeper is_seen)

      at : (b : Bool) → (k == key) ≡ b → (b || contains (next ∷ q) key) ≡ true → (contains (next ∷ q) key ≡ true → IsShutOff tree path shut other) → IsShutOff tree path shut other
      at true same h later = absurd (let clash : true ≡ false = sym has ∙ ap (contains keys) (sym (eqb-true k key same) ∙ up.0) ∙ lacks in cc)
      at false same h later = later h

  visited_there : (key : ℕ) → contains keys key ≡ true → HasKey tree key
  visited_there key has = at (parent_of tree key) refl
    where
      at : (o : Option ℕ) → parent_of tree key ≡ o → HasKey tree key
      at (Some p) up = has_parent tree key p up
      at None top = absurd (omega (arith, count_has key keys has, opens key ∙ ap (λ o. seeded path from key o + opened shut keys o) top))

  -- a walk that has visited all its keys
  pub is_walk : IsWalk tree path from shut keys
  is_walk =
      record {
        whole = λ key has off lacks. let q = is.paths key has in whole_at key q.0 q.1 off lacks;
        below = λ key other has above lacks. below_at key other above.0 has above.1 above.2 lacks;
        off = off_way;
        once = once_off_way tree root t path from keys keys shut is way part (λ k. omega arith) opens;
        there = visited_there;
        children = child_seeded;
      }
