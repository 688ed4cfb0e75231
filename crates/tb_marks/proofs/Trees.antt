-- Marks where the tree changes.
use Rattle.std.proofs.Common.{◌≡◌, ◌∙◌, ◌≢◌, ◌⊎◌, ◌||◌, ◌≤◌, ℕ, Bool, true, false, cond, List, [], ◌∷◌, refl, ap, sym, subst, Option, Some, None, inl, inr, ◌==◌, nat_lt, find}
use Rattle.std.specs.Prelude.{option_and_then}
use Rattle.std.specs.List.{list_any}
use Rattle.std.proofs.lemmas.Bool.{eqb-true, eq-eqb, ne_eqb, cases_eq, or_right}
use Rattle.tb_perm.specs.declared.perm.Mark.{Mark}
use Rattle.tb_perm.specs.declared.perm.State.{State}
use Rattle.tb_perm.specs.Table.{IsIdle}
use Rattle.tb_perm.specs.Marked.{level}
use Rattle.tb_perm.proofs.Idle.{idle_freed, leaves_more}
use Rattle.tb_shape.specs.Tree.{Keys, IsKeys, is_key, HasKey, parent_of, IsPath, IsAncestor, with_child}
use Rattle.tb_marks.specs.Marks.{Promises, AtByte, AreSound}
use Rattle.tb_marks.specs.Event.{contains}
use Rattle.tb_marks.specs.Changes.{IsWithin, IsLesser, IsMade}
use Rattle.tb_marks.proofs.Ways.{one_path}

promises_less : (low high : Mark) (s : State) (g : Bool) → level low ≤ level high → Promises high s g → Promises low s g
promises_less low high s g less promises = λ asked leaves. promises asked (leaves_more low high asked less leaves)

promises_freed : (mark : Mark) (s : State) (old now : Bool) → (now ≡ old) ⊎ (now ≡ false) → Promises mark s old → Promises mark s now
promises_freed mark s old now (inl same) promises = subst (Promises mark s) (sym same) promises
promises_freed mark s old now (inr free) promises = λ asked leaves. subst (λ g. IsIdle s g asked) (sym free) (idle_freed s old asked (promises asked leaves))

-- marks stay sound where they promise less, of less
pub lesser_sound : (tree now_tree : Keys) (old now : AtByte) → AreSound tree old → IsWithin now_tree tree → IsLesser old now → AreSound now_tree now
lesser_sound tree now_tree old now sound within lesser =
    λ above key anc. subst (λ s. Promises (now.mark above) s (now.guarded key)) (sym (lesser.states key))
    (promises_less (now.mark above) (old.mark above) (old.state key) (now.guarded key) (lesser.marks above)
    (promises_freed (old.mark above) (old.state key) (old.guarded key) (now.guarded key) (lesser.guards key) (sound above key (within above key anc))))

-- a tree with a further key
find_other : (parent key q : ℕ) (tree : Keys) → key ≢ q → find (is_key q) (with_child parent key tree) ≡ find (is_key q) tree
find_other parent key q [] differs = ap (λ b. cond b (Some (key, Some parent)) None) (ne_eqb key q differs)
find_other parent key q (e ∷ tree) differs = at (nat_lt e.0 key) (find_other parent key q tree differs)
  where
    at : (b : Bool) → find (is_key q) (with_child parent key tree) ≡ find (is_key q) tree → find (is_key q) (cond b (e ∷ with_child parent key tree) ((key, Some parent) ∷ e ∷ tree)) ≡ find (is_key q) (e ∷ tree)
    at true later = ap (λ o. cond (e.0 == q) (Some e) o) later
    at false later = ap (λ b. cond b (Some (key, Some parent)) (find (is_key q) (e ∷ tree))) (ne_eqb key q differs)

find_new : (parent key : ℕ) (tree : Keys) → (HasKey tree key → ⊥) → find (is_key key) (with_child parent key tree) ≡ Some (key, Some parent)
find_new parent key [] fresh = ap (λ b. cond b (Some (key, Some parent)) None) (eq-eqb key key refl)
find_new parent key (e ∷ tree) fresh = at (nat_lt e.0 key) (e.0 == key) refl (find_new parent key tree (λ has. fresh (or_right (e.0 == key) _ has)))
  where
    at : (b c : Bool) → (e.0 == key) ≡ c → find (is_key key) (with_child parent key tree) ≡ Some (key, Some parent) → find (is_key key) (cond b (e ∷ with_child parent key tree) ((key, Some parent) ∷ e ∷ tree)) ≡ Some (key, Some parent)
    at true true is later = absurd (fresh (ap (λ b. b || list_any (is_key key) tree) is))
    at true false is later = ap (λ b. cond b (Some e) (find (is_key key) (with_child parent key tree))) is ∙ later
    at false c is later = ap (λ b. cond b (Some (key, Some parent)) (find (is_key key) (e ∷ tree))) (eq-eqb key key refl)

pub parent_other : (parent key q : ℕ) (tree : Keys) → key ≢ q → parent_of (with_child parent key tree) q ≡ parent_of tree q
parent_other parent key q tree differs = ap (option_and_then (λ (e : ℕ × Option ℕ). e.1)) (find_other parent key q tree differs)

pub parent_new : (parent key : ℕ) (tree : Keys) → (HasKey tree key → ⊥) → parent_of (with_child parent key tree) key ≡ Some parent
parent_new parent key tree fresh = ap (option_and_then (λ (e : ℕ × Option ℕ). e.1)) (find_new parent key tree fresh)

-- a key that is found is there
has_from_find : (tree : Keys) (q : ℕ) (e : ℕ × Option ℕ) → find (is_key q) tree ≡ Some e → HasKey tree q
has_from_find [] q e is = cc
has_from_find (x ∷ tree) q e is = at (x.0 == q) is (has_from_find tree q e)
  where
    at : (b : Bool) → cond b (Some x) (find (is_key q) tree) ≡ Some e → (find (is_key q) tree ≡ Some e → HasKey tree q) → (b || list_any (is_key q) tree) ≡ true
    at true is later = refl
    at false is later = later is

find_from_has : (tree : Keys) (q : ℕ) → HasKey tree q → (e : ℕ × Option ℕ) × (find (is_key q) tree ≡ Some e)
find_from_has [] q has = cc
find_from_has (x ∷ tree) q has = at (x.0 == q) has (find_from_has tree q)
  where
    at : (b : Bool) → (b || list_any (is_key q) tree) ≡ true → (HasKey tree q → (e : ℕ × Option ℕ) × (find (is_key q) tree ≡ Some e)) → (e : ℕ × Option ℕ) × (cond b (Some x) (find (is_key q) tree) ≡ Some e)
    at true has later = (x, refl)
    at false has later = later has

pub has_parent : (tree : Keys) (q p : ℕ) → parent_of tree q ≡ Some p → HasKey tree q
has_parent tree q p up = at (find (is_key q) tree) refl up
  where
    at : (o : Option (ℕ × Option ℕ)) → find (is_key q) tree ≡ o → option_and_then (λ (e : ℕ × Option ℕ). e.1) o ≡ Some p → HasKey tree q
    at None is up = cc
    at (Some e) is up = has_from_find tree q e is

-- the keys of a way are there
pub way_there : (tree : Keys) (t q : ℕ) (path : List ℕ) → IsPath tree t path → contains path q ≡ true → HasKey tree q
way_there tree t q [] is has = absurd is
way_there tree t q (k ∷ []) is has = at (k == q) refl has
  where
    at : (b : Bool) → (k == q) ≡ b → (b || false) ≡ true → HasKey tree q
    at true same h = subst (HasKey tree) (sym is.0 ∙ eqb-true k q same) is.1
    at false same h = cc
way_there tree t q (k ∷ next ∷ path) is has = at (k == q) refl has (way_there tree next q (next ∷ path) is.2)
  where
    at : (b : Bool) → (k == q) ≡ b → (b || contains (next ∷ path) q) ≡ true → (contains (next ∷ path) q ≡ true → HasKey tree q) → HasKey tree q
    at true same h later = subst (HasKey tree) (sym is.0 ∙ eqb-true k q same) (has_parent tree t next is.1)
    at false same h later = later h

module _ (tree : Keys) (root parent key : ℕ) (is : IsKeys tree root) (fresh : HasKey tree key → ⊥) where
  apart : (q : ℕ) → HasKey tree q → key ≢ q
  apart q has same = fresh (subst (HasKey tree) (sym same) has)

  -- ways of earlier keys are as before
  old_way : (t : ℕ) (path : List ℕ) → HasKey tree t → IsPath (with_child parent key tree) t path → IsPath tree t path
  old_way t [] has way = way
  old_way t (k ∷ []) has way = (way.0, has, sym (parent_other parent key t tree (apart t has)) ∙ way.2)
  old_way t (k ∷ next ∷ path) has way =
      let up : parent_of tree t ≡ Some next = sym (parent_other parent key t tree (apart t has)) ∙ way.1 in
      (way.0, up, old_way next (next ∷ path) (is.up t next up) way.2)

  -- the way of the new key
  new_way : (above : ℕ) (path way : List ℕ) → IsPath tree parent path → IsPath (with_child parent key tree) key way → contains way above ≡ true → (key ≡ above) ⊎ (contains path above ≡ true)
  new_way above path [] is_path way has = absurd way
  new_way above path (k ∷ []) is_path way has = let clash : Some parent ≡ None = sym (parent_new parent key tree fresh) ∙ way.2 in cc
  new_way above path (k ∷ next ∷ rest) is_path way has =
      let both : Some next ≡ Some parent = sym way.1 ∙ parent_new parent key tree fresh in
      let same : next ≡ parent = cc in
      let below : IsPath tree parent (next ∷ rest) = old_way parent (next ∷ rest) (parent_there path is_path) (subst (λ n. IsPath (with_child parent key tree) n (next ∷ rest)) same way.2) in
      at (k == above) refl has (one_path tree parent (next ∷ rest) path below is_path)
    where
      parent_there : (path : List ℕ) → IsPath tree parent path → HasKey tree parent
      parent_there [] is_path = absurd is_path
      parent_there (k ∷ []) is_path = is_path.1
      parent_there (k ∷ next ∷ path) is_path = has_parent tree parent next is_path.1

      at : (b : Bool) → (k == above) ≡ b → (b || contains (next ∷ rest) above) ≡ true → next ∷ rest ≡ path → (key ≡ above) ⊎ (contains path above ≡ true)
      at true same h one = inl (sym way.0 ∙ eqb-true k above same)
      at false same h one = inr (sym (ap (λ p. contains p above) one) ∙ h)

  pub made_sound : (path : List ℕ) (floor : Mark) (old now : AtByte) → AreSound tree old → IsPath tree parent path → IsMade path key floor old now → AreSound (with_child parent key tree) now
  made_sound path floor old now sound is_path made = λ above below anc. at above below anc (cases_eq below key)
    where
      there : (below : ℕ) (way : List ℕ) → below ≢ key → IsPath (with_child parent key tree) below way → HasKey tree below
      there below [] differs way = absurd way
      there below (k ∷ []) differs way =
          let found = find_from_has (with_child parent key tree) below way.1 in
          has_from_find tree below found.0 (sym (find_other parent key below tree (λ same. differs (sym same))) ∙ found.1)
      there below (k ∷ next ∷ way) differs way_is = has_parent tree below next (sym (parent_other parent key below tree (λ same. differs (sym same))) ∙ way_is.1)

      at : (above below : ℕ) → IsAncestor (with_child parent key tree) above below → (below ≡ key) ⊎ (below ≢ key) → Promises (now.mark above) (now.state below) (now.guarded below)
      at above below anc (inr differs) =
          let way = old_way below anc.0 (there below anc.0 differs anc.1) anc.1 in
          let other : above ≢ key = λ same. apart above (way_there tree below above anc.0 way anc.2) (sym same) in
          subst (λ g. Promises (now.mark above) (now.state below) g) (sym (made.guards below differs))
          (subst (λ s. Promises (now.mark above) s (old.guarded below)) (sym (made.states below differs))
          (promises_less (now.mark above) (old.mark above) (old.state below) (old.guarded below) (made.marks above other) (sound above below (anc.0, way, anc.2))))
      at above below anc (inl same) =
          subst (λ k. Promises (now.mark above) (now.state k) (now.guarded k)) (sym same)
          (promises_less (now.mark above) floor (now.state key) (now.guarded key) (less (new_way above path anc.0 is_path (subst (λ k. IsPath (with_child parent key tree) k anc.0) same anc.1) anc.2)) made.promised)
        where
          less : (key ≡ above) ⊎ (contains path above ≡ true) → level (now.mark above) ≤ level floor
          less (inl own) = subst (λ k. level (now.mark k) ≤ level floor) own made.own
          less (inr on) = made.way above on
