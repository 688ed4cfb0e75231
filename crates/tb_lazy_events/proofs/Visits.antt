-- What the rows of a walk's tags are at a byte.
use Rattle.std.proofs.Common.{◌≡◌, ◌∙◌, ◌+◌, ◌≤◌, ◌<◌, ◌&&◌, ◌⊎◌, ℕ, zero, suc, Bool, true, false, cond, List, [], ◌∷◌, length, refl, ap, sym, subst, arith, find, is_some, ◌==◌, Option, Some, None, inl, inr}
use Rattle.std.specs.Prelude.{option_map, unwrap_or, IsSome}
use Rattle.std.specs.Option.{option_and_then}
use Rattle.std.specs.List.{AllByRecursion, range_with_len, slice_get}
use Rattle.std.proofs.lemmas.Bool.{eqb-true, eq-eqb}
use Rattle.std.proofs.lemmas.Option.{slice_get-get_or}
use Rattle.tb_perm.specs.declared.perm.Kind.{Kind}
use Rattle.tb_perm.specs.declared.perm.Rel.{Rel}
use Rattle.tb_perm.specs.declared.perm.Rel.TheVariants.{Local, Foreign}
use Rattle.tb_perm.specs.declared.perm.Mark.{Mark}
use Rattle.tb_perm.specs.declared.perm.Mark.TheVariants.{Nothing}
use Rattle.tb_perm.specs.declared.perm.State.{State}
use Rattle.tb_perm.specs.declared.perm.Perm.TheVariants.{Disabled}
use Rattle.tb_perm.specs.declared.report.Refusal.{Refusal}
use Rattle.tb_perm.specs.Table.{is_guarded}
use Rattle.tb_perm.specs.Event.{moved_state, refusal_of}
use Rattle.tb_shape.specs.Tree.{Keys, HasKey, IsPath}
use Rattle.tb_marks.specs.Marks.{AreSound}
use Rattle.tb_marks.specs.Event.{contains, leaves_at, visited, IsShut, IsVisit}
use Rattle.tb_marks.proofs.Trees.{way_there}
use Rattle.tb_marks.proofs.Sound.{shut_still, shut_silent}
use Rattle.tb_walk.specs.Walk.{IsWalk, IsShutOff, IsPassedBy}
use Rattle.tb_lazy_rows.specs.declared.row.LazyRow.{LazyRow}
use Rattle.tb_lazy_rows.specs.Kinds.{kind_at, refuses_at, first_refusal, are_left_alone}
use Rattle.tb_lazy_events.specs.Rows.{is_row, row_of, IsSized, HasRows, mark_at, state_at, tags_at, Met, is_shut_in, refused_in}

pub all_found : (P : LazyRow → Type 0) (rows : List LazyRow) (key : ℕ) (row : LazyRow) → AllByRecursion P rows → row_of rows key ≡ Some row → P row
all_found P [] key row all is = cc
all_found P (x ∷ xs) key row all is = at (is_row key x) is (all_found P xs key row all.1)
  where
    at : (b : Bool) → cond b (Some x) (row_of xs key) ≡ Some row → (row_of xs key ≡ Some row → P row) → P row
    at true found later = let one : x ≡ row = cc in subst P one all.0
    at false found later = later found

-- a mark that leaves the event alone at all bytes does so at each
left_alone_at : (kinds : List (Option Kind)) (marks : List Mark) (byte : ℕ) → are_left_alone kinds marks ≡ true → byte < length marks → byte < length kinds → leaves_at (kind_at kinds byte) (unwrap_or (slice_get marks byte) Nothing) ≡ true
left_alone_at kinds [] byte all in_marks in_kinds = absurd (omega arith)
left_alone_at [] (m ∷ marks) byte all in_marks in_kinds = absurd (omega arith)
left_alone_at (k ∷ kinds) (m ∷ marks) zero all in_marks in_kinds = first (leaves_at k m) (are_left_alone kinds marks) all
  where
    first : (a b : Bool) → (a && b) ≡ true → a ≡ true
    first true b h = refl
    first false b h = absurd (cc)
left_alone_at (k ∷ kinds) (m ∷ marks) (suc byte) all in_marks in_kinds = left_alone_at kinds marks byte (second (leaves_at k m) (are_left_alone kinds marks) all) (omega arith) (omega arith)
  where
    second : (a b : Bool) → (a && b) ≡ true → b ≡ true
    second true b h = h
    second false b h = absurd (cc)

-- where the search of a range finds none, none passes
range_none : (p : ℕ → Bool) (lo n k : ℕ) → find p (range_with_len lo n) ≡ None → lo ≤ k → k < lo + n → p k ≡ false
range_none p lo zero k none above below = absurd (omega (arith, above, below))
range_none p lo (suc n) k none above below = at (p lo) refl none (lo == k) refl (λ rest more. range_none p (lo + 1) n k rest more (omega (arith, below)))
  where
    next : lo ≤ k → (lo ≡ k → ⊥) → lo + 1 ≤ k
    next le differs = omega (arith, le, differs)

    at : (b : Bool) → p lo ≡ b → cond b (Some lo) (find p (range_with_len (lo + 1) n)) ≡ None → (c : Bool) → (lo == k) ≡ c → (find p (range_with_len (lo + 1) n) ≡ None → lo + 1 ≤ k → p k ≡ false) → p k ≡ false
    at true passes clash c is later = absurd (cc)
    at false fails rest true is later = ap p (sym (eqb-true lo k is)) ∙ fails
    at false fails rest false is later = later rest (next above (λ same. absurd (let clash : true ≡ false = sym (eq-eqb lo k same) ∙ is in cc)))

none_of : (o : Option Refusal) → is_some o ≡ false → o ≡ None
none_of None is = refl
none_of (Some r) is = absurd (cc)

abbrev lost : State
lost = record { perm = Disabled; accessed = false }

-- a tag that refuses at no byte does not at this one
passes_at : (kinds : List (Option Kind)) (g : Bool) (rel : Rel) (states : List State) (byte : ℕ) → byte < length states → first_refusal kinds g rel states ≡ None → refusal_of (kind_at kinds byte) g rel (unwrap_or (slice_get states byte) lost) ≡ None
passes_at kinds g rel states byte within none =
    at (slice_get states byte) (slice_get-get_or states byte lost within) (range_none (refuses_at kinds g rel states) 0 (length states) byte none (omega arith) (omega (arith, within)))
  where
    at : {s : State} (o : Option State) → o ≡ Some s → is_some (option_and_then (λ s. refusal_of (kind_at kinds byte) g rel s) o) ≡ false → refusal_of (kind_at kinds byte) g rel (unwrap_or o lost) ≡ None
    at None is quiet = absurd (cc)
    at (Some s) is quiet = none_of (refusal_of (kind_at kinds byte) g rel s) quiet

module _ (tree : Keys) (byte : ℕ) (met : Met) (sized : AllByRecursion (IsSized (length met.kinds)) met.rows) (within : byte < length met.kinds) where
  shut_leaves : (key : ℕ) → is_shut_in met key ≡ true → leaves_at (kind_at met.kinds byte) ((tags_at met.rows byte).mark key) ≡ true
  shut_leaves key shut = at (row_of met.rows key) refl shut
    where
      at : (o : Option LazyRow) → row_of met.rows key ≡ o → unwrap_or (option_map (λ (row : LazyRow). are_left_alone met.kinds row.marks) o) false ≡ true → leaves_at (kind_at met.kinds byte) (unwrap_or (option_map (mark_at byte) o) Nothing) ≡ true
      at None is shut = absurd (cc)
      at (Some row) is shut =
          let size = all_found (IsSized (length met.kinds)) met.rows key row sized is in
          left_alone_at met.kinds row.marks byte shut (omega (arith, size.marks, within)) within

  pub shut_off : (path : List ℕ) (key : ℕ) → IsShutOff tree path (is_shut_in met) key → IsShut tree path (kind_at met.kinds byte) (tags_at met.rows byte) key
  shut_off path key off = (off.0, off.1, off.2, shut_leaves off.0 off.3)

  passes : (rel : Rel) (key : ℕ) → IsSome (row_of met.rows key) → refused_in met rel key ≡ None → refusal_of (kind_at met.kinds byte) ((tags_at met.rows byte).guarded key) rel ((tags_at met.rows byte).state key) ≡ None
  passes rel key there quiet = at (row_of met.rows key) refl there quiet
    where
      at : (o : Option LazyRow) → row_of met.rows key ≡ o → IsSome o → option_and_then (λ (row : LazyRow). first_refusal met.kinds (is_guarded row.guard) rel row.states) o ≡ None → refusal_of (kind_at met.kinds byte) (unwrap_or (option_map (λ (row : LazyRow). is_guarded row.guard) o) false) rel (unwrap_or (option_map (state_at byte) o) lost) ≡ None
      at None is there quiet = absurd (cc)
      at (Some row) is there quiet =
          let size = all_found (IsSized (length met.kinds)) met.rows key row sized is in
          passes_at met.kinds (is_guarded row.guard) rel row.states byte (omega (arith, size.states, within)) quiet

  -- a walk in which no tag refuses is a visit at the byte
  pub is_visit : (t : ℕ) (path from keys : List ℕ) → HasRows tree met.rows → IsPath tree t path → IsWalk tree path from (is_shut_in met) keys → ((key : ℕ) → contains path key ≡ true → refused_in met Local key ≡ None) → ((key : ℕ) → contains keys key ≡ true → refused_in met Foreign key ≡ None) → IsVisit tree path keys (kind_at met.kinds byte) (tags_at met.rows byte)
  is_visit t path from keys rows way walk local foreign =
      record {
        way = (t, way);
        below = λ key other has above lacks. shut_off path other (walk.below key other has above lacks);
        off = walk.off;
        local = λ key on. passes Local key (rows key (way_there tree t key path way on)) (local key on);
        foreign = λ key has. passes Foreign key (rows key (walk.there key has)) (foreign key has);
      }

  module _ (path : List ℕ) (sound : AreSound tree (tags_at met.rows byte)) (key : ℕ) (off : IsShutOff tree path (is_shut_in met) key) where
    pub passed_still : moved_state (kind_at met.kinds byte) ((tags_at met.rows byte).guarded key) Foreign ((tags_at met.rows byte).state key) ≡ (tags_at met.rows byte).state key
    passed_still = shut_still tree path [] (kind_at met.kinds byte) (tags_at met.rows byte) sound key (shut_off path key off)

    pub passed_silent : refusal_of (kind_at met.kinds byte) ((tags_at met.rows byte).guarded key) Foreign ((tags_at met.rows byte).state key) ≡ None
    passed_silent = shut_silent tree path [] (kind_at met.kinds byte) (tags_at met.rows byte) sound key (shut_off path key off)

  -- after a walk each tag of the tree that is not passed by has met the event, whether it was visited or not
  module _ (path from keys : List ℕ) (walk : IsWalk tree path from (is_shut_in met) keys) (sound : AreSound tree (tags_at met.rows byte)) (key : ℕ) (there : HasKey tree key) (met_by : IsPassedBy tree path from key → ⊥) where
    shut : contains path key ≡ false → contains keys key ≡ false → IsShutOff tree path (is_shut_in met) key
    shut off lacks = at (walk.whole key there off lacks)
      where
        at : IsShutOff tree path (is_shut_in met) key ⊎ IsPassedBy tree path from key → IsShutOff tree path (is_shut_in met) key
        at (inl off) = off
        at (inr by) = absurd (met_by by)

    pub walk_moves : (visited path keys (kind_at met.kinds byte) (tags_at met.rows byte)).state key ≡ moved_state (kind_at met.kinds byte) ((tags_at met.rows byte).guarded key) (cond (contains path key) Local Foreign) ((tags_at met.rows byte).state key)
    walk_moves = at (contains path key) refl (contains keys key) refl
      where
        at : (b : Bool) → contains path key ≡ b → (c : Bool) → contains keys key ≡ c → cond b (moved_state (kind_at met.kinds byte) ((tags_at met.rows byte).guarded key) Local ((tags_at met.rows byte).state key)) (cond c (moved_state (kind_at met.kinds byte) ((tags_at met.rows byte).guarded key) Foreign ((tags_at met.rows byte).state key)) ((tags_at met.rows byte).state key)) ≡ moved_state (kind_at met.kinds byte) ((tags_at met.rows byte).guarded key) (cond b Local Foreign) ((tags_at met.rows byte).state key)
        at true on c has = refl
        at false off true has = refl
        at false off false lacks = sym (passed_still path sound key (shut off lacks))

    pub walk_silent : HasRows tree met.rows → ((k : ℕ) → contains path k ≡ true → refused_in met Local k ≡ None) → ((k : ℕ) → contains keys k ≡ true → refused_in met Foreign k ≡ None) → refusal_of (kind_at met.kinds byte) ((tags_at met.rows byte).guarded key) (cond (contains path key) Local Foreign) ((tags_at met.rows byte).state key) ≡ None
    walk_silent rows local foreign = at (contains path key) refl (contains keys key) refl
      where
        at : (b : Bool) → contains path key ≡ b → (c : Bool) → contains keys key ≡ c → refusal_of (kind_at met.kinds byte) ((tags_at met.rows byte).guarded key) (cond b Local Foreign) ((tags_at met.rows byte).state key) ≡ None
        at true on c has = passes Local key (rows key there) (local key on)
        at false off true has = passes Foreign key (rows key there) (foreign key has)
        at false off false lacks = passed_silent path sound key (shut off lacks)
