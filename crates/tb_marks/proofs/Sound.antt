-- Marks stay sound: whatever stands between an event's tags before and after it, in the order of the stages.
use Rattle.std.proofs.Common.{◌≡◌, ◌∙◌, ◌⊎◌, ◌≤◌, ℕ, Bool, true, false, cond, List, refl, ap, sym, subst, arith, Option, None, inl, inr}
use Rattle.tb_perm.specs.declared.perm.Kind.{Kind}
use Rattle.tb_perm.specs.declared.perm.Mark.{Mark}
use Rattle.tb_perm.specs.declared.perm.State.{State}
use Rattle.tb_perm.specs.declared.perm.Rel.TheVariants.{Local, Foreign}
use Rattle.tb_perm.specs.Event.{moved_state, refusal_of}
use Rattle.tb_shape.specs.Tree.{Keys, IsAncestor}
use Rattle.tb_marks.specs.Marks.{Promises, AtByte, AreSound}
use Rattle.tb_marks.specs.Event.{contains, lowered_at, raised_at, leaves_at, visited, IsShut, IsVisit}
use Rattle.tb_marks.specs.Stages.{IsStage}
use Rattle.tb_perm.specs.Marked.{level}
use Rattle.tb_marks.proofs.Tables.{raised_leaves, raised_more, promises_foreign, promises_lowered, promises_local, promises_raised, promises_shut, shut_stays, shut_passes}
use Rattle.tb_marks.proofs.Ways.{above_on_way}

either : (P : State → Type 0) (s x y : State) → (s ≡ x) ⊎ (s ≡ y) → P x → P y → P s
either P s x y (inl is) px py = subst P (sym is) px
either P s x y (inr is) px py = subst P (sym is) py

either_mark : (P : Mark → Type 0) (m x y : Mark) → (m ≡ x) ⊎ (m ≡ y) → P x → P y → P m
either_mark P m x y (inl is) px py = subst P (sym is) px
either_mark P m x y (inr is) px py = subst P (sym is) py

-- what an event leaves on the way and off it
module _ (path keys : List ℕ) (kind : Option Kind) (old : AtByte) where
  pub visited_on : (key : ℕ) → contains path key ≡ true → (visited path keys kind old).state key ≡ moved_state kind (old.guarded key) Local (old.state key)
  visited_on key on = ap (λ b. cond b (moved_state kind (old.guarded key) Local (old.state key)) (cond (contains keys key) (moved_state kind (old.guarded key) Foreign (old.state key)) (old.state key))) on

  pub mark_on : (key : ℕ) → contains path key ≡ true → (visited path keys kind old).mark key ≡ lowered_at kind (old.mark key)
  mark_on key on = ap (λ b. cond b (lowered_at kind (old.mark key)) (cond (contains keys key) (raised_at kind (old.mark key)) (old.mark key))) on

  pub mark_off : (key : ℕ) → contains path key ≡ false → (visited path keys kind old).mark key ≡ cond (contains keys key) (raised_at kind (old.mark key)) (old.mark key)
  mark_off key off = ap (λ b. cond b (lowered_at kind (old.mark key)) (cond (contains keys key) (raised_at kind (old.mark key)) (old.mark key))) off

  pub state_off : (key : ℕ) → contains path key ≡ false → (visited path keys kind old).state key ≡ cond (contains keys key) (moved_state kind (old.guarded key) Foreign (old.state key)) (old.state key)
  state_off key off = ap (λ b. cond b (moved_state kind (old.guarded key) Local (old.state key)) (cond (contains keys key) (moved_state kind (old.guarded key) Foreign (old.state key)) (old.state key))) off

module _ (tree : Keys) (path keys : List ℕ) (kind : Option Kind) (old : AtByte) (sound : AreSound tree old) where
  -- a shut tag does not move, and refuses nothing
  pub shut_still : (key : ℕ) → IsShut tree path kind old key → moved_state kind (old.guarded key) Foreign (old.state key) ≡ old.state key
  shut_still key shut = shut_stays kind (old.mark shut.0) (old.state key) (old.guarded key) shut.3 (sound shut.0 key shut.1)

  pub shut_silent : (key : ℕ) → IsShut tree path kind old key → refusal_of kind (old.guarded key) Foreign (old.state key) ≡ None
  shut_silent key shut = shut_passes kind (old.mark shut.0) (old.state key) (old.guarded key) shut.3 (sound shut.0 key shut.1)

  -- off the way a state is met as a foreign access, or not at all
  off_state : (mark : Mark) (key : ℕ) → contains path key ≡ false → Promises mark (old.state key) (old.guarded key) → Promises mark ((visited path keys kind old).state key) (old.guarded key)
  off_state mark key off promises =
      subst (λ b. Promises mark (cond b (moved_state kind (old.guarded key) Local (old.state key)) (cond (contains keys key) (moved_state kind (old.guarded key) Foreign (old.state key)) (old.state key))) (old.guarded key)) (sym off) (at (contains keys key))
    where
      at : (b : Bool) → Promises mark (cond b (moved_state kind (old.guarded key) Foreign (old.state key)) (old.state key)) (old.guarded key)
      at true = promises_foreign kind mark (old.state key) (old.guarded key) promises
      at false = promises

  module _ (visit : IsVisit tree path keys kind old) where
    -- the mark and the state that an event leaves off the way
    off_visited : (above key : ℕ) → IsAncestor tree above key → contains path above ≡ false → contains path key ≡ false → Promises ((visited path keys kind old).mark above) ((visited path keys kind old).state key) (old.guarded key)
    off_visited above key anc off_above off =
        subst (λ m. Promises m ((visited path keys kind old).state key) (old.guarded key)) (sym (mark_off path keys kind old above off_above)) (at (contains keys above) refl)
      where
        state : (b : Bool) → contains keys key ≡ b → contains keys above ≡ true → Promises (raised_at kind (old.mark above)) (cond b (moved_state kind (old.guarded key) Foreign (old.state key)) (old.state key)) (old.guarded key)
        state true is has = promises_raised kind (old.mark above) (old.state key) (old.guarded key) (visit.foreign key is) (sound above key anc)
        state false is has =
            let shut = visit.below above key has anc is in
            promises_shut kind (old.mark shut.0) (old.mark above) (old.state key) (old.guarded key) shut.3 (sound shut.0 key shut.1) (sound above key anc)

        at : (b : Bool) → contains keys above ≡ b → Promises (cond b (raised_at kind (old.mark above)) (old.mark above)) ((visited path keys kind old).state key) (old.guarded key)
        at true is = subst (λ s. Promises (raised_at kind (old.mark above)) s (old.guarded key)) (sym (state_off path keys kind old key off)) (state (contains keys key) refl is)
        at false is = off_state (old.mark above) key off (sound above key anc)

    stage_at : (now : AtByte) → IsStage tree path keys kind old now → (above key : ℕ) → IsAncestor tree above key → (on on_above : Bool) → contains path key ≡ on → contains path above ≡ on_above → Promises (now.mark above) (now.state key) (old.guarded key)
    stage_at now stage above key anc true on_above on is_above = at (stage.on_way above key anc on)
      where
        up : contains path above ≡ true
        up = above_on_way tree visit.way.0 above key path visit.way.1 on anc

        G : Bool
        G = old.guarded key

        at : (now.mark above ≡ (visited path keys kind old).mark above) ⊎ (now.state key ≡ old.state key) → Promises (now.mark above) (now.state key) G
        at (inl mark) =
            subst (λ m. Promises m (now.state key) G) (sym (mark ∙ mark_on path keys kind old above up))
            (either (λ s. Promises (lowered_at kind (old.mark above)) s G) (now.state key) (old.state key) ((visited path keys kind old).state key) (stage.states key)
            (promises_lowered kind (old.mark above) (old.state key) G (sound above key anc))
            (subst (λ s. Promises (lowered_at kind (old.mark above)) s G) (sym (visited_on path keys kind old key on)) (promises_local kind (old.mark above) (old.state key) G (visit.local key on) (sound above key anc))))
        at (inr state) =
            subst (λ s. Promises (now.mark above) s G) (sym state)
            (either_mark (λ m. Promises m (old.state key) G) (now.mark above) (old.mark above) ((visited path keys kind old).mark above) (stage.marks above)
            (sound above key anc)
            (subst (λ m. Promises m (old.state key) G) (sym (mark_on path keys kind old above up)) (promises_lowered kind (old.mark above) (old.state key) G (sound above key anc))))
    stage_at now stage above key anc false true on is_above =
        either (λ s. Promises (now.mark above) s G) (now.state key) (old.state key) ((visited path keys kind old).state key) (stage.states key) (by_mark (old.state key) (sound above key anc)) (by_mark ((visited path keys kind old).state key) (off_state (old.mark above) key on (sound above key anc)))
      where
        G : Bool
        G = old.guarded key

        by_mark : (s : State) → Promises (old.mark above) s G → Promises (now.mark above) s G
        by_mark s promises =
            either_mark (λ m. Promises m s G) (now.mark above) (old.mark above) ((visited path keys kind old).mark above) (stage.marks above) promises
            (subst (λ m. Promises m s G) (sym (mark_on path keys kind old above is_above)) (promises_lowered kind (old.mark above) s G promises))
    stage_at now stage above key anc false false on is_above = at (stage.off_way above key anc is_above)
      where
        G : Bool
        G = old.guarded key

        at : (now.mark above ≡ old.mark above) ⊎ (now.state key ≡ (visited path keys kind old).state key) → Promises (now.mark above) (now.state key) G
        at (inl mark) =
            subst (λ m. Promises m (now.state key) G) (sym mark)
            (either (λ s. Promises (old.mark above) s G) (now.state key) (old.state key) ((visited path keys kind old).state key) (stage.states key) (sound above key anc) (off_state (old.mark above) key on (sound above key anc)))
        at (inr state) =
            subst (λ s. Promises (now.mark above) s G) (sym state)
            (either_mark (λ m. Promises m ((visited path keys kind old).state key) G) (now.mark above) (old.mark above) ((visited path keys kind old).mark above) (stage.marks above)
            (off_state (old.mark above) key on (sound above key anc))
            (off_visited above key anc is_above on))

    pub stage_sound : (now : AtByte) → IsStage tree path keys kind old now → AreSound tree now
    stage_sound now stage = λ above key anc. subst (λ g. Promises (now.mark above) (now.state key) g) (sym (stage.guards key)) (stage_at now stage above key anc (contains path key) (contains path above) refl refl)

    pub visited_sound : AreSound tree (visited path keys kind old)
    visited_sound = stage_sound (visited path keys kind old) (record { guards = λ key. refl; states = λ key. inr refl; marks = λ key. inr refl; on_way = λ above key anc on. inl refl; off_way = λ above key anc off. inr refl })

-- off the way no mark is lowered
pub visited_more : (path keys : List ℕ) (kind : Option Kind) (old : AtByte) (key : ℕ) → contains path key ≡ false → level (old.mark key) ≤ level ((visited path keys kind old).mark key)
visited_more path keys kind old key off =
    subst (λ b. level (old.mark key) ≤ level (cond b (lowered_at kind (old.mark key)) (cond (contains keys key) (raised_at kind (old.mark key)) (old.mark key)))) (sym off) (at (contains keys key))
  where
    at : (b : Bool) → level (old.mark key) ≤ level (cond b (raised_at kind (old.mark key)) (old.mark key))
    at true = raised_more kind (old.mark key)
    at false = omega arith

-- what was visited leaves the event alone from now on
pub visited_raised : (tree : Keys) (path keys : List ℕ) (kind : Option Kind) (old : AtByte) (key : ℕ) → IsVisit tree path keys kind old → contains keys key ≡ true → leaves_at kind ((visited path keys kind old).mark key) ≡ true
visited_raised tree path keys kind old key visit has =
    ap (leaves_at kind) (mark_off path keys kind old key (visit.off key has) ∙ ap (λ b. cond b (raised_at kind (old.mark key)) (old.mark key)) has) ∙ raised_leaves kind (old.mark key)
