-- The phases keep the order in which marks are sound at any time.
use Rattle.std.proofs.Common.{◌≡◌, ◌∙◌, ◌⊎◌, ℕ, Bool, true, false, List, refl, sym, Option, inl, inr}
use Rattle.tb_perm.specs.declared.perm.Kind.{Kind}
use Rattle.tb_shape.specs.Tree.{Keys, IsPath}
use Rattle.tb_marks.specs.Marks.{AtByte}
use Rattle.tb_marks.specs.Event.{contains, lowered_at, visited}
use Rattle.tb_marks.specs.Stages.{IsStage}
use Rattle.tb_marks.proofs.Ways.{above_on_way}
use Rattle.tb_marks.proofs.Sound.{mark_on}
use Rattle.tb_lazy_events.specs.Phases.{IsLowering, IsMoving, IsRaising}

module _ (tree : Keys) (t : ℕ) (path keys : List ℕ) (kind : Option Kind) (old now : AtByte) (way : IsPath tree t path) where
  pub lowering_stage : IsLowering path kind old now → IsStage tree path keys kind old now
  lowering_stage is =
      record {
        guards = is.guards;
        states = λ key. inl (is.states key);
        marks = λ key. at key (contains path key) refl;
        on_way = λ above key anc on. inr (is.states key);
        off_way = λ above key anc off. inl (is.off above off);
      }
    where
      at : (key : ℕ) (b : Bool) → contains path key ≡ b → (now.mark key ≡ old.mark key) ⊎ (now.mark key ≡ (visited path keys kind old).mark key)
      at key false off = inl (is.off key off)
      at key true on = by (is.way key on)
        where
          by : (now.mark key ≡ old.mark key) ⊎ (now.mark key ≡ lowered_at kind (old.mark key)) → (now.mark key ≡ old.mark key) ⊎ (now.mark key ≡ (visited path keys kind old).mark key)
          by (inl same) = inl same
          by (inr less) = inr (less ∙ sym (mark_on path keys kind old key on))

  pub moving_stage : IsMoving path keys kind old now → IsStage tree path keys kind old now
  moving_stage is =
      record {
        guards = is.guards;
        states = is.states;
        marks = λ key. at key (contains path key) refl;
        on_way = λ above key anc on. let up = above_on_way tree t above key path way on anc in inl (is.way above up ∙ sym (mark_on path keys kind old above up));
        off_way = λ above key anc off. inl (is.off above off);
      }
    where
      at : (key : ℕ) (b : Bool) → contains path key ≡ b → (now.mark key ≡ old.mark key) ⊎ (now.mark key ≡ (visited path keys kind old).mark key)
      at key false off = inl (is.off key off)
      at key true on = inr (is.way key on ∙ sym (mark_on path keys kind old key on))

  pub raising_stage : IsRaising path keys kind old now → IsStage tree path keys kind old now
  raising_stage is =
      record {
        guards = is.guards;
        states = λ key. inr (is.states key);
        marks = λ key. at key (contains path key) refl;
        on_way = λ above key anc on. let up = above_on_way tree t above key path way on anc in inl (is.way above up ∙ sym (mark_on path keys kind old above up));
        off_way = λ above key anc off. inr (is.states key);
      }
    where
      at : (key : ℕ) (b : Bool) → contains path key ≡ b → (now.mark key ≡ old.mark key) ⊎ (now.mark key ≡ (visited path keys kind old).mark key)
      at key false off = is.off key off
      at key true on = inr (is.way key on ∙ sym (mark_on path keys kind old key on))
