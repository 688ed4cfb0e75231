-- A tree that is ready stays so.
use Rattle.std.proofs.Common.{◌≡◌, ◌∙◌, ◌<◌, cond, [], ◌∷◌, length, arith, sym, subst, All}
use Rattle.std.specs.Prelude.{Result, Ok, Err, OnOk}
use Rattle.tb_perm.specs.declared.perm.Guard.{Guard}
use Rattle.tb_perm.specs.declared.perm.Guard.TheVariants.{Free}
use Rattle.tb_perm.specs.declared.tag.Prov.{Prov}
use Rattle.tb_perm.specs.declared.new_tag.NewTag.{NewTag}
use Rattle.tb_perm.specs.Rows.{Row}
use Rattle.tb_perm.specs.Event.{Event, after}
use Rattle.tb_perm.specs.Reborrow.{reborrowed}
use Rattle.tb_perm.specs.Calls.{IsTree, Continues}
use Rattle.tb_plain.specs.Plain.{Plain}
use Rattle.tb_protect.specs.Frames.{Frames, kind_of, is_prov, with_guarded}
use Rattle.tb_stands.specs.Folded.{Prunes}
use Rattle.tb_prune.specs.Guards.{GuardsAre}
use Rattle.tb_prune.proofs.GuardLaws.{guards_event, guards_made, guards_free, guards_pruned}
use Rattle.tb_prune_tests.specs.Ready.{IsReady}

pub on_ok : {T : Type 0} {E : Type 0} (r : Result T E) (A B : Type 0) → (A → B) → OnOk r A → OnOk r B
on_ok (Ok value) A B f holds = f holds
on_ok (Err error) A B f holds = holds

pub ready_event : (tree new : Plain) (frames : Frames) (event : Event) → IsReady tree frames → Continues (λ (t : Plain). t.rows) (λ (t : Plain). t.size) (λ (t : Plain). t.notes) tree new → new.rows ≡ after event tree.rows → IsReady new frames
ready_event tree new frames event ready continues moved =
    record {
      two = continues.same_extent ∙ ready.two;
      sound = continues.sound;
      frame = ready.frame;
      guards = subst (GuardsAre frames (record { 0 = 1 })) (sym moved) (guards_event frames (record { 0 = 1 }) event tree.rows ready.guards);
    }

pub ready_pruned : (tree new : Plain) (frames : Frames) → IsReady tree frames → new.size ≡ tree.size → IsTree new.size new.rows new.notes → Prunes tree.size tree.notes tree.rows new.rows → IsReady new frames
ready_pruned tree new frames ready same sound left =
    record {
      two = same ∙ ready.two;
      sound = sound;
      frame = ready.frame;
      guards = guards_pruned frames (record { 0 = 1 }) tree.size tree.rows new.rows tree.notes ready.guards left;
    }

pub ready_free : (tree after : Plain) (frames : Frames) (new : NewTag) → IsReady tree frames → Continues (λ (t : Plain). t.rows) (λ (t : Plain). t.size) (λ (t : Plain). t.notes) tree after → after.rows ≡ reborrowed tree.rows tree.size new → All (λ (row : Row). row.tag < new.tag.0) tree.rows → new.guard ≡ Free → kind_of frames (record { alloc = record { 0 = 1 }; tag = new.tag }) ≡ Free → IsReady after frames
ready_free tree after frames new ready continues moved above free none =
    record {
      two = continues.same_extent ∙ ready.two;
      sound = continues.sound;
      frame = ready.frame;
      guards = subst (GuardsAre frames (record { 0 = 1 })) (sym moved) (guards_free frames (record { 0 = 1 }) tree.size tree.rows new ready.guards above free none);
    }

pub ready_made : (tree after : Plain) (frames now : Frames) (new : NewTag) → IsReady tree frames → Continues (λ (t : Plain). t.rows) (λ (t : Plain). t.size) (λ (t : Plain). t.notes) tree after → after.rows ≡ reborrowed tree.rows tree.size new → All (λ (row : Row). row.tag < new.tag.0) tree.rows → 0 < length now → ((asked : Prov) → kind_of now asked ≡ cond (is_prov asked (record { alloc = record { 0 = 1 }; tag = new.tag })) new.guard (kind_of frames asked)) → IsReady after now
ready_made tree after frames now new ready continues moved above frame kinds =
    record {
      two = continues.same_extent ∙ ready.two;
      sound = continues.sound;
      frame = frame;
      guards = subst (GuardsAre now (record { 0 = 1 })) (sym moved) (guards_made frames now (record { 0 = 1 }) tree.size tree.rows new ready.guards above kinds);
    }

pub frame_kept : (prov : Prov) (guard : Guard) (old new : Frames) → 0 < length old → new ≡ with_guarded prov guard old → 0 < length new
frame_kept prov guard [] new frame same = absurd (omega (arith, frame))
frame_kept prov guard (top ∷ frames) new frame same = subst (λ f. 0 < length f) (sym same) (omega arith)
