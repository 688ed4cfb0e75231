-- How the releases of tags, one after another, are the releases of all.
use Rattle.std.proofs.Common.{◌≡◌, refl, sym, ◌∙◌, ap, subst, inl, inr, ℕ, ◌+◌, ◌<◌, ◌≤◌, true, List, [], ◌∷◌, length, drop, get_or, Result, Ok, Err}
use Rattle.std.specs.List.{AllByRecursion}
use Rattle.std.proofs.lemmas.List.{drop_more, drop_all}
use Rattle.tb_perm.specs.declared.tag.Prov.{Prov}
use Rattle.tb_events.specs.Memory.{RunMemory, knows, Keeps}
use Rattle.tb_memory.specs.declared.stop.Stop.{Stop}
use Rattle.tb_memory.specs.Heap.{Came, Done, Stopped, and_then}
use Rattle.tb_memory.specs.Calls.{release_one, release_all}
use Rattle.tb_memory.specs.Answers.{Answers}
use Rattle.tb_memory.proofs.Answering.{stop_answers}

-- what was done is what the call comes to
done_is : {A : Type 0} (came : Came A) (answer : A) (now : RunMemory) → Answers came (Ok answer) now → came ≡ Done now answer
done_is (Done memory value) answer now (inl e) = absurd cc
done_is (Done memory value) answer now (inr e) = ap (λ (m : RunMemory). Done m value) (sym e.1) ∙ ap (λ v. Done now v) (sym e.0)
done_is (Stopped memory stop) answer now (inl e) = absurd cc
done_is (Stopped memory stop) answer now (inr e) = absurd e

all_known : (old new : RunMemory) (provs : List Prov) → Keeps old new → AllByRecursion (λ (prov : Prov). knows old prov ≡ true) provs → AllByRecursion (λ (prov : Prov). knows new prov ≡ true) provs
all_known old new [] keeps all = tt
all_known old new (prov ∷ provs) keeps all = (keeps prov all.0, all_known old new provs keeps all.1)

-- how far the releases have come
pub record AreLeft (start now : RunMemory) (provs left : List Prov) : Type 0 where
  pub same : release_all now left ≡ release_all start provs
  pub known : AllByRecursion (λ (prov : Prov). knows now prov ≡ true) left
  pub keeps : Keeps start now
  pub calls : length now.frames ≡ length start.frames
  pub drawn : now.tags ≡ start.tags

pub next_left : (start now new : RunMemory) (provs : List Prov) (i : ℕ) (d : Prov) (result : Result (Unit {0}) Stop) → i < length provs → AreLeft start now provs (drop i provs) → result ≡ Ok tt → Answers (release_one now (get_or provs i d)) result new → Keeps now new
    → length new.frames ≡ length now.frames → new.tags ≡ now.tags → AreLeft start new provs (drop (i + 1) provs)
next_left start now new provs i d result within are ok answer keeps calls drawn =
    let split : drop i provs ≡ get_or provs i d ∷ drop (i + 1) provs = drop_more provs i d within in
    let done : release_one now (get_or provs i d) ≡ Done new tt = done_is (release_one now (get_or provs i d)) tt new (subst (λ (r : Result (Unit {0}) Stop). Answers (release_one now (get_or provs i d)) r new) ok answer) in
    let there : AllByRecursion (λ (prov : Prov). knows now prov ≡ true) (get_or provs i d ∷ drop (i + 1) provs) = subst (AllByRecursion (λ (prov : Prov). knows now prov ≡ true)) split are.known in
    record {
      same = sym (ap (λ came. and_then came (λ m (unit : Unit {0}). release_all m (drop (i + 1) provs))) done) ∙ sym (ap (release_all now) split) ∙ are.same;
      known = all_known now new (drop (i + 1) provs) keeps there.1;
      keeps = λ prov h. keeps prov (are.keeps prov h);
      calls = calls ∙ are.calls;
      drawn = drawn ∙ are.drawn;
    }

pub stops_left : (start now new : RunMemory) (provs : List Prov) (i : ℕ) (d : Prov) (result : Result (Unit {0}) Stop) (stop : Stop) → i < length provs → AreLeft start now provs (drop i provs) → result ≡ Err stop → Answers (release_one now (get_or provs i d)) result new
    → Answers (release_all start provs) (Err stop) new
stops_left start now new provs i d result stop within are err answer =
    let split : drop i provs ≡ get_or provs i d ∷ drop (i + 1) provs = drop_more provs i d within in
    subst (λ came. Answers came (Err stop) new) (sym (ap (release_all now) split) ∙ are.same)
    (stop_answers (release_one now (get_or provs i d)) (λ m (unit : Unit {0}). release_all m (drop (i + 1) provs)) stop new (subst (λ (r : Result (Unit {0}) Stop). Answers (release_one now (get_or provs i d)) r new) err answer))

pub none_left : (start now : RunMemory) (provs : List Prov) (i : ℕ) → length provs ≤ i → AreLeft start now provs (drop i provs) → Answers (release_all start provs) (Ok tt) now
none_left start now provs i past are =
    subst (λ came. Answers came (Ok tt) now) (sym (ap (release_all now) (drop_all i provs past)) ∙ are.same) (inr (refl, refl))

pub all_left : (start : RunMemory) (provs : List Prov) → AllByRecursion (λ (prov : Prov). knows start prov ≡ true) provs → AreLeft start start provs provs
all_left start provs known = record { same = refl; known = known; keeps = λ prov h. h; calls = refl; drawn = refl }
