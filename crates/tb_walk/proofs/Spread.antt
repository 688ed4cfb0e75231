-- How far a walk has come.
use Rattle.std.proofs.Common.{◌≡◌, ◌∙◌, ◌+◌, ◌≤◌, ◌<◌, ℕ, Bool, List, [], ◌∷◌, ◌++◌, length, take, drop, refl, ap, sym, subst, arith, Option, None, slice_index_or}
use Rattle.std.proofs.lemmas.List.{take-append-le, length-append, take_more}
use Rattle.tb_perm.specs.declared.perm.Rel.{Rel}
use Rattle.tb_perm.specs.declared.perm.Rel.TheVariants.{Foreign}
use Rattle.tb_shape.specs.Tree.{Keys, IsKeys, IsPath}
use Rattle.tb_walk.specs.Walk.{AreOpened, IsWalk, counted}
use Rattle.tb_walk.specs.Blame.{IsBlamed}
use Rattle.tb_walk.specs.Steps.{Adds}
use Rattle.tb_walk.specs.declared.blame.Blame.{Blame}
use Rattle.tb_walk.proofs.Counts.{count_front, count_back}
use Rattle.tb_walk.proofs.Seeds.{opened_more, seeds_none, seeds_open}
use Rattle.tb_walk.proofs.Bounds.{counted_bound}
use Rattle.tb_walk.proofs.Reached.{is_walk}

-- so many of the keys are visited, and the children of those are among the keys
pub record IsSpread (tree : Keys) (path : List ℕ) (from : ℕ) (shut : ℕ → Bool) (refused : Rel → ℕ → Option ℕ) (at : ℕ) (keys : List ℕ) (best : Option Blame) (before steps : ℕ) : Type 0 where
  pub within : at ≤ length keys
  pub opens : AreOpened tree path (drop from path) shut (take at keys) keys
  pub least : IsBlamed (refused Foreign) Foreign (take at keys) best
  pub ticks : steps ≡ before + at

abbrev HasRoot : Keys → Type 0
HasRoot tree = (root : ℕ) × IsKeys tree root

abbrev HasWay : Keys → List ℕ → Type 0
HasWay tree path = (t : ℕ) × IsPath tree t path

module _ (tree : Keys) (path : List ℕ) (from : ℕ) (shut : ℕ → Bool) (is : HasRoot tree) (way : HasWay tree path) where
  -- never more keys than count
  pub spread_bound : (at : ℕ) (keys : List ℕ) → AreOpened tree path (drop from path) shut (take at keys) keys → length path + length keys ≤ counted tree path shut
  spread_bound at keys opens =
      counted_bound tree is.0 way.0 path (drop from path) (take at keys) keys shut is.1 way.1 (λ k. count_back k from path) (λ k. count_front k at keys) opens

  -- nor is the way longer
  pub way_bound : length path ≤ counted tree path shut
  way_bound = omega (arith, counted_bound tree is.0 way.0 path [] [] [] shut is.1 way.1 (λ k. omega arith) (λ k. omega arith) (seeds_open tree path [] [] (seeds_none tree path [] refl) shut))

  pub spread_walk : (keys : List ℕ) → AreOpened tree path (drop from path) shut keys keys → IsWalk tree path (drop from path) shut keys
  spread_walk keys opens = is_walk tree is.0 way.0 path (drop from path) keys shut is.1 way.1 (λ k. count_back k from path) opens

pub spread_start : (tree : Keys) (path : List ℕ) (from : ℕ) (shut : ℕ → Bool) (refused : Rel → ℕ → Option ℕ) (keys : List ℕ) (before : ℕ) → AreOpened tree path (drop from path) shut [] keys → IsSpread tree path from shut refused 0 keys None before before
spread_start tree path from shut refused keys before opens =
    record { within = omega arith; opens = opens; least = λ key has. absurd (cc); ticks = omega arith }

-- one more key is visited
pub spread_more : (tree : Keys) (path : List ℕ) (from : ℕ) (shut : ℕ → Bool) (refused : Rel → ℕ → Option ℕ) (at : ℕ) (keys now : List ℕ) (best better : Option Blame) (before steps now_steps : ℕ) (u : ℕ) → now_steps ≡ steps + 1 → IsSpread tree path from shut refused at keys best before steps → at < length keys → u ≡ slice_index_or keys at u → Adds tree shut u keys now → IsBlamed (refused Foreign) Foreign (take at keys ++ u ∷ []) better → IsSpread tree path from shut refused (at + 1) now better before now_steps
spread_more tree path from shut refused at keys now best better before steps now_steps u ticked spread less here adds blamed =
    record {
      within = omega (arith, longer, less);
      opens = subst (λ done. AreOpened tree path (drop from path) shut done now) (sym front) (subst (λ ks. AreOpened tree path (drop from path) shut (take at keys ++ u ∷ []) ks) (sym adds.1) (opened_more tree path (drop from path) (take at keys) keys adds.0 shut u spread.opens adds.2));
      least = subst (λ done. IsBlamed (refused Foreign) Foreign done better) (sym front) blamed;
      ticks = omega (arith, ticked, spread.ticks);
    }
  where
    longer : length now ≡ length keys + length adds.0
    longer = ap length adds.1 ∙ length-append keys adds.0

    front : take (at + 1) now ≡ take at keys ++ u ∷ []
    front = ap (take (at + 1)) adds.1 ∙ take-append-le (at + 1) keys adds.0 (omega (arith, less)) ∙ take_more keys at u less ∙ ap (λ x. take at keys ++ x ∷ []) (sym here)
