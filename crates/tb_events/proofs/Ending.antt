-- What is true of a memory stays true when a call is over.
use Rattle.std.proofs.Common.{◌≡◌, ◌≢◌, refl, sym, ◌∙◌, ap, subst, inl, inr, ◌⊎◌, ℕ, zero, suc, ◌+◌, ◌<◌, ◌≤◌, Bool, true, false, true≢false, cond, ◌&&◌, ◌||◌, ◌==◌, List, [], ◌∷◌, length, drop, get_or, Option, Some, None, is_some, All, arith}
use Rattle.std.specs.List.{list_any, AllByRecursion}
use Rattle.std.proofs.lemmas.Bool.{eqb-true, eq-eqb, ne_eqb}
use Rattle.std.proofs.lemmas.List.Elements.{recursion_from_All}
use Rattle.std.proofs.lemmas.List.{drop_more}
use Rattle.tb_perm.specs.declared.tag.Prov.{Prov}
use Rattle.tb_perm.specs.declared.perm.Guard.{Guard}
use Rattle.tb_perm.specs.declared.perm.Guard.TheVariants.{Free}
use Rattle.tb_perm.specs.Rows.{Row, HasTag, guard_in, unguarded}
use Rattle.tb_perm.specs.Tree.{KeepsTree}
use Rattle.tb_perm.proofs.Kept.{KeepsTree-refl, KeepsTree-chain, unguarded-keeps, list_any-KeepsTree, HasTag-kept, All_tags-kept, IsRows-kept}
use Rattle.tb_perm.proofs.Found.{guard_in-unguarded, guard_in-other}
use Rattle.tb_alloc.specs.declared.allocation.Allocation.{Allocation}
use Rattle.tb_alloc.specs.Allocations.{allocation_at}
use Rattle.tb_protect.specs.Frames.{Frames, Guarded, is_prov, is_in, kind_of, top_frame, provs_of}
use Rattle.tb_store.specs.Store.{bytes_at, live_at}
use Rattle.tb_store.proofs.Places.{same_or_not, nth_same, nth_other, length_with}
use Rattle.tb_forest.specs.Forest.{TreeRows, no_tree, tree_at, changed}
use Rattle.tb_events.specs.Memory.{RunMemory, rows_at, knows_in, knows}
use Rattle.tb_events.specs.Calls.{guarded_now, without_guard, without_guards}
use Rattle.tb_events.specs.Guarding.{IsThere}
use Rattle.tb_events.specs.Sound.{IsSound}
use Rattle.tb_events.proofs.Keeping.{pass_more, live_within, reach}
use Rattle.tb_events.proofs.Drawing.{reached_tag}

-- how a tag is guarded once the guard of one is gone
guard_one : (rows : List Row) (u t : ℕ) → guard_in (unguarded rows u) t ≡ cond (u == t) Free (guard_in rows t)
guard_one rows u t = by_test (u == t) refl
  where
    by_test : (b : Bool) → (u == t) ≡ b → guard_in (unguarded rows u) t ≡ cond b Free (guard_in rows t)
    by_test true e = ap (λ n. guard_in (unguarded rows n) t) (eqb-true u t e) ∙ guard_in-unguarded rows t
    by_test false e = guard_in-other rows u t (λ same. true≢false (sym (eq-eqb u t (sym same)) ∙ e))

module _ (table : List Allocation) (trees : List TreeRows) (q : Prov) (there : IsThere table trees q) where
  low : (n : ℕ) → is_some (live_at table n) ≡ true → 1 ≤ n
  low zero e = absurd (true≢false (sym e))
  low (suc n) e = omega arith

  abbrev one : TreeRows
  one = record (tree_at trees q.alloc.0) { rows = unguarded (tree_at trees q.alloc.0).rows q.tag.0 }

  found : is_some (live_at table q.alloc.0) ≡ true → tree_at (changed trees q.alloc.0 (λ (tree : TreeRows). unguarded tree.rows q.tag.0)) q.alloc.0 ≡ one
  found live = nth_same trees q.alloc.0 one no_tree (low q.alloc.0 live) (there live).0

  -- what is so of each tree, and of the changed one, is so afterwards
  by_one : (k : ℕ) (P : ℕ → TreeRows → Type 0) → (is_some (live_at table q.alloc.0) ≡ true → P q.alloc.0 one) → P k (tree_at trees k) → P k (tree_at (without_guard table q trees) k)
  by_one k P new old = by_live (is_some (live_at table q.alloc.0)) refl
    where
      by_live : (b : Bool) → is_some (live_at table q.alloc.0) ≡ b → P k (tree_at (cond b (changed trees q.alloc.0 (λ (tree : TreeRows). unguarded tree.rows q.tag.0)) trees) k)
      by_live false e = old
      by_live true e = by_number (same_or_not k q.alloc.0)
        where
          by_number : (k ≡ q.alloc.0) ⊎ (k ≢ q.alloc.0) → P k (tree_at (changed trees q.alloc.0 (λ (tree : TreeRows). unguarded tree.rows q.tag.0)) k)
          by_number (inl same) = subst (λ n. P n (tree_at (changed trees q.alloc.0 (λ (tree : TreeRows). unguarded tree.rows q.tag.0)) n)) (sym same) (subst (λ (t : TreeRows). P q.alloc.0 t) (sym (found e)) (new e))
          by_number (inr apart) = subst (λ (t : TreeRows). P k t) (sym (nth_other trees q.alloc.0 k one no_tree apart)) old

  keeps_one : (k : ℕ) → KeepsTree (tree_at trees k).rows (tree_at (without_guard table q trees) k).rows
  keeps_one k = by_one k (λ n (t : TreeRows). KeepsTree (tree_at trees n).rows t.rows) (λ live. unguarded-keeps (tree_at trees q.alloc.0).rows q.tag.0) (KeepsTree-refl (tree_at trees k).rows)

  size_one : (k : ℕ) → (tree_at (without_guard table q trees) k).size ≡ (tree_at trees k).size
  size_one k = by_one k (λ n (t : TreeRows). t.size ≡ (tree_at trees n).size) (λ live. refl) refl

  count_one : length (without_guard table q trees) ≡ length trees
  count_one = by_live (is_some (live_at table q.alloc.0))
    where
      by_live : (b : Bool) → length (cond b (changed trees q.alloc.0 (λ (tree : TreeRows). unguarded tree.rows q.tag.0)) trees) ≡ length trees
      by_live true = length_with trees q.alloc.0 one
      by_live false = refl

  guards_one : (k t : ℕ) → is_some (live_at table k) ≡ true → guard_in (tree_at (without_guard table q trees) k).rows t ≡ cond (is_prov (record { alloc = record { 0 = k }; tag = record { 0 = t } }) q) Free (guard_in (tree_at trees k).rows t)
  guards_one k t live = by_number (same_or_not k q.alloc.0)
    where
      by_number : (k ≡ q.alloc.0) ⊎ (k ≢ q.alloc.0) → guard_in (tree_at (without_guard table q trees) k).rows t ≡ cond (is_prov (record { alloc = record { 0 = k }; tag = record { 0 = t } }) q) Free (guard_in (tree_at trees k).rows t)
      by_number (inl same) =
          subst (λ n. guard_in (tree_at (without_guard table q trees) n).rows t ≡ cond (q.alloc.0 == n && q.tag.0 == t) Free (guard_in (tree_at trees n).rows t)) (sym same)
          (ap (λ b. guard_in (tree_at (cond b (changed trees q.alloc.0 (λ (tree : TreeRows). unguarded tree.rows q.tag.0)) trees) q.alloc.0).rows t) there_live
          ∙ ap (λ (tree : TreeRows). guard_in tree.rows t) (found there_live)
          ∙ guard_one (tree_at trees q.alloc.0).rows q.tag.0 t
          ∙ ap (λ b. cond (b && q.tag.0 == t) Free (guard_in (tree_at trees q.alloc.0).rows t)) (sym (eq-eqb q.alloc.0 q.alloc.0 refl)))
        where
          there_live : is_some (live_at table q.alloc.0) ≡ true
          there_live = subst (λ n. is_some (live_at table n) ≡ true) same live
      by_number (inr apart) =
          by_live (is_some (live_at table q.alloc.0))
          ∙ ap (λ b. cond (b && q.tag.0 == t) Free (guard_in (tree_at trees k).rows t)) (sym (ne_eqb q.alloc.0 k (λ e. apart (sym e))))
        where
          by_live : (b : Bool) → guard_in (tree_at (cond b (changed trees q.alloc.0 (λ (tree : TreeRows). unguarded tree.rows q.tag.0)) trees) k).rows t ≡ guard_in (tree_at trees k).rows t
          by_live true = ap (λ (tree : TreeRows). guard_in tree.rows t) (nth_other trees q.alloc.0 k one no_tree apart)
          by_live false = refl

  -- what is there stays there
  pub still_there : (p : Prov) → IsThere table trees p → IsThere table (without_guard table q trees) p
  still_there p is live = ((let e : length (without_guard table q trees) ≡ length trees = count_one in let h : p.alloc.0 ≤ length trees = (is live).0 in let up : p.alloc.0 ≤ length (without_guard table q trees) = omega arith in up), HasTag-kept (tree_at trees p.alloc.0).rows (tree_at (without_guard table q trees) p.alloc.0).rows p.tag.0 (keeps_one p.alloc.0) (is live).1)

all_still : (table : List Allocation) (trees : List TreeRows) (q : Prov) → IsThere table trees q → (provs : List Prov) → AllByRecursion (IsThere table trees) provs → AllByRecursion (IsThere table (without_guard table q trees)) provs
all_still table trees q there [] all = tt
all_still table trees q there (p ∷ provs) all = (still_there table trees q there p all.0, all_still table trees q there provs all.1)

-- the next guard of a list goes
pub turn : (table : List Allocation) (start trees now : List TreeRows) (provs : List Prov) (i : ℕ) (d : Prov) → i < length provs → now ≡ without_guard table (get_or provs i d) trees
    → (without_guards table (drop i provs) trees ≡ without_guards table provs start) × AllByRecursion (IsThere table trees) (drop i provs)
    → (without_guards table (drop (i + 1) provs) now ≡ without_guards table provs start) × AllByRecursion (IsThere table now) (drop (i + 1) provs)
turn table start trees now provs i d within turned so_far =
    let split : drop i provs ≡ get_or provs i d ∷ drop (i + 1) provs = drop_more provs i d within in
    let there : AllByRecursion (IsThere table trees) (get_or provs i d ∷ drop (i + 1) provs) = subst (AllByRecursion (IsThere table trees)) split so_far.1 in (
      ap (without_guards table (drop (i + 1) provs)) turned ∙ sym (ap (λ list. without_guards table list trees) split) ∙ so_far.0,
      subst (λ (f : List TreeRows). AllByRecursion (IsThere table f) (drop (i + 1) provs)) (sym turned) (all_still table trees (get_or provs i d) there.0 (drop (i + 1) provs) there.1),
    )

keeps_all : (table : List Allocation) (trees : List TreeRows) (provs : List Prov) → AllByRecursion (IsThere table trees) provs → (k : ℕ) → KeepsTree (tree_at trees k).rows (tree_at (without_guards table provs trees) k).rows
keeps_all table trees [] all k = KeepsTree-refl (tree_at trees k).rows
keeps_all table trees (q ∷ provs) all k =
    KeepsTree-chain (tree_at trees k).rows (tree_at (without_guard table q trees) k).rows (tree_at (without_guards table provs (without_guard table q trees)) k).rows
    (keeps_one table trees q all.0 k) (keeps_all table (without_guard table q trees) provs (all_still table trees q all.0 provs all.1) k)

size_all : (table : List Allocation) (trees : List TreeRows) (provs : List Prov) → AllByRecursion (IsThere table trees) provs → (k : ℕ) → (tree_at (without_guards table provs trees) k).size ≡ (tree_at trees k).size
size_all table trees [] all k = refl
size_all table trees (q ∷ provs) all k = size_all table (without_guard table q trees) provs (all_still table trees q all.0 provs all.1) k ∙ size_one table trees q all.0 k

count_all : (table : List Allocation) (trees : List TreeRows) (provs : List Prov) → AllByRecursion (IsThere table trees) provs → length (without_guards table provs trees) ≡ length trees
count_all table trees [] all = refl
count_all table trees (q ∷ provs) all = count_all table (without_guard table q trees) provs (all_still table trees q all.0 provs all.1) ∙ count_one table trees q all.0

either_free : (a b : Bool) (g : Guard) → cond b Free (cond a Free g) ≡ cond (a || b) Free g
either_free true true g = refl
either_free true false g = refl
either_free false true g = refl
either_free false false g = refl

guards_all : (table : List Allocation) (trees : List TreeRows) (provs : List Prov) → AllByRecursion (IsThere table trees) provs → (k t : ℕ) → is_some (live_at table k) ≡ true
    → guard_in (tree_at (without_guards table provs trees) k).rows t ≡ cond (list_any (is_prov (record { alloc = record { 0 = k }; tag = record { 0 = t } })) provs) Free (guard_in (tree_at trees k).rows t)
guards_all table trees [] all k t live = refl
guards_all table trees (q ∷ provs) all k t live =
    let asked : Prov = record { alloc = record { 0 = k }; tag = record { 0 = t } } in
    guards_all table (without_guard table q trees) provs (all_still table trees q all.0 provs all.1) k t live
    ∙ ap (λ g. cond (list_any (is_prov asked) provs) Free g) (guards_one table trees q all.0 k t live)
    ∙ either_free (is_prov asked q) (list_any (is_prov asked) provs) (guard_in (tree_at trees k).rows t)

in_frame : (asked : Prov) (frame : List Guarded) → list_any (is_prov asked) (provs_of frame) ≡ is_in asked frame
in_frame asked [] = refl
in_frame asked (g ∷ frame) = ap (λ b. is_prov asked g.prov || b) (in_frame asked frame)

-- what is guarded is there
pub all_there : (memory : RunMemory) (provs : List Prov) → IsSound memory → All (λ (prov : Prov). kind_of memory.frames prov ≢ Free) provs → AllByRecursion (IsThere memory.table memory.trees) provs
all_there memory provs sound guarded = over provs (recursion_from_All (λ (prov : Prov). kind_of memory.frames prov ≢ Free) provs guarded)
  where
    one : (prov : Prov) → kind_of memory.frames prov ≢ Free → IsThere memory.table memory.trees prov
    one prov held live = by_found (live_at memory.table prov.alloc.0) refl live
      where
        by_found : (found : Option Allocation) → live_at memory.table prov.alloc.0 ≡ found → is_some found ≡ true → (prov.alloc.0 ≤ length memory.trees) × HasTag (rows_at memory prov.alloc.0) prov.tag.0
        by_found None e k = absurd (true≢false (sym k))
        by_found (Some a) e k =
            let within : (1 ≤ prov.alloc.0) × (prov.alloc.0 ≤ length memory.table) = live_within memory.table prov.alloc.0 a e in
            ((let high : prov.alloc.0 ≤ length memory.table = within.1 in let count : length memory.trees ≡ length memory.table = sound.count in let up : prov.alloc.0 ≤ length memory.trees = omega arith in up), reached_tag memory prov (reach memory prov a e (sound.guards prov held)))

    over : (list : List Prov) → AllByRecursion (λ (prov : Prov). kind_of memory.frames prov ≢ Free) list → AllByRecursion (IsThere memory.table memory.trees) list
    over [] all = tt
    over (prov ∷ list) all = (one prov all.0, over list all.1)

-- the guards of the running call are gone
module _ (memory : RunMemory) (frames : Frames) (sound : IsSound memory) (there : AllByRecursion (IsThere memory.table memory.trees) (guarded_now memory))
    (kinds : (asked : Prov) → kind_of frames asked ≡ cond (is_in asked (top_frame memory.frames)) Free (kind_of memory.frames asked)) where
  abbrev trees : List TreeRows
  trees = without_guards memory.table (guarded_now memory) memory.trees

  abbrev now : RunMemory
  now = record memory { trees = trees; frames = frames }

  keeps : (k : ℕ) → KeepsTree (rows_at memory k) (rows_at now k)
  keeps k = keeps_all memory.table memory.trees (guarded_now memory) there k

  pub call_knows : (prov : Prov) → knows now prov ≡ knows memory prov
  call_knows prov = in_found (allocation_at memory.table prov.alloc.0)
    where
      in_found : (found : Option Allocation) → knows_in found (rows_at now prov.alloc.0) prov.tag.0 ≡ knows_in found (rows_at memory prov.alloc.0) prov.tag.0
      in_found None = refl
      in_found (Some a) = by_live a.live
        where
          by_live : (live : Bool) → knows_in (Some (record a { live = live })) (rows_at now prov.alloc.0) prov.tag.0 ≡ knows_in (Some (record a { live = live })) (rows_at memory prov.alloc.0) prov.tag.0
          by_live true = list_any-KeepsTree (rows_at memory prov.alloc.0) (rows_at now prov.alloc.0) prov.tag.0 (keeps prov.alloc.0)
          by_live false = refl

  held_before : (prov : Prov) → kind_of frames prov ≢ Free → kind_of memory.frames prov ≢ Free
  held_before prov held free = by_in (is_in prov (top_frame memory.frames)) refl
    where
      by_in : (b : Bool) → is_in prov (top_frame memory.frames) ≡ b → ⊥
      by_in true e = held (kinds prov ∙ ap (λ b. cond b Free (kind_of memory.frames prov)) e)
      by_in false e = held (kinds prov ∙ ap (λ b. cond b Free (kind_of memory.frames prov)) e ∙ free)

  pub kept_call : IsSound now
  kept_call = record {
    blocks = sound.blocks;
    count = count_all memory.table memory.trees (guarded_now memory) there ∙ sound.count;
    sizes = λ k a e. size_all memory.table memory.trees (guarded_now memory) there k ∙ sound.sizes k a e;
    grown = λ k a e. IsRows-kept a.size (rows_at memory k) (rows_at now k) (keeps k) (sound.grown k a e);
    below = λ k. All_tags-kept (λ t. t ≤ memory.tags) (rows_at memory k) (rows_at now k) (keeps k) (sound.below k);
    known = λ k. pass_more (knows memory) (knows now) (λ prov h. call_knows prov ∙ h) (bytes_at memory.contents k) (sound.known k);
    guards = λ prov held. call_knows prov ∙ sound.guards prov (held_before prov held);
    agree = λ k a e t has.
        let asked : Prov = record { alloc = record { 0 = k }; tag = record { 0 = t } } in
        guards_all memory.table memory.trees (guarded_now memory) there k t (ap is_some e)
        ∙ ap (λ b. cond b Free (guard_in (rows_at memory k) t)) (in_frame asked (top_frame memory.frames))
        ∙ ap (λ g. cond (is_in asked (top_frame memory.frames)) Free g) (sound.agree k a e t (sym (list_any-KeepsTree (rows_at memory k) (rows_at now k) t (keeps k)) ∙ has))
        ∙ sym (kinds asked);
  }
