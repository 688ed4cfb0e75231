-- What is true of a memory stays true when a reborrow makes a tag.
use Rattle.std.proofs.Common.{◌≡◌, ◌≢◌, refl, sym, ◌∙◌, ap, subst, inl, inr, ◌⊎◌, ℕ, ◌+◌, ◌<◌, ◌≤◌, Bool, true, false, cond, not, ◌&&◌, ◌||◌, ◌==◌, List, [], ◌∷◌, length, Option, Some, None, is_some, All, arith}
use Rattle.std.specs.Cmp.{second_so}
use Rattle.std.specs.List.{AllByRecursion}
use Rattle.std.proofs.lemmas.Bool.{ne_eqb}
use Rattle.std.proofs.lemmas.List.Elements.{All-from_recursion}
use Rattle.tb_perm.specs.declared.tag.AllocId.{AllocId}
use Rattle.tb_perm.specs.declared.tag.Prov.{Prov}
use Rattle.tb_perm.specs.declared.perm.Guard.{Guard}
use Rattle.tb_perm.specs.declared.perm.Guard.TheVariants.{Free, Weak, Strong}
use Rattle.tb_perm.specs.declared.new_tag.NewTag.{NewTag}
use Rattle.tb_perm.specs.Rows.{Row, HasTag, IsRows}
use Rattle.tb_perm.specs.Reborrow.{reborrow_event, reborrowed, reborrowed_rows, new_row}
use Rattle.tb_perm.proofs.Kept.{after-keeps, All_tags-kept, AllByRecursion-append, IsRows-reborrowed, HasTag-reborrowed, HasTag-made}
use Rattle.tb_bytes.specs.declared.byte_val.ByteVal.{ByteVal}
use Rattle.tb_alloc.specs.declared.allocation.Allocation.{Allocation}
use Rattle.tb_alloc.specs.Allocations.{allocation_at, killed}
use Rattle.tb_protect.specs.Frames.{Frames, is_prov, kind_of}
use Rattle.tb_protect.proofs.Provs.{is_prov-same}
use Rattle.tb_prune.specs.Guards.{GuardsAre}
use Rattle.tb_prune.proofs.GuardLaws.{guards_made}
use Rattle.tb_prune.proofs.Rounds.{all_has}
use Rattle.tb_store.specs.Store.{with_nth, bytes_at, live_at}
use Rattle.tb_store.proofs.Places.{same_or_not, nth_same, nth_other, length_with, with_twice}
use Rattle.tb_store.proofs.Blocks.{live_made}
use Rattle.tb_forest.specs.Forest.{TreeRows, no_tree, tree_at, changed, felled}
use Rattle.tb_events.specs.Memory.{RunMemory, rows_at, has_tag, knows_in, knows, reaches, without}
use Rattle.tb_events.specs.Calls.{prov_made, prov_parent}
use Rattle.tb_events.specs.Sound.{IsSound}
use Rattle.tb_events.proofs.Keeping.{pass_more, found_live, live_within, reach}
use Rattle.tb_events.proofs.Making.{more_tags}

-- the tag that is reached has a row
pub reached_tag : (memory : RunMemory) (prov : Prov) → reaches memory prov ≡ true → HasTag (rows_at memory prov.alloc.0) prov.tag.0
reached_tag memory prov h = second_so (is_some (live_at memory.table prov.alloc.0)) (has_tag (rows_at memory prov.alloc.0) prov.tag.0) h

-- a tag above all that were drawn is guarded by no call, where its allocation is live
pub next_free : (memory : RunMemory) (prov : Prov) (a : Allocation) → IsSound memory → live_at memory.table prov.alloc.0 ≡ Some a → memory.tags < prov.tag.0 → kind_of memory.frames prov ≡ Free
next_free memory prov a sound live above = by_kind (kind_of memory.frames prov) refl
  where
    clash : kind_of memory.frames prov ≢ Free → ⊥
    clash held =
        let has : HasTag (rows_at memory prov.alloc.0) prov.tag.0 = reached_tag memory prov (reach memory prov a live (sound.guards prov held)) in
        let low : prov.tag.0 ≤ memory.tags = all_has (λ t. t ≤ memory.tags) (rows_at memory prov.alloc.0) prov.tag.0 (sound.below prov.alloc.0) has in
        omega arith

    by_kind : (g : Guard) → kind_of memory.frames prov ≡ g → kind_of memory.frames prov ≡ Free
    by_kind Free e = e
    by_kind Weak e = absurd (clash (λ f. absurd (let c : Weak ≡ Free = sym e ∙ f in cc)))
    by_kind Strong e = absurd (clash (λ f. absurd (let c : Strong ≡ Free = sym e ∙ f in cc)))

less_up : (tags : ℕ) (rows : List Row) → AllByRecursion (λ (row : Row). row.tag ≤ tags) rows → AllByRecursion (λ (row : Row). row.tag < tags + 1) rows
less_up tags [] h = tt
less_up tags (row ∷ rows) h = let low : row.tag ≤ tags = h.0 in ((let up : row.tag < tags + 1 = omega arith in up), less_up tags rows h.1)

-- the tag is above all of its allocation
pub above_all : (memory : RunMemory) (number next : ℕ) → IsSound memory → next ≡ memory.tags + 1 → All (λ (row : Row). row.tag < next) (rows_at memory number)
above_all memory number next sound e =
    subst (λ n. All (λ (row : Row). row.tag < n) (rows_at memory number)) (sym e)
    (All-from_recursion (λ (row : Row). row.tag < memory.tags + 1) (rows_at memory number) (less_up memory.tags (rows_at memory number) (sound.below number)))

module _ (memory : RunMemory) (alloc : AllocId) (new : NewTag) (frames : Frames) (sound : IsSound memory) (reached : reaches memory (prov_parent alloc new) ≡ true) (next : new.tag.0 ≡ memory.tags + 1)
    (kinds : (asked : Prov) → kind_of frames asked ≡ cond (is_prov asked (prov_made alloc new)) new.guard (kind_of memory.frames asked)) where
  abbrev change : TreeRows → List Row
  change tree = reborrowed tree.rows tree.size new

  abbrev now : RunMemory
  now = record memory { trees = changed memory.trees alloc.0 change; tags = memory.tags + 1; frames = frames }

  abbrev tree : TreeRows
  tree = record (tree_at memory.trees alloc.0) { rows = change (tree_at memory.trees alloc.0) }

  found : (a : Allocation) × (live_at memory.table alloc.0 ≡ Some a)
  found = found_live memory (prov_parent alloc new) reached

  there : tree_at (changed memory.trees alloc.0 change) alloc.0 ≡ tree
  there =
      let within : (1 ≤ alloc.0) × (alloc.0 ≤ length memory.table) = live_within memory.table alloc.0 found.0 found.1 in
      nth_same memory.trees alloc.0 tree no_tree within.0 (let high : alloc.0 ≤ length memory.table = within.1 in let count : length memory.trees ≡ length memory.table = sound.count in omega arith)

  by_tree : (k : ℕ) (P : ℕ → TreeRows → Type 0) → P alloc.0 tree → (k ≢ alloc.0 → P k (tree_at memory.trees k)) → P k (tree_at (changed memory.trees alloc.0 change) k)
  by_tree k P made old = by_number (same_or_not k alloc.0)
    where
      by_number : (k ≡ alloc.0) ⊎ (k ≢ alloc.0) → P k (tree_at (changed memory.trees alloc.0 change) k)
      by_number (inl same) = subst (λ n. P n (tree_at (changed memory.trees alloc.0 change) n)) (sym same) (subst (λ (t : TreeRows). P alloc.0 t) (sym there) made)
      by_number (inr apart) = subst (λ (t : TreeRows). P k t) (sym (nth_other memory.trees alloc.0 k tree no_tree apart)) (old apart)

  above : All (λ (row : Row). row.tag < new.tag.0) (rows_at memory alloc.0)
  above = above_all memory alloc.0 new.tag.0 sound next

  more_known : (found : Option Allocation) (old new : List Row) (t : ℕ) → (has_tag old t ≡ true → has_tag new t ≡ true) → knows_in found old t ≡ true → knows_in found new t ≡ true
  more_known None old new t more h = h
  more_known (Some a) old new t more h = by_live a.live h
    where
      by_live : (live : Bool) → (not live || has_tag old t) ≡ true → (not live || has_tag new t) ≡ true
      by_live true k = more k
      by_live false k = refl

  pub tag_knows : (asked : Prov) → knows memory asked ≡ true → knows now asked ≡ true
  tag_knows asked =
      by_tree asked.alloc.0 (λ k (t : TreeRows). knows_in (allocation_at memory.table k) (rows_at memory k) asked.tag.0 ≡ true → knows_in (allocation_at memory.table k) t.rows asked.tag.0 ≡ true)
      (more_known (allocation_at memory.table alloc.0) (rows_at memory alloc.0) tree.rows asked.tag.0 (HasTag-reborrowed (tree_at memory.trees alloc.0).size (rows_at memory alloc.0) new asked.tag.0))
      (λ apart h. h)

  pub tag_known : knows now (prov_made alloc new) ≡ true
  tag_known =
      subst (λ (a : Option Allocation). knows_in a (rows_at now alloc.0) new.tag.0 ≡ true) (sym (live_made (allocation_at memory.table alloc.0) found.0 found.1))
      (subst (λ (t : TreeRows). knows_in (Some found.0) t.rows new.tag.0 ≡ true) (sym there) (either found.0.live (HasTag-made (tree_at memory.trees alloc.0).size (rows_at memory alloc.0) new)))
    where
      either : (live : Bool) → has_tag tree.rows new.tag.0 ≡ true → (not live || has_tag tree.rows new.tag.0) ≡ true
      either true h = h
      either false h = refl

  last_low : new.tag.0 ≤ memory.tags + 1
  last_low = omega arith

  other_kind : (k t : ℕ) → k ≢ alloc.0 → kind_of memory.frames (record { alloc = record { 0 = k }; tag = record { 0 = t } }) ≡ kind_of frames (record { alloc = record { 0 = k }; tag = record { 0 = t } })
  other_kind k t apart =
      sym (kinds (record { alloc = record { 0 = k }; tag = record { 0 = t } })
      ∙ ap (λ b. cond (b && new.tag.0 == t) new.guard (kind_of memory.frames (record { alloc = record { 0 = k }; tag = record { 0 = t } }))) (ne_eqb alloc.0 k (λ e. apart (sym e))))

  held_known : (prov : Prov) → kind_of frames prov ≢ Free → knows now prov ≡ true
  held_known prov held = by_same (is_prov prov (prov_made alloc new)) refl
    where
      by_same : (b : Bool) → is_prov prov (prov_made alloc new) ≡ b → knows now prov ≡ true
      by_same true e = subst (λ (p : Prov). knows now p ≡ true) (is_prov-same prov (prov_made alloc new) e) tag_known
      by_same false e = tag_knows prov (sound.guards prov (λ free. held (kinds prov ∙ ap (λ b. cond b new.guard (kind_of memory.frames prov)) e ∙ free)))

  pub kept_tag : IsSound now
  kept_tag = record {
    blocks = sound.blocks;
    count = length_with memory.trees alloc.0 tree ∙ sound.count;
    sizes = λ k b e. by_tree k (λ n (t : TreeRows). live_at memory.table n ≡ Some b → t.size ≡ b.size) (λ f. sound.sizes alloc.0 b f) (λ apart f. sound.sizes k b f) e;
    grown = λ k b e. by_tree k (λ n (t : TreeRows). live_at memory.table n ≡ Some b → IsRows b.size t.rows)
        (λ f. subst (λ n. IsRows b.size (reborrowed (rows_at memory alloc.0) n new)) (sym (sound.sizes alloc.0 b f)) (IsRows-reborrowed b.size (rows_at memory alloc.0) new (sound.grown alloc.0 b f) (reached_tag memory (prov_parent alloc new) reached) above))
        (λ apart f. sound.grown k b f) e;
    below = λ k. by_tree k (λ n (t : TreeRows). AllByRecursion (λ (row : Row). row.tag ≤ memory.tags + 1) t.rows)
        (AllByRecursion-append (λ (row : Row). row.tag ≤ memory.tags + 1) (reborrowed_rows (rows_at memory alloc.0) new) (new_row (tree_at memory.trees alloc.0).size new ∷ [])
        (All_tags-kept (λ t. t ≤ memory.tags + 1) (rows_at memory alloc.0) (reborrowed_rows (rows_at memory alloc.0) new) (after-keeps (reborrow_event new) (rows_at memory alloc.0)) (more_tags memory.tags (rows_at memory alloc.0) (sound.below alloc.0)))
        (last_low, tt))
        (λ apart. more_tags memory.tags (rows_at memory k) (sound.below k));
    known = λ k. pass_more (knows memory) (knows now) tag_knows (bytes_at memory.contents k) (sound.known k);
    guards = held_known;
    agree = λ k b e. by_tree k (λ n (t : TreeRows). live_at memory.table n ≡ Some b → GuardsAre frames (record { 0 = n }) t.rows)
        (λ f. guards_made memory.frames frames alloc (tree_at memory.trees alloc.0).size (rows_at memory alloc.0) new (sound.agree alloc.0 b f) above kinds)
        (λ apart f t has. sound.agree k b f t has ∙ other_kind k t apart) e;
  }

-- the tag that is made is free before
pub fresh : (memory : RunMemory) (alloc : AllocId) (new : NewTag) → IsSound memory → reaches memory (prov_parent alloc new) ≡ true → new.tag.0 ≡ memory.tags + 1 → kind_of memory.frames (prov_made alloc new) ≡ Free
fresh memory alloc new sound reached next =
    let found : (a : Allocation) × (live_at memory.table alloc.0 ≡ Some a) = found_live memory (prov_parent alloc new) reached in
    next_free memory (prov_made alloc new) found.0 sound found.1 (let up : memory.tags < new.tag.0 = omega arith in up)

-- an allocation whose rows were changed is dead as if they were not
pub undone : (memory : RunMemory) (number : ℕ) (change : TreeRows → List Row) (table : List Allocation) (contents : List (List ByteVal)) (turned trees : List TreeRows) (frames : Frames) → table ≡ killed memory.table number → contents ≡ with_nth memory.contents number []
    → turned ≡ changed memory.trees number change → trees ≡ felled turned number → frames ≡ memory.frames → record memory { table = table; contents = contents; trees = trees; frames = frames } ≡ without memory number
undone memory number change table contents turned trees frames e f g h k =
    ap (λ (t : List Allocation). record memory { table = t; contents = contents; trees = trees; frames = frames }) e
    ∙ ap (λ (b : List (List ByteVal)). record memory { table = killed memory.table number; contents = b; trees = trees; frames = frames }) f
    ∙ ap (λ (t : List TreeRows). record memory { table = killed memory.table number; contents = with_nth memory.contents number []; trees = t; frames = frames })
    (h ∙ ap (λ (t : List TreeRows). felled t number) g ∙ with_twice memory.trees number (record (tree_at memory.trees number) { rows = change (tree_at memory.trees number) }) no_tree)
    ∙ ap (λ (q : Frames). record memory { table = killed memory.table number; contents = with_nth memory.contents number []; trees = felled memory.trees number; frames = q }) k
