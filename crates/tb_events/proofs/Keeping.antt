-- What is true of a memory stays true when one of its allocations changes.
use Rattle.std.proofs.Common.{IfOk, Err, Ok, Result, ◌-◌, ◌≡◌, ◌≢◌, refl, sym, ◌∙◌, ap, subst, inl, inr, ◌⊎◌, ℕ, zero, suc, ◌+◌, ◌<◌, ◌≤◌, Bool, true, false, true≢false, cond, not, ◌&&◌, ◌||◌, List, [], ◌∷◌, ◌++◌, length, take, drop, Option, Some, None, is_some, option_map, arith}
use Rattle.std.specs.Cmp.{first_so, second_so}
use Rattle.std.specs.List.{slice_range, AllByRecursion, splice}
use Rattle.tb_perm.specs.declared.tag.Prov.{Prov}
use Rattle.tb_perm.specs.Rows.{Row, IsRows}
use Rattle.tb_perm.specs.Tree.{KeepsTree}
use Rattle.tb_perm.proofs.Kept.{list_any-KeepsTree, All_tags-kept, IsRows-kept}
use Rattle.tb_bytes.specs.declared.byte_val.ByteVal.{ByteVal}
use Rattle.tb_bytes.specs.Bytes.{prov_of}
use Rattle.tb_alloc.specs.declared.allocation.Allocation.{Allocation}
use Rattle.tb_alloc.specs.Allocations.{allocation_at, dead, killed}
use Rattle.tb_alloc.proofs.Numbers.{allocation_at-killed, allocation_at-killed_other, length-killed}
use Rattle.tb_alloc.specs.Check.{if_live}
use Rattle.tb_prune.specs.Guards.{GuardsAre}
use Rattle.tb_value.specs.Provs.{passes, all_pass}
use Rattle.tb_store.specs.Store.{nth, with_nth, bytes_at, live_at}
use Rattle.tb_store.proofs.Places.{same_or_not, nth_same, nth_other, length_with, nth_past}
use Rattle.tb_store.proofs.Blocks.{made_within, live_made, blocks_gone, blocks_written}
use Rattle.tb_forest.specs.Forest.{TreeRows, no_tree, tree_at, changed, felled}
use Rattle.tb_bytes.proofs.Splices.{length-splice}
use Rattle.tb_bytes.proofs.Marking.{length_part}
use Rattle.tb_perm.specs.Event.{Event, after}
use Rattle.tb_perm.proofs.Kept.{after-keeps}
use Rattle.tb_prune.proofs.GuardLaws.{guards_event}
use Rattle.tb_value.proofs.Kept.{pass_both, pass_take, pass_drop}
use Rattle.tb_events.specs.Memory.{RunMemory, rows_at, size_in, size_at, with_rows, with_bytes, without, has_tag, knows_in, knows, reaches}
use Rattle.tb_events.specs.Sound.{IsSound}

both : (a b : Bool) → a ≡ true → b ≡ true → (a && b) ≡ true
both true b h k = k
both false b h k = absurd (true≢false (sym h))

-- where a test that passes all is followed by another
pub pass_more : (f g : Prov → Bool) → ((prov : Prov) → f prov ≡ true → g prov ≡ true) → (bytes : List ByteVal) → all_pass f bytes ≡ true → all_pass g bytes ≡ true
pass_more f g more [] h = refl
pass_more f g more (byte ∷ bytes) h =
    both (passes g (prov_of byte)) (all_pass g bytes) (one (prov_of byte) (first_so (passes f (prov_of byte)) (all_pass f bytes) h)) (pass_more f g more bytes (second_so (passes f (prov_of byte)) (all_pass f bytes) h))
  where
    one : (prov : Option Prov) → passes f prov ≡ true → passes g prov ≡ true
    one None k = refl
    one (Some prov) k = more prov k

-- of each number, what it has is what it had, or nothing
emptied : {A : Type 0} (list : List A) (number k : ℕ) (none : A) (P : A → Type 0) → P none → P (nth list k none) → P (nth (with_nth list number none) k none)
emptied {A} list number k none P empty some = by_number (same_or_not k number)
  where
    set_empty : (xs : List A) (n : ℕ) → nth (with_nth xs n none) n none ≡ none
    set_empty xs zero = refl
    set_empty [] (suc n) = refl
    set_empty (x ∷ xs) (suc zero) = refl
    set_empty (x ∷ xs) (suc (suc n)) = set_empty xs (suc n)

    by_number : (k ≡ number) ⊎ (k ≢ number) → P (nth (with_nth list number none) k none)
    by_number (inl same) = subst (λ n. P (nth (with_nth list number none) n none)) (sym same) (subst P (sym (set_empty list number)) empty)
    by_number (inr apart) = subst P (sym (nth_other list number k none none apart)) some

-- the numbers of live allocations
pub live_within : (table : List Allocation) (number : ℕ) (a : Allocation) → live_at table number ≡ Some a → (1 ≤ number) × (number ≤ length table)
live_within table number a e = made_within table number a (live_made (allocation_at table number) a e)

-- other rows of a live allocation, with the same tags
module _ (memory : RunMemory) (number : ℕ) (a : Allocation) (change : TreeRows → List Row) (sound : IsSound memory) (live : live_at memory.table number ≡ Some a) (keeps : KeepsTree (rows_at memory number) (change (tree_at memory.trees number))) where
  abbrev now : RunMemory
  now = with_rows memory number change

  abbrev tree : TreeRows
  tree = record (tree_at memory.trees number) { rows = change (tree_at memory.trees number) }

  there : tree_at (changed memory.trees number change) number ≡ tree
  there =
      let within : (1 ≤ number) × (number ≤ length memory.table) = live_within memory.table number a live in
      nth_same memory.trees number tree no_tree within.0 (let high : number ≤ length memory.table = within.1 in let count : length memory.trees ≡ length memory.table = sound.count in omega arith)

  -- what every other tree has it still has
  by_tree : (k : ℕ) (P : ℕ → TreeRows → Type 0) → (k ≡ number → P number tree) → P k (tree_at memory.trees k) → P k (tree_at (changed memory.trees number change) k)
  by_tree k P new old = by_number (same_or_not k number)
    where
      by_number : (k ≡ number) ⊎ (k ≢ number) → P k (tree_at (changed memory.trees number change) k)
      by_number (inl same) = subst (λ n. P n (tree_at (changed memory.trees number change) n)) (sym same) (subst (λ (t : TreeRows). P number t) (sym there) (new same))
      by_number (inr apart) = subst (λ (t : TreeRows). P k t) (sym (nth_other memory.trees number k tree no_tree apart)) old

  same_tags : (k t : ℕ) → has_tag (rows_at now k) t ≡ has_tag (rows_at memory k) t
  same_tags k t =
      by_tree k (λ n (tree : TreeRows). has_tag tree.rows t ≡ has_tag (rows_at memory n) t) (λ same. list_any-KeepsTree (rows_at memory number) (change (tree_at memory.trees number)) t keeps) refl

  pub same_knows : (prov : Prov) → knows now prov ≡ knows memory prov
  same_knows prov = in_found (allocation_at memory.table prov.alloc.0)
    where
      in_found : (found : Option Allocation) → knows_in found (rows_at now prov.alloc.0) prov.tag.0 ≡ knows_in found (rows_at memory prov.alloc.0) prov.tag.0
      in_found None = refl
      in_found (Some b) = ap (λ has. not b.live || has) (same_tags prov.alloc.0 prov.tag.0)

  pub kept_rows : GuardsAre memory.frames (record { 0 = number }) (change (tree_at memory.trees number)) → IsSound now
  kept_rows agree = record {
    blocks = sound.blocks;
    count = length_with memory.trees number tree ∙ sound.count;
    sizes = λ k b e. by_tree k (λ n (t : TreeRows). live_at memory.table n ≡ Some b → t.size ≡ b.size) (λ same f. sound.sizes number b f) (sound.sizes k b) e;
    grown = λ k b e. by_tree k (λ n (t : TreeRows). live_at memory.table n ≡ Some b → IsRows b.size t.rows) (λ same f. IsRows-kept b.size (rows_at memory number) (change (tree_at memory.trees number)) keeps (sound.grown number b f)) (sound.grown k b) e;
    below = λ k. by_tree k (λ n (t : TreeRows). AllByRecursion (λ (row : Row). row.tag ≤ memory.tags) t.rows) (λ same. All_tags-kept (λ t. t ≤ memory.tags) (rows_at memory number) (change (tree_at memory.trees number)) keeps (sound.below number)) (sound.below k);
    known = λ k. pass_more (knows memory) (knows now) (λ prov h. same_knows prov ∙ h) (bytes_at memory.contents k) (sound.known k);
    guards = λ prov h. same_knows prov ∙ sound.guards prov h;
    agree = λ k b e. by_tree k (λ n (t : TreeRows). live_at memory.table n ≡ Some b → GuardsAre memory.frames (record { 0 = n }) t.rows) (λ same f. agree) (sound.agree k b) e;
  }

-- other bytes of an allocation, whose provenances are known
pub kept_bytes : (memory : RunMemory) (number : ℕ) (bytes : List ByteVal) → IsSound memory → length bytes ≡ length (bytes_at memory.contents number) → all_pass (knows memory) bytes ≡ true → IsSound (with_bytes memory number bytes)
kept_bytes memory number bytes sound long known = record {
  blocks = blocks_written memory.table memory.contents number bytes sound.blocks long;
  count = sound.count;
  sizes = sound.sizes;
  grown = sound.grown;
  below = sound.below;
  known = λ k. by_number k (same_or_not k number);
  guards = sound.guards;
  agree = sound.agree;
}
  where
    at_number : (low : (1 ≤ number) ⊎ (number ≡ 0)) (high : (number ≤ length memory.contents) ⊎ (length memory.contents < number)) → all_pass (knows memory) (bytes_at (with_nth memory.contents number bytes) number) ≡ true
    at_number (inl low) (inl high) = ap (all_pass (knows memory)) (nth_same memory.contents number bytes [] low high) ∙ known
    at_number (inr none) high = ap (λ n. all_pass (knows memory) (bytes_at (with_nth memory.contents number bytes) n)) none
    at_number low (inr past) =
        ap (all_pass (knows memory)) (nth_past (with_nth memory.contents number bytes) number [] (let e : length (with_nth memory.contents number bytes) ≡ length memory.contents = length_with memory.contents number bytes in omega arith))

    some_or_none : (n : ℕ) → (1 ≤ n) ⊎ (n ≡ 0)
    some_or_none zero = inr refl
    some_or_none (suc n) = inl (omega arith)

    up_to : (n m : ℕ) → (n ≤ m) ⊎ (m < n)
    up_to zero m = inl (omega arith)
    up_to (suc n) zero = inr (omega arith)
    up_to (suc n) (suc m) = by_less (up_to n m)
      where
        by_less : (n ≤ m) ⊎ (m < n) → (suc n ≤ suc m) ⊎ (suc m < suc n)
        by_less (inl h) = inl (omega arith)
        by_less (inr h) = inr (omega arith)

    by_number : (k : ℕ) → (k ≡ number) ⊎ (k ≢ number) → all_pass (knows memory) (bytes_at (with_nth memory.contents number bytes) k) ≡ true
    by_number k (inl same) = ap (λ n. all_pass (knows memory) (bytes_at (with_nth memory.contents number bytes) n)) same ∙ at_number (some_or_none number) (up_to number (length memory.contents))
    by_number k (inr apart) = ap (all_pass (knows memory)) (nth_other memory.contents number k bytes [] apart) ∙ sound.known k

-- an allocation that is dead
module _ (memory : RunMemory) (number : ℕ) (sound : IsSound memory) where
  abbrev gone : RunMemory
  gone = without memory number

  pub still_knows : (prov : Prov) → knows memory prov ≡ true → knows gone prov ≡ true
  still_knows prov h = by_number (same_or_not prov.alloc.0 number)
    where
      in_dead : (found : Option Allocation) (rows list : List Row) → knows_in found rows prov.tag.0 ≡ true → knows_in (option_map dead found) list prov.tag.0 ≡ true
      in_dead None rows list k = k
      in_dead (Some a) rows list k = refl

      by_number : (prov.alloc.0 ≡ number) ⊎ (prov.alloc.0 ≢ number) → knows gone prov ≡ true
      by_number (inl same) =
          ap (λ found. knows_in found (rows_at gone prov.alloc.0) prov.tag.0) (ap (allocation_at (killed memory.table number)) same ∙ allocation_at-killed memory.table number ∙ ap (λ n. option_map dead (allocation_at memory.table n)) (sym same))
          ∙ in_dead (allocation_at memory.table prov.alloc.0) (rows_at memory prov.alloc.0) (rows_at gone prov.alloc.0) h
      by_number (inr apart) =
          ap (λ found. knows_in found (rows_at gone prov.alloc.0) prov.tag.0) (allocation_at-killed_other memory.table number prov.alloc.0 apart)
          ∙ ap (λ (t : TreeRows). knows_in (allocation_at memory.table prov.alloc.0) t.rows prov.tag.0) (nth_other memory.trees number prov.alloc.0 no_tree no_tree apart) ∙ h

  not_live : (found : Option Allocation) (a : Allocation) → if_live (option_map dead found) ≡ Some a → ⊥
  not_live None a e = cc
  not_live (Some b) a e = cc

  -- what is live was live, and is another one
  was_live : (k : ℕ) (b : Allocation) → live_at (killed memory.table number) k ≡ Some b → (live_at memory.table k ≡ Some b) × (k ≢ number)
  was_live k b e = by_number (same_or_not k number)
    where
      by_number : (k ≡ number) ⊎ (k ≢ number) → (live_at memory.table k ≡ Some b) × (k ≢ number)
      by_number (inl same) = absurd (not_live (allocation_at memory.table number) b (ap if_live (sym (allocation_at-killed memory.table number)) ∙ ap (live_at (killed memory.table number)) (sym same) ∙ e))
      by_number (inr apart) = (ap if_live (sym (allocation_at-killed_other memory.table number k apart)) ∙ e, apart)

  pub kept_gone : IsSound gone
  kept_gone = record {
    blocks = blocks_gone memory.table (killed memory.table number) memory.contents number sound.blocks (length-killed memory.table number) (allocation_at-killed memory.table number) (λ k apart. allocation_at-killed_other memory.table number k apart);
    count = length_with memory.trees number no_tree ∙ sound.count ∙ sym (length-killed memory.table number);
    sizes = λ k b e. let was : (live_at memory.table k ≡ Some b) × (k ≢ number) = was_live k b e in ap (λ (t : TreeRows). t.size) (nth_other memory.trees number k no_tree no_tree was.1) ∙ sound.sizes k b was.0;
    grown = λ k b e. let was : (live_at memory.table k ≡ Some b) × (k ≢ number) = was_live k b e in subst (λ (t : TreeRows). IsRows b.size t.rows) (sym (nth_other memory.trees number k no_tree no_tree was.1)) (sound.grown k b was.0);
    below = λ k. emptied memory.trees number k no_tree (λ (t : TreeRows). AllByRecursion (λ (row : Row). row.tag ≤ memory.tags) t.rows) tt (sound.below k);
    known = λ k. emptied memory.contents number k [] (λ (bytes : List ByteVal). all_pass (knows gone) bytes ≡ true) refl (pass_more (knows memory) (knows gone) still_knows (bytes_at memory.contents k) (sound.known k));
    guards = λ prov h. still_knows prov (sound.guards prov h);
    agree = λ k b e. let was : (live_at memory.table k ≡ Some b) × (k ≢ number) = was_live k b e in subst (λ (t : TreeRows). GuardsAre memory.frames (record { 0 = k }) t.rows) (sym (nth_other memory.trees number k no_tree no_tree was.1)) (sound.agree k b was.0);
  }

-- the same, where its parts are told one by one
pub gone_is : (memory : RunMemory) (number : ℕ) (table : List Allocation) (contents : List (List ByteVal)) (trees : List TreeRows) → IsSound memory → table ≡ killed memory.table number → contents ≡ with_nth memory.contents number [] → trees ≡ felled memory.trees number
    → IsSound (record memory { table = table; contents = contents; trees = trees })
gone_is memory number table contents trees sound e f g =
    subst (λ (t : List Allocation). IsSound (record memory { table = t; contents = contents; trees = trees })) (sym e)
    (subst (λ (b : List (List ByteVal)). IsSound (record memory { table = killed memory.table number; contents = b; trees = trees })) (sym f)
    (subst (λ (t : List TreeRows). IsSound (record memory { table = killed memory.table number; contents = with_nth memory.contents number []; trees = t })) (sym g) (kept_gone memory number sound)))

-- what a provenance reaches is live, and has the tag
pub found_live : (memory : RunMemory) (prov : Prov) → reaches memory prov ≡ true → (a : Allocation) × (live_at memory.table prov.alloc.0 ≡ Some a)
found_live memory prov h = by_found (live_at memory.table prov.alloc.0) refl (first_so (is_some (live_at memory.table prov.alloc.0)) (has_tag (rows_at memory prov.alloc.0) prov.tag.0) h)
  where
    by_found : (found : Option Allocation) → live_at memory.table prov.alloc.0 ≡ found → is_some found ≡ true → (a : Allocation) × (live_at memory.table prov.alloc.0 ≡ Some a)
    by_found None e k = absurd (true≢false (sym k))
    by_found (Some a) e k = (a, e)

-- and has as many bytes as its tree is for
pub sized : (memory : RunMemory) (prov : Prov) → IsSound memory → reaches memory prov ≡ true → (tree_at memory.trees prov.alloc.0).size ≡ size_at memory prov.alloc.0
sized memory prov sound h =
    let found : (a : Allocation) × (live_at memory.table prov.alloc.0 ≡ Some a) = found_live memory prov h in
    sound.sizes prov.alloc.0 found.0 found.1 ∙ sym (ap size_in (live_made (allocation_at memory.table prov.alloc.0) found.0 found.1))

-- an event on the tree that it names
pub kept_event : (memory : RunMemory) (prov : Prov) (event : TreeRows → Event) → IsSound memory → reaches memory prov ≡ true → IsSound (with_rows memory prov.alloc.0 (λ (tree : TreeRows). after (event tree) tree.rows))
kept_event memory prov event sound h =
    let found : (a : Allocation) × (live_at memory.table prov.alloc.0 ≡ Some a) = found_live memory prov h in
    let tree : TreeRows = tree_at memory.trees prov.alloc.0 in
    kept_rows memory prov.alloc.0 found.0 (λ (t : TreeRows). after (event t) t.rows) sound found.1 (after-keeps (event tree) (rows_at memory prov.alloc.0))
    (guards_event memory.frames (record { 0 = prov.alloc.0 }) (event tree) (rows_at memory prov.alloc.0) (sound.agree prov.alloc.0 found.0 found.1))

-- bytes that are written among others
pub kept_splice : (memory : RunMemory) (prov : Prov) (lo : ℕ) (bytes : List ByteVal) → IsSound memory → reaches memory prov ≡ true → lo + length bytes ≤ size_at memory prov.alloc.0 → all_pass (knows memory) bytes ≡ true
    → IsSound (with_bytes memory prov.alloc.0 (splice (bytes_at memory.contents prov.alloc.0) lo (lo + length bytes) bytes))
kept_splice memory prov lo bytes sound h within known =
    let old : List ByteVal = bytes_at memory.contents prov.alloc.0 in
    let found : (a : Allocation) × (live_at memory.table prov.alloc.0 ≡ Some a) = found_live memory prov h in
    let long : length (bytes_at memory.contents prov.alloc.0) ≡ size_at memory prov.alloc.0 = sound.blocks.sizes prov.alloc.0 found.0 found.1 ∙ sym (ap size_in (live_made (allocation_at memory.table prov.alloc.0) found.0 found.1)) in
    kept_bytes memory prov.alloc.0 (splice old lo (lo + length bytes) bytes) sound
    (length-splice old bytes lo (lo + length bytes) (omega arith) (let high : lo + length bytes ≤ length (bytes_at memory.contents prov.alloc.0) = omega arith in high) (omega arith))
    (pass_both (knows memory) (take lo old) (bytes ++ drop (lo + length bytes) old) (pass_take (knows memory) lo old (sound.known prov.alloc.0))
    (pass_both (knows memory) bytes (drop (lo + length bytes) old) known (pass_drop (knows memory) (lo + length bytes) old (sound.known prov.alloc.0))))

-- and what is known and reached stays so
pub known_event : (memory : RunMemory) (prov : Prov) (event : TreeRows → Event) → IsSound memory → reaches memory prov ≡ true → (asked : Prov) → knows (with_rows memory prov.alloc.0 (λ (tree : TreeRows). after (event tree) tree.rows)) asked ≡ knows memory asked
known_event memory prov event sound h asked =
    let found : (a : Allocation) × (live_at memory.table prov.alloc.0 ≡ Some a) = found_live memory prov h in
    let tree : TreeRows = tree_at memory.trees prov.alloc.0 in
    same_knows memory prov.alloc.0 found.0 (λ (t : TreeRows). after (event t) t.rows) sound found.1 (after-keeps (event tree) (rows_at memory prov.alloc.0)) asked

pub reached_event : (memory : RunMemory) (prov : Prov) (event : TreeRows → Event) → IsSound memory → reaches memory prov ≡ true → reaches (with_rows memory prov.alloc.0 (λ (tree : TreeRows). after (event tree) tree.rows)) prov ≡ true
reached_event memory prov event sound h =
    let found : (a : Allocation) × (live_at memory.table prov.alloc.0 ≡ Some a) = found_live memory prov h in
    let tree : TreeRows = tree_at memory.trees prov.alloc.0 in
    ap (λ has. is_some (live_at memory.table prov.alloc.0) && has)
    (same_tags memory prov.alloc.0 found.0 (λ (t : TreeRows). after (event t) t.rows) sound found.1 (after-keeps (event tree) (rows_at memory prov.alloc.0)) prov.alloc.0 prov.tag.0) ∙ h

-- a known provenance of a live allocation reaches it
pub reach : (memory : RunMemory) (prov : Prov) (a : Allocation) → live_at memory.table prov.alloc.0 ≡ Some a → knows memory prov ≡ true → reaches memory prov ≡ true
reach memory prov a live known =
    both (is_some (live_at memory.table prov.alloc.0)) (has_tag (rows_at memory prov.alloc.0) prov.tag.0) (ap is_some live) (by_found (allocation_at memory.table prov.alloc.0) live known)
  where
    by_live : (b : Allocation) (now : Bool) → cond now (Some b) None ≡ Some a → (not now || has_tag (rows_at memory prov.alloc.0) prov.tag.0) ≡ true → has_tag (rows_at memory prov.alloc.0) prov.tag.0 ≡ true
    by_live b true e k = k
    by_live b false e k = absurd cc

    by_found : (found : Option Allocation) → if_live found ≡ Some a → knows_in found (rows_at memory prov.alloc.0) prov.tag.0 ≡ true → has_tag (rows_at memory prov.alloc.0) prov.tag.0 ≡ true
    by_found None e k = absurd cc
    by_found (Some b) e k = by_live b b.live e k

-- bytes that are read: there are as many as were asked for, and their provenances are known
pub read_size : (memory : RunMemory) (prov : Prov) (lo hi : ℕ) → IsSound memory → reaches memory prov ≡ true → hi ≤ size_at memory prov.alloc.0 → length (slice_range (bytes_at memory.contents prov.alloc.0) lo hi) ≡ hi - lo
read_size memory prov lo hi sound h within =
    let found : (a : Allocation) × (live_at memory.table prov.alloc.0 ≡ Some a) = found_live memory prov h in
    let long : length (bytes_at memory.contents prov.alloc.0) ≡ size_at memory prov.alloc.0 = sound.blocks.sizes prov.alloc.0 found.0 found.1 ∙ sym (ap size_in (live_made (allocation_at memory.table prov.alloc.0) found.0 found.1)) in
    length_part (bytes_at memory.contents prov.alloc.0) lo hi (omega arith)

pub read_known : (memory : RunMemory) (prov : Prov) (lo hi : ℕ) → IsSound memory → all_pass (knows memory) (slice_range (bytes_at memory.contents prov.alloc.0) lo hi) ≡ true
read_known memory prov lo hi sound =
    pass_take (knows memory) (hi - lo) (drop lo (bytes_at memory.contents prov.alloc.0)) (pass_drop (knows memory) lo (bytes_at memory.contents prov.alloc.0) (sound.known prov.alloc.0))

pub if_ok : {T E : Type 0} {P Q : T → Type 0} (result : Result T E) → ((x : T) → P x → Q x) → IfOk result P → IfOk result Q
if_ok (Ok x) f p = f x p
if_ok (Err e) f p = tt

-- what was known is known after one is dead, where its parts are told one by one
pub gone_keeps : (memory : RunMemory) (number : ℕ) (table : List Allocation) (contents : List (List ByteVal)) (trees : List TreeRows) → IsSound memory → table ≡ killed memory.table number → trees ≡ felled memory.trees number
    → (asked : Prov) → knows memory asked ≡ true → knows (record memory { table = table; contents = contents; trees = trees }) asked ≡ true
gone_keeps memory number table contents trees sound e g asked h =
    subst (λ (t : List Allocation). knows (record memory { table = t; contents = contents; trees = trees }) asked ≡ true) (sym e)
    (subst (λ (t : List TreeRows). knows (record memory { table = killed memory.table number; contents = contents; trees = t }) asked ≡ true) (sym g) (still_knows memory number sound asked h))
