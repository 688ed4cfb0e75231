-- What is true of a memory stays true when an allocation is made.
use Rattle.std.proofs.Common.{◌≡◌, ◌≢◌, refl, sym, ◌∙◌, ap, subst, inl, inr, ◌⊎◌, ℕ, zero, suc, ◌+◌, ◌<◌, ◌≤◌, Bool, true, false, true≢false, cond, List, [], ◌∷◌, ◌++◌, length, Option, Some, None, option_map, unwrap_or, arith}
use Rattle.std.specs.List.{AllByRecursion}
use Rattle.std.proofs.lemmas.List.{length-append}
use Rattle.tb_perm.specs.declared.span.Span.{Span}
use Rattle.tb_perm.specs.declared.tag.AllocId.{AllocId}
use Rattle.tb_perm.specs.declared.tag.Prov.{Prov}
use Rattle.tb_perm.specs.declared.perm.Guard.{Guard}
use Rattle.tb_perm.specs.declared.perm.Guard.TheVariants.{Free, Weak, Strong}
use Rattle.tb_perm.specs.Rows.{Row, is_tag, IsRows, guard_in, root_row}
use Rattle.tb_perm.proofs.Kept.{IsRows-root}
use Rattle.tb_bytes.specs.declared.byte_val.ByteVal.{ByteVal}
use Rattle.tb_alloc.specs.declared.allocation.Allocation.{Allocation}
use Rattle.tb_alloc.specs.declared.allocation.AllocKind.{AllocKind}
use Rattle.tb_alloc.specs.Allocations.{allocation_at, new_allocation}
use Rattle.tb_alloc.specs.Check.{if_live}
use Rattle.tb_protect.specs.Frames.{kind_of}
use Rattle.tb_prune.specs.Guards.{GuardsAre}
use Rattle.tb_value.specs.Provs.{all_pass}
use Rattle.tb_store.specs.Store.{nth, bytes_at, live_at, uninit}
use Rattle.tb_store.proofs.Places.{same_or_not, nth_before, nth_end, nth_past}
use Rattle.tb_store.proofs.Blocks.{made_within, live_made, blocks_made}
use Rattle.tb_forest.specs.Forest.{TreeRows, no_tree, tree_at}
use Rattle.tb_alloc.proofs.Numbers.{allocation_at-push_new, allocation_at-push_other, found_pushed}
use Rattle.tb_events.specs.Memory.{RunMemory, rows_at, with_made, made_pointer, knows_in, knows}
use Rattle.tb_events.specs.Sound.{IsSound}
use Rattle.tb_events.proofs.Keeping.{pass_more}

-- a known provenance names an allocation that was made
pub known_made : (memory : RunMemory) (prov : Prov) → knows memory prov ≡ true → (1 ≤ prov.alloc.0) × (prov.alloc.0 ≤ length memory.table)
known_made memory prov h = by_found (allocation_at memory.table prov.alloc.0) refl h
  where
    by_found : (found : Option Allocation) → allocation_at memory.table prov.alloc.0 ≡ found → knows_in found (rows_at memory prov.alloc.0) prov.tag.0 ≡ true → (1 ≤ prov.alloc.0) × (prov.alloc.0 ≤ length memory.table)
    by_found None e k = absurd (true≢false (sym k))
    by_found (Some a) e k = made_within memory.table prov.alloc.0 a e

pub more_tags : (tags : ℕ) (rows : List Row) → AllByRecursion (λ (row : Row). row.tag ≤ tags) rows → AllByRecursion (λ (row : Row). row.tag ≤ tags + 1) rows
more_tags tags [] h = tt
more_tags tags (row ∷ rows) h = let low : row.tag ≤ tags = h.0 in ((let up : row.tag ≤ tags + 1 = omega arith in up), more_tags tags rows h.1)

pass_uninit : (test : Prov → Bool) (n : ℕ) → all_pass test (uninit n) ≡ true
pass_uninit test zero = refl
pass_uninit test (suc n) = pass_uninit test n

module _ (memory : RunMemory) (size align : ℕ) (kind : AllocKind) (made : Span) (sound : IsSound memory) where
  abbrev made_one : Allocation
  made_one = new_allocation memory.table size align kind made

  abbrev table : List Allocation
  table = memory.table ++ made_one ∷ []

  found : allocation_at table (length memory.table + 1) ≡ Some made_one
  found = allocation_at-push_new memory.table made_one

  others : (k : ℕ) → k ≢ length memory.table + 1 → allocation_at table k ≡ allocation_at memory.table k
  others k apart = allocation_at-push_other memory.table made_one k apart

  abbrev next : ℕ
  next = length memory.table + 1

  abbrev root : Row
  root = root_row (memory.tags + 1) size made

  abbrev tree : TreeRows
  tree = record { size = size; rows = root ∷ [] }

  abbrev bigger : RunMemory
  bigger = with_made memory size align kind made

  last_tree : tree_at (memory.trees ++ tree ∷ []) next ≡ tree
  last_tree = nth_end memory.trees next tree no_tree (let same : length memory.trees ≡ length memory.table = sound.count in omega arith)

  pub still_knows : (prov : Prov) → knows memory prov ≡ true → knows bigger prov ≡ true
  still_knows prov h =
      let within : (1 ≤ prov.alloc.0) × (prov.alloc.0 ≤ length memory.table) = known_made memory prov h in
      let high : prov.alloc.0 ≤ length memory.table = within.1 in
      let apart : prov.alloc.0 ≢ length memory.table + 1 = λ e. omega arith in
      ap (λ a. knows_in a (rows_at bigger prov.alloc.0) prov.tag.0) (others prov.alloc.0 apart)
      ∙ ap (λ (t : TreeRows). knows_in (allocation_at memory.table prov.alloc.0) t.rows prov.tag.0) (nth_before memory.trees prov.alloc.0 tree no_tree (let same : length memory.trees ≡ length memory.table = sound.count in omega arith)) ∙ h

  -- what is live is the new one, or was live
  by_live : (k : ℕ) (b : Allocation) (P : ℕ → Allocation → TreeRows → Type 0) → live_at table k ≡ Some b → P next made_one tree
      → (live_at memory.table k ≡ Some b → P k b (tree_at memory.trees k)) → P k b (tree_at (memory.trees ++ tree ∷ []) k)
  by_live k b P e new old = by_number (same_or_not k next)
    where
      by_number : (k ≡ next) ⊎ (k ≢ next) → P k b (tree_at (memory.trees ++ tree ∷ []) k)
      by_number (inl same) =
          let is_new : Some made_one ≡ Some b = sym found ∙ ap (allocation_at table) (sym same) ∙ live_made (allocation_at table k) b e in
          let is : made_one ≡ b = cc in
          subst (λ n. P n b (tree_at (memory.trees ++ tree ∷ []) n)) (sym same)
          (subst (λ (t : TreeRows). P next b t) (sym last_tree) (subst (λ (c : Allocation). P next c tree) is new))
      by_number (inr apart) =
          let was : live_at memory.table k ≡ Some b = ap if_live (sym (others k apart)) ∙ e in
          let within : (1 ≤ k) × (k ≤ length memory.table) = made_within memory.table k b (live_made (allocation_at memory.table k) b was) in
          subst (λ (t : TreeRows). P k b t) (sym (nth_before memory.trees k tree no_tree (let high : k ≤ length memory.table = within.1 in let same : length memory.trees ≡ length memory.table = sound.count in omega arith))) (old was)

  -- of each number, what it has is new, old, or nothing
  by_place : {A : Type 0} (list : List A) (x : A) (k : ℕ) (d : A) (P : A → Type 0) → P x → P (nth list k d) → P d → P (nth (list ++ x ∷ []) k d)
  by_place list x k d P new old none = by_end (same_or_not k (length list + 1)) (up_to k (length list))
    where
      up_to : (n m : ℕ) → (n ≤ m) ⊎ (m < n)
      up_to zero m = inl (omega arith)
      up_to (suc n) zero = inr (omega arith)
      up_to (suc n) (suc m) = less (up_to n m)
        where
          less : (n ≤ m) ⊎ (m < n) → (suc n ≤ suc m) ⊎ (suc m < suc n)
          less (inl h) = inl (omega arith)
          less (inr h) = inr (omega arith)

      by_end : (k ≡ length list + 1) ⊎ (k ≢ length list + 1) → (k ≤ length list) ⊎ (length list < k) → P (nth (list ++ x ∷ []) k d)
      by_end (inl same) side = subst P (sym (nth_end list k x d same)) new
      by_end (inr apart) (inl before) = subst P (sym (nth_before list k x d before)) old
      by_end (inr apart) (inr past) = subst P (sym (nth_past (list ++ x ∷ []) k d (let e : length (list ++ x ∷ []) ≡ length list + 1 = length-append list (x ∷ []) in omega arith))) none

  -- nothing is guarded in an allocation that is only made
  not_guarded : (t : ℕ) → kind_of memory.frames (record { alloc = record { 0 = next }; tag = record { 0 = t } }) ≡ Free
  not_guarded t = by_kind (kind_of memory.frames (record { alloc = record { 0 = next }; tag = record { 0 = t } })) refl
    where
      clash : kind_of memory.frames (record { alloc = record { 0 = next }; tag = record { 0 = t } }) ≢ Free → ⊥
      clash held = let within : (1 ≤ length memory.table + 1) × (length memory.table + 1 ≤ length memory.table) = known_made memory (record { alloc = record { 0 = next }; tag = record { 0 = t } }) (sound.guards (record { alloc = record { 0 = next }; tag = record { 0 = t } }) held) in let high : length memory.table + 1 ≤ length memory.table = within.1 in omega arith

      by_kind : (g : Guard) → kind_of memory.frames (record { alloc = record { 0 = next }; tag = record { 0 = t } }) ≡ g → kind_of memory.frames (record { alloc = record { 0 = next }; tag = record { 0 = t } }) ≡ Free
      by_kind Free e = e
      by_kind Weak e = absurd (clash (λ f. absurd (let c : Weak ≡ Free = sym e ∙ f in cc)))
      by_kind Strong e = absurd (clash (λ f. absurd (let c : Strong ≡ Free = sym e ∙ f in cc)))

  root_free : (t : ℕ) → guard_in (root ∷ []) t ≡ Free
  root_free t = by_tag (is_tag t root)
    where
      by_tag : (b : Bool) → unwrap_or (option_map (λ (row : Row). row.guard) (cond b (Some root) None)) Free ≡ Free
      by_tag true = refl
      by_tag false = refl

  pub kept_made : IsSound bigger
  kept_made = record {
    blocks = blocks_made memory.table table memory.contents next size made_one sound.blocks (length-append memory.table (made_one ∷ [])) refl refl found others;
    count = (let e : length (memory.trees ++ tree ∷ []) ≡ length memory.trees + 1 = length-append memory.trees (tree ∷ []) in let f : length table ≡ length memory.table + 1 = length-append memory.table (made_one ∷ []) in let same : length memory.trees ≡ length memory.table = sound.count in (let all : length (memory.trees ++ tree ∷ []) ≡ length table = omega arith in all));
    sizes = λ k b e. by_live k b (λ n a (t : TreeRows). t.size ≡ a.size) e refl (sound.sizes k b);
    grown = λ k b e. by_live k b (λ n a (t : TreeRows). IsRows a.size t.rows) e (IsRows-root (memory.tags + 1) size made) (sound.grown k b);
    below = λ k. by_place memory.trees tree k no_tree (λ (t : TreeRows). AllByRecursion (λ (row : Row). row.tag ≤ memory.tags + 1) t.rows) ((let up : memory.tags + 1 ≤ memory.tags + 1 = omega arith in up), tt) (more_tags memory.tags (rows_at memory k) (sound.below k)) tt;
    known = λ k. by_place memory.contents (uninit size) k [] (λ (bytes : List ByteVal). all_pass (knows bigger) bytes ≡ true) (pass_uninit (knows bigger) size) (pass_more (knows memory) (knows bigger) still_knows (bytes_at memory.contents k) (sound.known k)) refl;
    guards = λ prov h. still_knows prov (sound.guards prov h);
    agree = λ k b e. by_live k b (λ n a (t : TreeRows). GuardsAre memory.frames (record { 0 = n }) t.rows) e (λ t has. root_free t ∙ sym (not_guarded t)) (sound.agree k b);
  }

-- the same, where its parts are told one by one
pub made_is : (memory : RunMemory) (size align : ℕ) (kind : AllocKind) (made : Span) (table : List Allocation) (contents : List (List ByteVal)) (trees : List TreeRows) → IsSound memory
    → table ≡ memory.table ++ new_allocation memory.table size align kind made ∷ [] → contents ≡ memory.contents ++ uninit size ∷ [] → trees ≡ memory.trees ++ record { size = size; rows = root_row (memory.tags + 1) size made ∷ [] } ∷ []
    → IsSound (record memory { table = table; contents = contents; trees = trees; tags = memory.tags + 1 })
made_is memory size align kind made table contents trees sound e f g =
    let made_one : Allocation = new_allocation memory.table size align kind made in
    let tree : TreeRows = record { size = size; rows = root_row (memory.tags + 1) size made ∷ [] } in
    subst (λ (t : List Allocation). IsSound (record memory { table = t; contents = contents; trees = trees; tags = memory.tags + 1 })) (sym e)
    (subst (λ (b : List (List ByteVal)). IsSound (record memory { table = memory.table ++ made_one ∷ []; contents = b; trees = trees; tags = memory.tags + 1 })) (sym f)
    (subst (λ (t : List TreeRows). IsSound (record memory { table = memory.table ++ made_one ∷ []; contents = memory.contents ++ uninit size ∷ []; trees = t; tags = memory.tags + 1 })) (sym g) (kept_made memory size align kind made sound)))

-- the pointer to it
pub pointer_is : (memory : RunMemory) (size align : ℕ) (kind : AllocKind) (made : Span) (table now : List Allocation) (alloc : AllocId) (addr : ℕ) → table ≡ memory.table ++ new_allocation memory.table size align kind made ∷ [] → now ≡ table → alloc.0 ≡ length memory.table + 1
    → ((a : Allocation) → allocation_at now alloc.0 ≡ Some a → addr ≡ a.base)
    → made_pointer memory align ≡ record { addr = addr; prov = Some (record { alloc = alloc; tag = record { 0 = memory.tags + 1 } }) }
pointer_is memory size align kind made table now alloc addr e same number base =
    let made_one : Allocation = new_allocation memory.table size align kind made in
    let at : addr ≡ made_one.base = base made_one (ap (λ (t : List Allocation). allocation_at t alloc.0) same ∙ found_pushed memory.table table made_one alloc.0 e number) in
    ap (λ n. record { addr = n; prov = Some (record { alloc = record { 0 = length memory.table + 1 }; tag = record { 0 = memory.tags + 1 } }) }) (sym at)
    ∙ ap (λ n. record { addr = addr; prov = Some (record { alloc = record { 0 = n }; tag = record { 0 = memory.tags + 1 } }) }) (sym number)
