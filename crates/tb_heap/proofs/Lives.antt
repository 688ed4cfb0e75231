-- Where a live allocation stands among the entries, and what an event on its entry does to the memory.
use Rattle.std.proofs.Common.{◌≡◌, suc, ℕ, true, false, cond, List, map, Option, Some, None, Result, Ok, Err, sym, ap, ◌∙◌, subst, slice_get, slice_set, get_or, length, ◌<◌, ◌≤◌}
use Rattle.std.specs.Option.{option_map}
use Rattle.std.proofs.lemmas.Option.{slice_get-map, slice_get-get_or, slice_get_past, slice_get_within}
use Rattle.tb_perm.specs.Rows.{Row}
use Rattle.tb_perm.specs.declared.tag.Prov.{Prov}
use Rattle.std.proofs.lemmas.List.{map-set}
use Rattle.tb_heap.specs.Access.{Change, Leaves, Stops, placed, at_pointee, through, Answers}
use Rattle.tb_heap.specs.Memory.{Allocation, RunMemory, if_live, numbered, renumbered, pointee}
use Rattle.tb_heap.specs.declared.stop.Stop.{Stop}
use Rattle.tb_heap.specs.declared.stop.Stop.TheVariants.{Dangling, Borrow, Uninit, Memory}
use Rattle.tb_heap.specs.Entries.{seen, Turns, PointsTo}
use Rattle.tb_heap.specs.declared.entry.Entry.{Entry}

some_is : {A : Type 0} (x y : A) → Some x ≡ Some y → x ≡ y
some_is x y e = cc

module _ {T : Type 0} (rows : T → List Row) where
  -- the entry at a place, as contracts see it
  pub seen_at : (entries : List (Entry T)) (place : ℕ) (entry : Entry T) → slice_get entries place ≡ Some entry → numbered (map (seen rows) entries) (suc place) ≡ Some (seen rows entry)
  seen_at entries place entry is = slice_get-map (seen rows) entries place ∙ ap (option_map (seen rows)) is

  pub pointee_at : (entries : List (Entry T)) (prov : Prov) (place : ℕ) (entry : Entry T) → prov.alloc.0 ≡ suc place → slice_get entries place ≡ Some entry
      → pointee (map (seen rows) entries) (Some prov) ≡ option_map (λ allocation. (prov, allocation)) (cond entry.live (Some (seen rows entry)) None)
  pointee_at entries prov place entry number is =
      ap (λ n. option_map (λ allocation. (prov, allocation)) (if_live (numbered (map (seen rows) entries) n))) number
      ∙ ap (λ o. option_map (λ allocation. (prov, allocation)) (if_live o)) (seen_at entries place entry is)

  pub there : (entries : List (Entry T)) (place : ℕ) (entry : Entry T) → place < length entries → entry ≡ get_or entries place entry → slice_get entries place ≡ Some entry
  there entries place entry less is = slice_get-get_or entries place entry less ∙ ap Some (sym is)

  -- no entry stands there
  pub pointee_past : (entries : List (Entry T)) (prov : Prov) (place : ℕ) → prov.alloc.0 ≡ suc place → length entries ≤ place → pointee (map (seen rows) entries) (Some prov) ≡ None
  pointee_past entries prov place number past =
      ap (λ n. option_map (λ allocation. (prov, allocation)) (if_live (numbered (map (seen rows) entries) n))) number
      ∙ ap (λ o. option_map (λ allocation. (prov, allocation)) (if_live o)) (slice_get-map (seen rows) entries place ∙ ap (option_map (seen rows)) (slice_get_past entries place past))

  pub pointee_live : (entries : List (Entry T)) (prov : Prov) (place : ℕ) (entry : Entry T) → prov.alloc.0 ≡ suc place → slice_get entries place ≡ Some entry → entry.live ≡ true → pointee (map (seen rows) entries) (Some prov) ≡ Some (prov, seen rows entry)
  pointee_live entries prov place entry number is live = pointee_at entries prov place entry number is ∙ ap (λ b. option_map (λ allocation. (prov, allocation)) (cond b (Some (seen rows entry)) None)) live

  pub pointee_dead : (entries : List (Entry T)) (prov : Prov) (place : ℕ) (entry : Entry T) → prov.alloc.0 ≡ suc place → slice_get entries place ≡ Some entry → entry.live ≡ false → pointee (map (seen rows) entries) (Some prov) ≡ None
  pointee_dead entries prov place entry number is live = pointee_at entries prov place entry number is ∙ ap (λ b. option_map (λ allocation. (prov, allocation)) (cond b (Some (seen rows entry)) None)) live

  -- an event on an allocation, as one on the memory
  pub placed_answers : {A : Type 0} (entries : List (Entry T)) (tags : ℕ) (prov : Prov) (place : ℕ) (new : Entry T) (change : Change A) (result : Result A Stop) → prov.alloc.0 ≡ suc place → Turns change result (seen rows new)
      → Answers (placed (record { allocations = map (seen rows) entries; tags = tags }) prov change) result (record { allocations = map (seen rows) (slice_set entries place new); tags = tags })
  placed_answers entries tags prov place new (Leaves allocation value) (Ok answer) number turns =
      let moved : map (seen rows) (slice_set entries place new) ≡ renumbered (map (seen rows) entries) prov.alloc.0 allocation =
      map-set (seen rows) entries place new ∙ ap (λ a. slice_set (map (seen rows) entries) place a) turns.1 ∙ ap (λ n. renumbered (map (seen rows) entries) n allocation) (sym number) in
      let with : List Allocation → RunMemory = λ list. record { allocations = list; tags = tags } in
      (turns.0, ap with moved)
  placed_answers entries tags prov place new (Leaves allocation value) (Err Memory) number turns = tt
  placed_answers entries tags prov place new (Leaves allocation value) (Err Dangling) number turns = absurd turns
  placed_answers entries tags prov place new (Leaves allocation value) (Err Uninit) number turns = absurd turns
  placed_answers entries tags prov place new (Leaves allocation value) (Err (Borrow alloc report)) number turns = absurd turns
  placed_answers entries tags prov place new (Stops stop) (Ok answer) number turns = absurd turns
  placed_answers entries tags prov place new (Stops stop) (Err Memory) number turns = tt
  placed_answers entries tags prov place new (Stops stop) (Err Dangling) number turns = turns
  placed_answers entries tags prov place new (Stops stop) (Err Uninit) number turns = turns
  placed_answers entries tags prov place new (Stops stop) (Err (Borrow alloc report)) number turns = turns

  -- an event through a pointer, by what its entry does
  pub turned_there : {A : Type 0} (event : Prov → Allocation → Change A) (entries : List (Entry T)) (tags : ℕ) (pointer : Option Prov) (prov : Prov) (place : ℕ) (entry new : Entry T) (result : Result A Stop)
      → PointsTo rows entries pointer prov place → entry ≡ get_or entries place entry → Turns (event prov (seen rows entry)) result (seen rows new)
      → Answers (through (record { allocations = map (seen rows) entries; tags = tags }) pointer event) result (record { allocations = map (seen rows) (slice_set entries place new); tags = tags })
  turned_there event entries tags pointer prov place entry new result h is turns =
      let less = slice_get_within entries place h.entry h.is_there in
      let same : h.entry ≡ entry = some_is h.entry entry (sym h.is_there ∙ there entries place entry less is) in
      let memory : RunMemory = record { allocations = map (seen rows) entries; tags = tags } in
      let found : at_pointee memory (Some (prov, seen rows entry)) event ≡ through memory pointer event = ap (λ o. at_pointee memory o event) (ap (λ e. Some (prov, seen rows e)) (sym same) ∙ sym h.is_pointee) in
      subst (λ o. Answers o result (record { allocations = map (seen rows) (slice_set entries place new); tags = tags })) found
      (placed_answers entries tags prov place new (event prov (seen rows entry)) result h.number turns)
