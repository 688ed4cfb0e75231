-- Events keep a memory sound, and every pointer that it knows.
use Rattle.std.proofs.Common.{◌≡◌, ◌+◌, ◌≤◌, zero, suc, ℕ, Bool, true, false, cond, List, [], ◌∷◌, ◌++◌, length, Option, Some, None, refl, sym, ap, ◌∙◌, subst, arith, slice_get, slice_set}
use Rattle.std.specs.List.{AllByRecursion}
use Rattle.std.specs.Option.{option_map}
use Rattle.tb_perm.specs.declared.span.Span.{Span}
use Rattle.tb_perm.specs.declared.tag.Prov.{Prov}
use Rattle.tb_perm.specs.declared.perm.Kind.{Kind}
use Rattle.tb_perm.specs.declared.perm.Kind.TheVariants.{Read, Write}
use Rattle.tb_perm.specs.declared.report.Report.{Report}
use Rattle.std.proofs.lemmas.Bool.{eq-eqb}
use Rattle.tb_perm.specs.Rows.{Row, HasTag, root_row}
use Rattle.tb_perm.specs.Event.{after}
use Rattle.tb_perm.specs.Access.{access_event, accessed}
use Rattle.tb_perm.specs.Reborrow.{reborrow_report, reborrow_event, new_row}
use Rattle.tb_perm.specs.Deallocation.{dealloc_report}
use Rattle.tb_perm.specs.declared.new_tag.NewTag.{NewTag}
use Rattle.tb_perm.proofs.Kept.{HasTag-after, HasTag-reborrowed, HasTag-made, All_tags-kept, after-keeps}
use Rattle.tb_heap.specs.Memory.{RunMemory, Allocation, numbered, renumbered, if_live, pointee, changed, tagged, born, birth}
use Rattle.tb_heap.specs.Access.{Change, Leaves, Stops, Done, unless_refused, after_access, report_of_access, content_of, load, store, new_tag, after_retag, retag, after_free, free, placed, at_pointee, through, loaded, stored, freed, retagged}
use Rattle.tb_heap.specs.Sound.{HasProv, KnowsPointer, Knows, KnowsContent, IsSound, Keeps}
use Rattle.tb_heap.specs.declared.value.Value.{Value}
use Rattle.tb_heap.specs.declared.value.Value.TheVariants.{Unit as TheUnit, Int, Pointer}

-- Lists.

all_set : {A : Type 0} (P : A → Type 0) (xs : List A) (place : ℕ) (x : A) → AllByRecursion P xs → P x → AllByRecursion P (slice_set xs place x)
all_set P [] place x all is = all
all_set P (y ∷ xs) zero x all is = (is, all.1)
all_set P (y ∷ xs) (suc place) x all is = (all.0, all_set P xs place x all.1 is)

all_map : {A : Type 0} (P Q : A → Type 0) → ((x : A) → P x → Q x) → (xs : List A) → AllByRecursion P xs → AllByRecursion Q xs
all_map P Q step [] all = all
all_map P Q step (x ∷ xs) all = (step x all.0, all_map P Q step xs all.1)

all_at : {A : Type 0} (P : A → Type 0) (xs : List A) (place : ℕ) (x : A) → AllByRecursion P xs → slice_get xs place ≡ Some x → P x
all_at P [] place x all is = absurd cc
all_at P (y ∷ xs) zero x all is = let same : y ≡ x = cc in subst P same all.0
all_at P (y ∷ xs) (suc place) x all is = all_at P xs place x all.1 is

all_append : {A : Type 0} (P : A → Type 0) (xs ys : List A) → AllByRecursion P xs → AllByRecursion P ys → AllByRecursion P (xs ++ ys)
all_append P [] ys all more = more
all_append P (x ∷ xs) ys all more = (all.0, all_append P xs ys all.1 more)

get_append : {A : Type 0} (xs ys : List A) (place : ℕ) (x : A) → slice_get xs place ≡ Some x → slice_get (xs ++ ys) place ≡ Some x
get_append [] ys place x is = absurd cc
get_append (y ∷ xs) ys zero x is = is
get_append (y ∷ xs) ys (suc place) x is = get_append xs ys place x is

get_last : {A : Type 0} (xs : List A) (x : A) → slice_get (xs ++ x ∷ []) (length xs) ≡ Some x
get_last [] x = refl
get_last (y ∷ xs) x = get_last xs x

-- Tags that stay.

-- the second allocation has all tags of the first
abbrev HasTagsOf : Allocation → Allocation → Type 0
HasTagsOf old new = (t : ℕ) → HasTag old.rows t → HasTag new.rows t

set_get : (xs : List Allocation) (p q : ℕ) (old new b : Allocation) (t : ℕ) → slice_get xs p ≡ Some old → slice_get xs q ≡ Some b → HasTagsOf old new → HasTag b.rows t
    → (c : Allocation) × (slice_get (slice_set xs p new) q ≡ Some c) × HasTag c.rows t
set_get [] p q old new b t is there keeps has = absurd cc
set_get (x ∷ xs) zero zero old new b t is there keeps has = let same : b ≡ old = cc in (new, refl, keeps t (subst (λ a. HasTag a.rows t) same has))
set_get (x ∷ xs) zero (suc q) old new b t is there keeps has = (b, there, has)
set_get (x ∷ xs) (suc p) zero old new b t is there keeps has = (b, there, has)
set_get (x ∷ xs) (suc p) (suc q) old new b t is there keeps has = set_get xs p q old new b t is there keeps has

renumbered_get : (xs : List Allocation) (p q : ℕ) (old new b : Allocation) (t : ℕ) → numbered xs p ≡ Some old → numbered xs q ≡ Some b → HasTagsOf old new → HasTag b.rows t
    → (c : Allocation) × (numbered (renumbered xs p new) q ≡ Some c) × HasTag c.rows t
renumbered_get xs zero q old new b t is there keeps has = absurd cc
renumbered_get xs (suc p) zero old new b t is there keeps has = absurd cc
renumbered_get xs (suc p) (suc q) old new b t is there keeps has = set_get xs p q old new b t is there keeps has

all_renumbered : (P : Allocation → Type 0) (xs : List Allocation) (number : ℕ) (x : Allocation) → AllByRecursion P xs → P x → AllByRecursion P (renumbered xs number x)
all_renumbered P xs zero x all is = all
all_renumbered P xs (suc place) x all is = all_set P xs place x all is

all_numbered : (P : Allocation → Type 0) (xs : List Allocation) (number : ℕ) (x : Allocation) → AllByRecursion P xs → numbered xs number ≡ Some x → P x
all_numbered P xs zero x all is = absurd cc
all_numbered P xs (suc place) x all is = all_at P xs place x all is

-- What is known.

pub Knows-kept : (old new : RunMemory) (value : Value) → Keeps old new → Knows old value → Knows new value
Knows-kept old new TheUnit keeps knows = knows
Knows-kept old new (Int int) keeps knows = knows
Knows-kept old new (Pointer None) keeps knows = knows
Knows-kept old new (Pointer (Some prov)) keeps knows = keeps prov knows

KnowsContent-kept : (old new : RunMemory) (content : Option Value) → Keeps old new → KnowsContent old content → KnowsContent new content
KnowsContent-kept old new None keeps knows = knows
KnowsContent-kept old new (Some value) keeps knows = Knows-kept old new value keeps knows

-- a memory that has come from another one
pub record Follows (old new : RunMemory) : Type 0 where
  pub sound : IsSound new
  pub keeps : Keeps old new

-- the allocation may take the place of the old one
record MayFollow (memory : RunMemory) (old new : Allocation) : Type 0 where
  tags : HasTagsOf old new
  below : AllByRecursion (λ (row : Row). row.tag ≤ memory.tags) new.rows
  content : KnowsContent memory new.content

changed_follows : (memory : RunMemory) (prov : Prov) (old new : Allocation) → numbered memory.allocations prov.alloc.0 ≡ Some old → IsSound memory → MayFollow memory old new → Follows memory (changed memory prov new)
changed_follows memory prov old new is sound may =
    let keeps : Keeps memory (changed memory prov new) = λ p h. renumbered_get memory.allocations prov.alloc.0 p.alloc.0 old new h.0 p.tag.0 is h.1 may.tags h.2 in
    let known : (a : Allocation) → KnowsContent memory a.content → KnowsContent (changed memory prov new) a.content = λ a h. KnowsContent-kept memory (changed memory prov new) a.content keeps h in
    record {
      sound = record {
        contents = all_renumbered (λ a. KnowsContent (changed memory prov new) a.content) memory.allocations prov.alloc.0 new
            (all_map (λ a. KnowsContent memory a.content) (λ a. KnowsContent (changed memory prov new) a.content) known memory.allocations sound.contents) (known new may.content);
        below = all_renumbered (λ a. AllByRecursion (λ (row : Row). row.tag ≤ memory.tags) a.rows) memory.allocations prov.alloc.0 new sound.below may.below;
      };
      keeps = keeps;
    }

-- what a pointer points to stands under its number
pointee_stands : (allocations : List Allocation) (pointer : Option Prov) (found : Prov × Allocation) → pointee allocations pointer ≡ Some found → (pointer ≡ Some found.0) × (numbered allocations found.0.alloc.0 ≡ Some found.1)
pointee_stands allocations None found is = absurd cc
pointee_stands allocations (Some prov) found is = at (numbered allocations prov.alloc.0) refl is
  where
    live : (a : Allocation) (b : Bool) → numbered allocations prov.alloc.0 ≡ Some a → option_map (λ allocation. (prov, allocation)) (cond b (Some a) None) ≡ Some found → (Some prov ≡ Some found.0) × (numbered allocations found.0.alloc.0 ≡ Some found.1)
    live a false stands e = absurd cc
    live a true stands e =
        let same : (prov, a) ≡ found = cc in
        subst (λ (f : Prov × Allocation). (Some prov ≡ Some f.0) × (numbered allocations f.0.alloc.0 ≡ Some f.1)) same (refl, stands)

    at : (o : Option Allocation) → numbered allocations prov.alloc.0 ≡ o → option_map (λ allocation. (prov, allocation)) (if_live o) ≡ Some found → (Some prov ≡ Some found.0) × (numbered allocations found.0.alloc.0 ≡ Some found.1)
    at None stands e = absurd cc
    at (Some a) stands e = live a a.live stands e

-- what an event leaves of an allocation may follow it
abbrev LeavesWell : {A : Type 0} → RunMemory → (Prov → Allocation → Change A) → Type 0
LeavesWell memory event = (prov : Prov) (old new : Allocation) (answer : _) → HasTag old.rows prov.tag.0 → AllByRecursion (λ (row : Row). row.tag ≤ memory.tags) old.rows → KnowsContent memory old.content → event prov old ≡ Leaves new answer → MayFollow memory old new

-- what came of an event that happened
record Happened {A : Type 0} (memory new : RunMemory) (pointer : Option Prov) (event : Prov → Allocation → Change A) (answer : A) : Type 0 where
  prov : Prov
  old : Allocation
  left : Allocation
  pointed : pointer ≡ Some prov
  stands : numbered memory.allocations prov.alloc.0 ≡ Some old
  did : event prov old ≡ Leaves left answer
  is : new ≡ changed memory prov left

happened : {A : Type 0} (memory new : RunMemory) (pointer : Option Prov) (event : Prov → Allocation → Change A) (answer : A) → through memory pointer event ≡ Done new answer → Happened memory new pointer event answer
happened {A} memory new pointer event answer e = at (pointee memory.allocations pointer) refl e
  where
    done : (found : Prov × Allocation) (change : Change A) → pointee memory.allocations pointer ≡ Some found → event found.0 found.1 ≡ change → placed memory found.0 change ≡ Done new answer → Happened memory new pointer event answer
    done found (Stops stop) is did e = absurd cc
    done found (Leaves left said) is did e =
        let where_ = pointee_stands memory.allocations pointer found is in
        let same : said ≡ answer = cc in
        let to : changed memory found.0 left ≡ new = cc in
        record {
          prov = found.0;
          old = found.1;
          left = left;
          pointed = where_.0;
          stands = where_.1;
          did = did ∙ ap (Leaves left) same;
          is = sym to;
        }

    at : (o : Option (Prov × Allocation)) → pointee memory.allocations pointer ≡ o → at_pointee memory o event ≡ Done new answer → Happened memory new pointer event answer
    at None is e = absurd cc
    at (Some found) is e = done found (event found.0 found.1) is refl e

-- the tag of a known pointer is one of its allocation's
known_tag : (memory : RunMemory) (pointer : Option Prov) (prov : Prov) (old : Allocation) → KnowsPointer memory pointer → pointer ≡ Some prov → numbered memory.allocations prov.alloc.0 ≡ Some old → HasTag old.rows prov.tag.0
known_tag memory None prov old knows is stands = absurd cc
known_tag memory (Some p) prov old knows is stands =
    let same : p ≡ prov = cc in
    let there : HasProv memory prov = subst (HasProv memory) same knows in
    let one : there.0 ≡ old = let e = sym there.1 ∙ stands in cc in
    subst (λ a. HasTag a.rows prov.tag.0) one there.2

happened_follows : {A : Type 0} (memory new : RunMemory) (pointer : Option Prov) (event : Prov → Allocation → Change A) (answer : A) → IsSound memory → KnowsPointer memory pointer → LeavesWell memory event → Happened memory new pointer event answer → Follows memory new
happened_follows memory new pointer event answer sound knows well h =
    let tag = known_tag memory pointer h.prov h.old knows h.pointed h.stands in
    let below = all_numbered (λ a. AllByRecursion (λ (row : Row). row.tag ≤ memory.tags) a.rows) memory.allocations h.prov.alloc.0 h.old sound.below h.stands in
    let content = all_numbered (λ a. KnowsContent memory a.content) memory.allocations h.prov.alloc.0 h.old sound.contents h.stands in
    subst (Follows memory) (sym h.is)
    (changed_follows memory h.prov h.old h.left h.stands sound (well h.prov h.old h.left answer tag below content h.did))

-- The events.

below_after : (tags : ℕ) (prov : Prov) (size : ℕ) (kind : Kind) (rows : List Row) → AllByRecursion (λ (row : Row). row.tag ≤ tags) rows → AllByRecursion (λ (row : Row). row.tag ≤ tags) (accessed rows prov.tag.0 0 size kind)
below_after tags prov size kind rows all = All_tags-kept (λ t. t ≤ tags) rows (accessed rows prov.tag.0 0 size kind) (after-keeps (access_event prov.tag.0 0 size kind) rows) all

access_may : (memory : RunMemory) (prov : Prov) (old : Allocation) (kind : Kind) (live : Bool) (content : Option Value) → AllByRecursion (λ (row : Row). row.tag ≤ memory.tags) old.rows → KnowsContent memory content
    → MayFollow memory old (record (after_access old prov kind) { live = live; content = content })
access_may memory prov old kind live content below knows =
    record {
      tags = λ t h. HasTag-after (access_event prov.tag.0 0 old.size kind) old.rows t h;
      below = below_after memory.tags prov old.size kind old.rows below;
      content = knows;
    }

load_well : (memory : RunMemory) → LeavesWell memory load
load_well memory prov old new answer tag below knows e = at (report_of_access old prov Read) e
  where
    left : (content : Option Value) → content_of (after_access old prov Read) content ≡ Leaves new answer → after_access old prov Read ≡ new
    left None e = absurd cc
    left (Some value) e = cc

    at : (report : Option Report) → unless_refused prov report (content_of (after_access old prov Read) old.content) ≡ Leaves new answer → MayFollow memory old new
    at (Some report) e = absurd cc
    at None e = subst (MayFollow memory old) (left old.content e) (access_may memory prov old Read old.live old.content below knows)

store_well : (memory : RunMemory) (value : Value) → Knows memory value → LeavesWell memory (store value)
store_well memory value known prov old new answer tag below knows e = at (report_of_access old prov Write) e
  where
    at : (report : Option Report) → unless_refused prov report (Leaves (record (after_access old prov Write) { content = Some value }) answer) ≡ Leaves new answer → MayFollow memory old new
    at (Some report) e = absurd cc
    at None e =
        let same : record (after_access old prov Write) { content = Some value } ≡ new = cc in
        subst (MayFollow memory old) same (access_may memory prov old Write old.live (Some value) below known)

free_well : (memory : RunMemory) → LeavesWell memory free
free_well memory prov old new answer tag below knows e = at (dealloc_report old.rows old.size prov.tag.0) e
  where
    at : (report : Option Report) → unless_refused prov report (Leaves (after_free old prov) answer) ≡ Leaves new answer → MayFollow memory old new
    at (Some report) e = absurd cc
    at None e =
        let same : after_free old prov ≡ new = cc in
        subst (MayFollow memory old) same (access_may memory prov old Write false old.content below knows)

-- the memory in which the next tag is drawn
tagged_follows : (memory : RunMemory) → IsSound memory → Follows memory (tagged memory)
tagged_follows memory sound =
    let keeps : Keeps memory (tagged memory) = λ p h. h in
    record {
      sound = record {
        contents = all_map (λ a. KnowsContent memory a.content) (λ a. KnowsContent (tagged memory) a.content) (λ a h. KnowsContent-kept memory (tagged memory) a.content keeps h) memory.allocations sound.contents;
        below = all_map (λ a. AllByRecursion (λ (row : Row). row.tag ≤ memory.tags) a.rows) (λ a. AllByRecursion (λ (row : Row). row.tag ≤ memory.tags + 1) a.rows)
            (λ a h. all_map (λ (row : Row). row.tag ≤ memory.tags) (λ (row : Row). row.tag ≤ memory.tags + 1) (λ row h. omega arith) a.rows h) memory.allocations sound.below;
      };
      keeps = keeps;
    }

-- what is left is the allocation with the new tag
retag_left : (tag : ℕ) (unique : Bool) (made : Span) (prov answer : Prov) (old new : Allocation) → retag tag unique made prov old ≡ Leaves new answer → (after_retag old (new_tag tag prov old.size unique made) ≡ new) × (record { alloc = prov.alloc; tag = record { 0 = tag } } ≡ answer)
retag_left tag unique made prov answer old new e = at (reborrow_report old.rows old.size (new_tag tag prov old.size unique made)) e
  where
    at : (report : Option Report) → unless_refused prov report (Leaves (after_retag old (new_tag tag prov old.size unique made)) (record { alloc = prov.alloc; tag = record { 0 = tag } })) ≡ Leaves new answer
        → (after_retag old (new_tag tag prov old.size unique made) ≡ new) × (record { alloc = prov.alloc; tag = record { 0 = tag } } ≡ answer)
    at (Some report) e = absurd cc
    at None e = (cc, cc)

retag_well : (memory : RunMemory) (unique : Bool) (made : Span) → LeavesWell (tagged memory) (retag (memory.tags + 1) unique made)
retag_well memory unique made prov old new answer tag below knows e =
    let left = retag_left (memory.tags + 1) unique made prov answer old new e in
    let tag_row : NewTag = new_tag (memory.tags + 1) prov old.size unique made in
    let earlier = All_tags-kept (λ t. t ≤ memory.tags + 1) old.rows (after (reborrow_event tag_row) old.rows) (after-keeps (reborrow_event tag_row) old.rows) below in
    let may : MayFollow (tagged memory) old (after_retag old tag_row) = record {
      tags = λ t h. HasTag-reborrowed old.size old.rows tag_row t h;
      below = all_append (λ (row : Row). row.tag ≤ memory.tags + 1) (after (reborrow_event tag_row) old.rows) (new_row old.size tag_row ∷ []) earlier (omega arith, tt);
      content = knows;
    } in
    subst (MayFollow (tagged memory) old) left.0 may

-- Whole events: what follows is sound, and so is the answer.

pub loaded_follows : (memory new : RunMemory) (pointer : Option Prov) (value : Value) → IsSound memory → KnowsPointer memory pointer → loaded memory pointer ≡ Done new value → Follows memory new × Knows new value
loaded_follows memory new pointer value sound knows e =
    let h = happened memory new pointer load value e in
    let follows = happened_follows memory new pointer load value sound knows (load_well memory) h in
    let content = all_numbered (λ a. KnowsContent memory a.content) memory.allocations h.prov.alloc.0 h.old sound.contents h.stands in
    let was : h.old.content ≡ Some value = said h.prov h.old h.left h.did in
    let known : Knows memory value = subst (KnowsContent memory) was content in
    (follows, Knows-kept memory new value follows.keeps known)
  where
    from : (a left : Allocation) (content : Option Value) → content_of a content ≡ Leaves left value → content ≡ Some value
    from a left None e = absurd cc
    from a left (Some v) e = let same : v ≡ value = cc in ap Some same

    at : (prov : Prov) (old left : Allocation) (report : Option Report) → unless_refused prov report (content_of (after_access old prov Read) old.content) ≡ Leaves left value → old.content ≡ Some value
    at prov old left (Some report) e = absurd cc
    at prov old left None e = from (after_access old prov Read) left old.content e

    said : (prov : Prov) (old left : Allocation) → load prov old ≡ Leaves left value → old.content ≡ Some value
    said prov old left e = at prov old left (report_of_access old prov Read) e

pub stored_follows : (memory new : RunMemory) (pointer : Option Prov) (value : Value) (answer : Unit {0}) → IsSound memory → KnowsPointer memory pointer → Knows memory value → stored memory pointer value ≡ Done new answer → Follows memory new
stored_follows memory new pointer value answer sound knows known e =
    happened_follows memory new pointer (store value) answer sound knows (store_well memory value known) (happened memory new pointer (store value) answer e)

pub freed_follows : (memory new : RunMemory) (pointer : Option Prov) (answer : Unit {0}) → IsSound memory → KnowsPointer memory pointer → freed memory pointer ≡ Done new answer → Follows memory new
freed_follows memory new pointer answer sound knows e = happened_follows memory new pointer free answer sound knows (free_well memory) (happened memory new pointer free answer e)

KnowsPointer-kept : (old new : RunMemory) (pointer : Option Prov) → Keeps old new → KnowsPointer old pointer → KnowsPointer new pointer
KnowsPointer-kept old new None keeps knows = knows
KnowsPointer-kept old new (Some prov) keeps knows = keeps prov knows

renumbered_there : (allocations : List Allocation) (number : ℕ) (old new : Allocation) → numbered allocations number ≡ Some old → numbered (renumbered allocations number new) number ≡ Some new
renumbered_there allocations zero old new is = absurd cc
renumbered_there allocations (suc place) old new is = set_there allocations place is
  where
    set_there : (xs : List Allocation) (place : ℕ) → slice_get xs place ≡ Some old → slice_get (slice_set xs place new) place ≡ Some new
    set_there [] place is = absurd cc
    set_there (x ∷ xs) zero is = refl
    set_there (x ∷ xs) (suc place) is = set_there xs place is

pub retagged_follows : (memory new : RunMemory) (pointer : Option Prov) (unique : Bool) (made : Span) (answer : Prov) → IsSound memory → KnowsPointer memory pointer → retagged memory pointer unique made ≡ Done new answer → Follows memory new × HasProv new answer
retagged_follows memory new pointer unique made answer sound knows e =
    let drawn = tagged_follows memory sound in
    let event = retag (memory.tags + 1) unique made in
    let h = happened (tagged memory) new pointer event answer e in
    let follows = happened_follows (tagged memory) new pointer event answer drawn.sound (KnowsPointer-kept memory (tagged memory) pointer drawn.keeps knows) (retag_well memory unique made) h in
    let left = retag_left (memory.tags + 1) unique made h.prov answer h.old h.left h.did in
    let tag_row : NewTag = new_tag (memory.tags + 1) h.prov h.old.size unique made in
    let has : HasTag h.left.rows (memory.tags + 1) = subst (λ a. HasTag a.rows (memory.tags + 1)) left.0 (HasTag-made h.old.size h.old.rows tag_row) in
    let there : HasProv (changed (tagged memory) h.prov h.left) (record { alloc = h.prov.alloc; tag = record { 0 = memory.tags + 1 } }) = (h.left, renumbered_there memory.allocations h.prov.alloc.0 h.old h.left h.stands, has) in (
      record { sound = follows.sound; keeps = λ p known. follows.keeps p (drawn.keeps p known) },
      subst (λ m. HasProv m answer) (sym h.is) (subst (HasProv (changed (tagged memory) h.prov h.left)) left.1 there),
    )

numbered_append : (allocations : List Allocation) (new : Allocation) (number : ℕ) (a : Allocation) → numbered allocations number ≡ Some a → numbered (allocations ++ new ∷ []) number ≡ Some a
numbered_append allocations new zero a is = absurd cc
numbered_append allocations new (suc place) a is = get_append allocations (new ∷ []) place a is

root_has : (t size : ℕ) (made : Span) → HasTag (root_row t size made ∷ []) t
root_has t size made = rw (eq-eqb t t refl) refl

-- a birth
pub born_follows : (memory : RunMemory) (size : ℕ) (made : Span) → IsSound memory → Follows memory (born memory size made) × HasProv (born memory size made) (birth memory)
born_follows memory size made sound =
    let new = born memory size made in
    let keeps : Keeps memory new = λ p h. (h.0, numbered_append memory.allocations _ p.alloc.0 h.0 h.1, h.2) in
    let drawn = tagged_follows memory sound in
    let one : Allocation = record { size = size; live = true; content = None; rows = root_row (memory.tags + 1) size made ∷ [] } in
    let last : length memory.allocations + 1 ≡ suc (length memory.allocations) = omega arith in
    let there : numbered (memory.allocations ++ one ∷ []) (length memory.allocations + 1) ≡ Some one = ap (numbered (memory.allocations ++ one ∷ [])) last ∙ get_last memory.allocations one in (
      record {
        sound = record {
          contents = all_append (λ (a : Allocation). KnowsContent new a.content) memory.allocations _ (all_map (λ a. KnowsContent memory a.content) (λ a. KnowsContent new a.content) (λ a h. KnowsContent-kept memory new a.content keeps h) memory.allocations sound.contents) (tt, tt);
          below = all_append (λ (a : Allocation). AllByRecursion (λ (row : Row). row.tag ≤ memory.tags + 1) a.rows) memory.allocations _ drawn.sound.below ((omega arith, tt), tt);
        };
        keeps = keeps;
      },
      (one, there, root_has (memory.tags + 1) size made),
    )
