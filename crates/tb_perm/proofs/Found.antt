-- The row of a tag, and what an event makes of it.
use Rattle.std.proofs.Common.{◌≡◌, ◌∙◌, ◌≢◌, ◌||◌, ℕ, zero, suc, ◌+◌, ◌<◌, Bool, true, false, cond, List, [], ◌∷◌, length, map, refl, ap, sym, subst, arith, Option, Some, None, find, slice_index_or, add-zero, ◌==◌}
use Rattle.std.specs.Prelude.{option_map, unwrap_or}
use Rattle.std.specs.List.{list_any, AllByRecursion}
use Rattle.std.proofs.lemmas.Bool.{eqb-true, eq-eqb, ne_eqb}
use Rattle.tb_perm.specs.declared.perm.State.{State}
use Rattle.tb_perm.specs.declared.perm.Kind.{Kind}
use Rattle.tb_perm.specs.declared.perm.Rel.{Rel}
use Rattle.tb_perm.specs.declared.perm.Guard.TheVariants.{Free}
use Rattle.tb_perm.specs.declared.perm.Perm.TheVariants.{Disabled}
use Rattle.tb_perm.specs.Rows.{Row, is_tag, HasTag, IsRows, state_at, guard_in, unguarded, unguarded_row}
use Rattle.tb_perm.specs.Table.{is_guarded}
use Rattle.tb_perm.specs.Event.{Event, after, moved_row, moved_state, moved_states, rel_of}
use Rattle.tb_perm.specs.Pruning.{perm_in}

-- the row that is found is the tag's
pub found_tag : (rows : List Row) (t : ℕ) (r : Row) → find (is_tag t) rows ≡ Some r → r.tag ≡ t
found_tag [] t r found = cc
found_tag (row ∷ rows) t r found = at (row.tag == t) refl found (found_tag rows t r)
  where
    at : (b : Bool) → (row.tag == t) ≡ b → cond b (Some row) (find (is_tag t) rows) ≡ Some r → (find (is_tag t) rows ≡ Some r → r.tag ≡ t) → r.tag ≡ t
    at true same found later = let one : row ≡ r = cc in ap (λ (x : Row). x.tag) (sym one) ∙ eqb-true row.tag t same
    at false other found later = later found

-- a tag that is there has a row
pub has_found : (rows : List Row) (t : ℕ) → HasTag rows t → (r : Row) × (find (is_tag t) rows ≡ Some r)
has_found [] t has = absurd (cc)
has_found (row ∷ rows) t has = at (is_tag t row) has (has_found rows t)
  where
    at : (b : Bool) → (b || list_any (is_tag t) rows) ≡ true → (HasTag rows t → (r : Row) × (find (is_tag t) rows ≡ Some r)) → (r : Row) × (cond b (Some row) (find (is_tag t) rows) ≡ Some r)
    at true has later = (row, refl)
    at false has later = later has

-- what holds of all rows holds of the one that is found
pub found_All : (P : Row → Type 0) (rows : List Row) (t : ℕ) (r : Row) → AllByRecursion P rows → find (is_tag t) rows ≡ Some r → P r
found_All P [] t r all found = cc
found_All P (row ∷ rows) t r all found = at (is_tag t row) found (found_All P rows t r all.1)
  where
    at : (b : Bool) → cond b (Some row) (find (is_tag t) rows) ≡ Some r → (find (is_tag t) rows ≡ Some r → P r) → P r
    at true found later = let one : row ≡ r = cc in subst P one all.0
    at false found later = later found

-- a search among rows that are changed one by one, and keep their tags
pub find-map : (f : Row → Row) → ((row : Row) → (f row).tag ≡ row.tag) → (rows : List Row) (t : ℕ) → find (is_tag t) (map f rows) ≡ option_map f (find (is_tag t) rows)
find-map f keeps [] t = refl
find-map f keeps (row ∷ rows) t = ap (λ k. cond (k == t) (Some (f row)) (find (is_tag t) (map f rows))) (keeps row) ∙ at (find-map f keeps rows t) (is_tag t row)
  where
    at : find (is_tag t) (map f rows) ≡ option_map f (find (is_tag t) rows) → (b : Bool) → cond b (Some (f row)) (find (is_tag t) (map f rows)) ≡ option_map f (cond b (Some row) (find (is_tag t) rows))
    at later true = refl
    at later false = later

-- the row of a tag after an event
pub find-after : (event : Event) (rows : List Row) (t : ℕ) → find (is_tag t) (after event rows) ≡ option_map (moved_row rows event) (find (is_tag t) rows)
find-after event rows = find-map (moved_row rows event) (λ row. refl) rows

-- a state after an event
pub moved_at : (meets : ℕ → Option Kind) (g : Bool) (rel : Rel) (from byte : ℕ) (states : List State) (d : State) → byte < length states → slice_index_or (moved_states meets g rel from states) byte d ≡ moved_state (meets (from + byte)) g rel (slice_index_or states byte d)
moved_at meets g rel from byte [] d within = absurd (omega arith)
moved_at meets g rel from zero (s ∷ states) d within = ap (λ b. moved_state (meets b) g rel s) (sym (add-zero from))
moved_at meets g rel from (suc byte) (s ∷ states) d within =
    moved_at meets g rel (from + 1) byte states d (omega arith) ∙ ap (λ b. moved_state (meets b) g rel (slice_index_or states byte d)) shift
  where
    shift : from + 1 + byte ≡ from + suc byte
    shift = omega arith

pub state_at-moved : (rows : List Row) (event : Event) (row : Row) (byte : ℕ) → byte < length row.states → state_at (moved_row rows event row) byte ≡ moved_state (event.meets row.tag byte) (is_guarded row.guard) (rel_of rows event row) (state_at row byte)
state_at-moved rows event row byte within =
    moved_at (event.meets row.tag) (is_guarded row.guard) (rel_of rows event row) 0 byte row.states _ within
    ∙ ap (λ b. moved_state (event.meets row.tag b) (is_guarded row.guard) (rel_of rows event row) (state_at row byte)) (zero_first byte)
  where
    zero_first : (b : ℕ) → 0 + b ≡ b
    zero_first b = omega arith

-- a tag's permission, by its row
pub perm_in-found : (rows : List Row) (t byte : ℕ) (r : Row) → find (is_tag t) rows ≡ Some r → perm_in rows t byte ≡ (state_at r byte).perm
perm_in-found rows t byte r found = ap (λ o. (unwrap_or (option_map (λ (row : Row). state_at row byte) o) (record { perm = Disabled; accessed = false })).perm) found

-- a tag's permission after an event
pub perm_in-after : (size : ℕ) (event : Event) (rows : List Row) (t byte : ℕ) (r : Row) → IsRows size rows → byte < size → find (is_tag t) rows ≡ Some r → perm_in (after event rows) t byte ≡ (moved_state (event.meets t byte) (is_guarded r.guard) (rel_of rows event r) (state_at r byte)).perm
perm_in-after size event rows t byte r is within found =
    let sized : length r.states ≡ size = found_All (λ (row : Row). length row.states ≡ size) rows t r is.sized found in
    perm_in-found (after event rows) t byte (moved_row rows event r) (find-after event rows t ∙ ap (option_map (moved_row rows event)) found)
    ∙ ap (λ (s : State). s.perm) (state_at-moved rows event r byte (subst (λ n. byte < n) (sym sized) within))
    ∙ ap (λ k. (moved_state (event.meets k byte) (is_guarded r.guard) (rel_of rows event r) (state_at r byte)).perm) (found_tag rows t r found)

-- how a tag is guarded, by its row
pub guard_in-found : (rows : List Row) (t : ℕ) (r : Row) → find (is_tag t) rows ≡ Some r → guard_in rows t ≡ r.guard
guard_in-found rows t r found = ap (λ o. unwrap_or (option_map (λ (row : Row). row.guard) o) Free) found

-- an event keeps the guards
pub guard_in-after : (event : Event) (rows : List Row) (t : ℕ) → guard_in (after event rows) t ≡ guard_in rows t
guard_in-after event rows t = ap (λ o. unwrap_or (option_map (λ (row : Row). row.guard) o) Free) (find-after event rows t) ∙ at (find (is_tag t) rows)
  where
    at : (o : Option Row) → unwrap_or (option_map (λ (row : Row). row.guard) (option_map (moved_row rows event) o)) Free ≡ unwrap_or (option_map (λ (row : Row). row.guard) o) Free
    at None = refl
    at (Some r) = refl

tag-unguarded : (u : ℕ) (row : Row) → (unguarded_row u row).tag ≡ row.tag
tag-unguarded u row = at (is_tag u row)
  where
    at : (b : Bool) → (cond b (record row { guard = Free }) row).tag ≡ row.tag
    at true = refl
    at false = refl

pub find-unguarded : (rows : List Row) (u t : ℕ) → find (is_tag t) (unguarded rows u) ≡ option_map (unguarded_row u) (find (is_tag t) rows)
find-unguarded rows u t = find-map (unguarded_row u) (tag-unguarded u) rows t

-- the tag whose guard goes is free
pub guard_in-unguarded : (rows : List Row) (t : ℕ) → guard_in (unguarded rows t) t ≡ Free
guard_in-unguarded rows t = ap (λ o. unwrap_or (option_map (λ (row : Row). row.guard) o) Free) (find-unguarded rows t t) ∙ at (find (is_tag t) rows) refl
  where
    at : (o : Option Row) → find (is_tag t) rows ≡ o → unwrap_or (option_map (λ (row : Row). row.guard) (option_map (unguarded_row t) o)) Free ≡ Free
    at None found = refl
    at (Some r) found = ap (λ b. (cond b (record r { guard = Free }) r).guard) (eq-eqb r.tag t (found_tag rows t r found))

-- the others keep their guards
pub guard_in-other : (rows : List Row) (u t : ℕ) → t ≢ u → guard_in (unguarded rows u) t ≡ guard_in rows t
guard_in-other rows u t differs = ap (λ o. unwrap_or (option_map (λ (row : Row). row.guard) o) Free) (find-unguarded rows u t) ∙ at (find (is_tag t) rows) refl
  where
    at : (o : Option Row) → find (is_tag t) rows ≡ o → unwrap_or (option_map (λ (row : Row). row.guard) (option_map (unguarded_row u) o)) Free ≡ unwrap_or (option_map (λ (row : Row). row.guard) o) Free
    at None found = refl
    at (Some r) found = ap (λ b. (cond b (record r { guard = Free }) r).guard) (ne_eqb r.tag u (λ same. differs (sym (found_tag rows t r found) ∙ same)))
