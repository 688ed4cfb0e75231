-- What the rows of a tree answer an event is what its plain rows answer the sweep that fits it.
use Rattle.std.proofs.Common.{◌≡◌, ◌∙◌, ℕ, suc, zero, ◌+◌, ◌<◌, ◌≤◌, ◌||◌, Bool, true, false, cond, List, [], ◌∷◌, length, map, refl, ap, sym, subst, arith, Option, Some, None, find, is_some}
use Rattle.std.specs.Prelude.{option_map, option_and_then, filter}
use Rattle.std.specs.Option.{option_or}
use Rattle.std.specs.List.{list_any, AllByRecursion, range_with_len, cons_option}
use Rattle.tb_perm.specs.declared.perm.Kind.{Kind}
use Rattle.tb_perm.specs.declared.perm.Rel.{Rel}
use Rattle.tb_perm.specs.declared.perm.Rel.TheVariants.{Local, Foreign}
use Rattle.tb_perm.specs.declared.perm.State.{State}
use Rattle.tb_perm.specs.declared.report.Access.{Access}
use Rattle.tb_perm.specs.declared.report.Refusal.{Refusal}
use Rattle.tb_perm.specs.Table.{is_guarded}
use Rattle.tb_perm.specs.Rows.{Row, path_to_root, state_at, IsRows}
use Rattle.tb_perm.specs.Event.{Event, after, moved_row, moved_state, moved_states, refusal_of, refusal_at, rel_of}
use Rattle.tb_perm.specs.Choice.{refuses, refused_byte, refusing_row, report_on, report_at, report_of}
use Rattle.tb_perm.specs.Deallocation.{strong_refusal, dealloc_report}
use Rattle.tb_perm.specs.Access.{access_event}
use Rattle.tb_perm.specs.declared.perm.Kind.TheVariants.{Write}
use Rattle.tb_perm.specs.declared.report.Access.TheVariants.{Free}
use Rattle.tb_perm.proofs.Kept.{IsRows-after}
use Rattle.tb_shape.specs.Tree.{Keys}
use Rattle.tb_plain.specs.declared.row.PlainRow.{PlainRow}
use Rattle.tb_plain.specs.declared.sweep.Sweep.{Sweep}
use Rattle.tb_plain.specs.Plain.{row_in, rows_in, IsPlain, notes_of}
use Rattle.tb_plain.specs.Sweep.{is_plain, rows_on, met, rel_in, swept, refusal_by, refuses_by, byte_by, row_by, report_by, reported_at, reported}
use Rattle.tb_plain.proofs.Moves.{find_All}
use Rattle.tb_perm.specs.Rows.{tags}
use Rattle.tb_plain.specs.Fits.{Fits}
use Rattle.tb_plain.proofs.Paths.{is_on_path-path, rows_on_path}

-- the rows refuse as the plain rows do
abbrev pub Agrees : Keys → (Row → ℕ → Option Refusal) → Sweep → ℕ → List PlainRow → Type 0
Agrees tree refusal sweep byte rows = AllByRecursion (λ (r : PlainRow). refusal (row_in tree r) byte ≡ refusal_by sweep r byte) rows

any_in : (tree : Keys) (refusal : Row → ℕ → Option Refusal) (sweep : Sweep) (byte : ℕ) (rows : List PlainRow) → Agrees tree refusal sweep byte rows → list_any (refuses refusal byte) (rows_in tree rows) ≡ list_any (refuses_by sweep byte) rows
any_in tree refusal sweep byte [] agrees = refl
any_in tree refusal sweep byte (r ∷ rows) agrees =
    ap (λ o. is_some o || list_any (refuses refusal byte) (rows_in tree rows)) agrees.0 ∙ ap (λ b. refuses_by sweep byte r || b) (any_in tree refusal sweep byte rows agrees.1)

find_in : (tree : Keys) (refusal : Row → ℕ → Option Refusal) (sweep : Sweep) (byte : ℕ) (rows : List PlainRow) → Agrees tree refusal sweep byte rows → find (refuses refusal byte) (rows_in tree rows) ≡ option_map (row_in tree) (find (refuses_by sweep byte) rows)
find_in tree refusal sweep byte [] agrees = refl
find_in tree refusal sweep byte (r ∷ rows) agrees =
    ap (λ o. cond (is_some o) (Some (row_in tree r)) (find (refuses refusal byte) (rows_in tree rows))) agrees.0 ∙ at (refuses_by sweep byte r) (find_in tree refusal sweep byte rows agrees.1)
  where
    at : (b : Bool) → find (refuses refusal byte) (rows_in tree rows) ≡ option_map (row_in tree) (find (refuses_by sweep byte) rows) → cond b (Some (row_in tree r)) (find (refuses refusal byte) (rows_in tree rows)) ≡ option_map (row_in tree) (cond b (Some r) (find (refuses_by sweep byte) rows))
    at true later = refl
    at false later = later

all_on : (P : PlainRow → Type 0) (keys : List ℕ) (rows : List PlainRow) → AllByRecursion P rows → AllByRecursion P (rows_on keys rows)
all_on P [] rows all = tt
all_on P (key ∷ keys) rows all = at (find (is_plain key) rows) refl (all_on P keys rows all)
  where
    at : (o : Option PlainRow) → find (is_plain key) rows ≡ o → AllByRecursion P (rows_on keys rows) → AllByRecursion P (cons_option o (rows_on keys rows))
    at None is rest = rest
    at (Some r) is rest = (find_All P (is_plain key) rows r all is, rest)

or_mapped : {X Y : Type 0} (f : X → Y) (a b : Option X) → option_or (option_map f a) (option_map f b) ≡ option_map f (option_or a b)
or_mapped f None b = refl
or_mapped f (Some x) b = refl

row_in_tree : (tree : Keys) (refusal : Row → ℕ → Option Refusal) (sweep : Sweep) (byte through : ℕ) (rows : List PlainRow) → map (row_in tree) (rows_on sweep.path rows) ≡ path_to_root (rows_in tree rows) through → Agrees tree refusal sweep byte rows → refusing_row refusal (rows_in tree rows) through byte ≡ option_map (row_in tree) (row_by sweep rows byte)
row_in_tree tree refusal sweep byte through rows path agrees =
    ap (λ ws. option_or (find (refuses refusal byte) ws) (find (refuses refusal byte) (rows_in tree rows))) (sym path)
    ∙ ap (λ o. option_or o (find (refuses refusal byte) (rows_in tree rows))) (find_in tree refusal sweep byte (rows_on sweep.path rows) (all_on (λ (r : PlainRow). refusal (row_in tree r) byte ≡ refusal_by sweep r byte) sweep.path rows agrees))
    ∙ ap (option_or (option_map (row_in tree) (find (refuses_by sweep byte) (rows_on sweep.path rows)))) (find_in tree refusal sweep byte rows agrees)
    ∙ or_mapped (row_in tree) (find (refuses_by sweep byte) (rows_on sweep.path rows)) (find (refuses_by sweep byte) rows)

-- the row to blame is one of the rows
blamed_All : (P : PlainRow → Type 0) (sweep : Sweep) (rows : List PlainRow) (byte : ℕ) (r : PlainRow) → AllByRecursion P rows → row_by sweep rows byte ≡ Some r → P r
blamed_All P sweep rows byte r all is = at (find (refuses_by sweep byte) (rows_on sweep.path rows)) refl is
  where
    at : (o : Option PlainRow) → find (refuses_by sweep byte) (rows_on sweep.path rows) ≡ o → option_or o (find (refuses_by sweep byte) rows) ≡ Some r → P r
    at None none is = find_All P (refuses_by sweep byte) rows r all is
    at (Some x) found is = let one : x ≡ r = cc in subst P one (find_All P (refuses_by sweep byte) (rows_on sweep.path rows) x (all_on P sweep.path rows all) found)

report_in : (tree : Keys) (refusal : Row → ℕ → Option Refusal) (sweep : Sweep) (access : Access) (byte through : ℕ) (rows : List PlainRow) → map (row_in tree) (rows_on sweep.path rows) ≡ path_to_root (rows_in tree rows) through → Agrees tree refusal sweep byte rows → report_at refusal access (rows_in tree rows) through byte ≡ reported_at sweep access rows through byte
report_in tree refusal sweep access byte through rows path agrees =
    ap (option_and_then (λ row. option_map (report_on access through byte row) (refusal row byte))) (row_in_tree tree refusal sweep byte through rows path agrees) ∙ at (row_by sweep rows byte) refl
  where
    at : (o : Option PlainRow) → row_by sweep rows byte ≡ o → option_and_then (λ row. option_map (report_on access through byte row) (refusal row byte)) (option_map (row_in tree) o) ≡ option_and_then (λ row. option_map (report_by access through byte row) (refusal_by sweep row byte)) o
    at None is = refl
    at (Some r) is = ap (option_map (report_by access through byte r)) (blamed_All (λ (x : PlainRow). refusal (row_in tree x) byte ≡ refusal_by sweep x byte) sweep rows byte r agrees is)

find_range : (q r : ℕ → Bool) (from n : ℕ) → ((b : ℕ) → from ≤ b → b < from + n → q b ≡ r b) → find q (range_with_len from n) ≡ find r (range_with_len from n)
find_range q r from zero same = refl
find_range q r from (suc n) same =
    ap (λ b. cond b (Some from) (find q (range_with_len (from + 1) n))) (same from (omega arith) (omega arith))
    ∙ ap (cond (r from) (Some from)) (find_range q r (from + 1) n (λ b low high. same b (omega arith) (omega arith)))

range_bound : (q : ℕ → Bool) (from n byte : ℕ) → find q (range_with_len from n) ≡ Some byte → byte < from + n
range_bound q from zero byte is = cc
range_bound q from (suc n) byte is = at (range_bound q (from + 1) n byte) (q from) is
  where
    at : (find q (range_with_len (from + 1) n) ≡ Some byte → byte < from + 1 + n) → (b : Bool) → cond b (Some from) (find q (range_with_len (from + 1) n)) ≡ Some byte → byte < from + suc n
    at later true is = let one : from ≡ byte = cc in omega (arith, one)
    at later false is = omega (arith, later is)

-- the report of an event whose sweep has the path and refuses as it does
pub report-reported : (tree : Keys) (refusal : Row → ℕ → Option Refusal) (sweep : Sweep) (access : Access) (size through : ℕ) (rows : List PlainRow) → map (row_in tree) (rows_on sweep.path rows) ≡ path_to_root (rows_in tree rows) through → ((b : ℕ) → b < size → Agrees tree refusal sweep b rows) → report_of refusal access size (rows_in tree rows) through ≡ reported sweep access size rows through
report-reported tree refusal sweep access size through rows path agrees =
    ap (option_and_then (report_at refusal access (rows_in tree rows) through)) bytes ∙ at (byte_by sweep size rows) refl
  where
    bytes : refused_byte refusal size (rows_in tree rows) ≡ byte_by sweep size rows
    bytes = find_range (λ b. list_any (refuses refusal b) (rows_in tree rows)) (λ b. list_any (refuses_by sweep b) rows) 0 size (λ b low high. any_in tree refusal sweep b rows (agrees b (omega arith)))

    at : (o : Option ℕ) → byte_by sweep size rows ≡ o → option_and_then (report_at refusal access (rows_in tree rows) through) o ≡ option_and_then (reported_at sweep access rows through) o
    at None is = refl
    at (Some b) is = report_in tree refusal sweep access b through rows path (agrees b (omega (arith, range_bound (λ b. list_any (refuses_by sweep b) rows) 0 size b is)))

rel-fits : (tree : Keys) (rows : List PlainRow) (size : ℕ) (event : Event) (sweep : Sweep) (r : PlainRow) → Fits tree rows size event sweep → rel_of (rows_in tree rows) event (row_in tree r) ≡ rel_in sweep r.tag.0
rel-fits tree rows size event sweep r fits =
    ap (λ b. cond {A = Rel} b Local Foreign) (is_on_path-path tree rows size event.through r.tag.0 sweep.path fits.path)

agrees_fits : (tree : Keys) (all : List PlainRow) (size : ℕ) (event : Event) (sweep : Sweep) → Fits tree all size event sweep → sweep.strong ≡ false → (b : ℕ) (rows : List PlainRow) → AllByRecursion (λ (r : PlainRow). event.meets r.tag.0 b ≡ met sweep r.tag.0 b) rows → Agrees tree (refusal_at (rows_in tree all) event) sweep b rows
agrees_fits tree all size event sweep fits weak b [] meets = tt
agrees_fits tree all size event sweep fits weak b (r ∷ rows) meets = (
  ap (λ k. refusal_of k (is_guarded r.guard) (rel_of (rows_in tree all) event (row_in tree r)) (state_at (row_in tree r) b)) meets.0
      ∙ ap (λ rel. refusal_of (met sweep r.tag.0 b) (is_guarded r.guard) rel (state_at (row_in tree r) b)) (rel-fits tree all size event sweep r fits)
      ∙ sym (ap (λ s. cond s (strong_refusal (row_in tree r) b) (refusal_of (met sweep r.tag.0 b) (is_guarded r.guard) (rel_in sweep r.tag.0) (state_at (row_in tree r) b))) weak),
  agrees_fits tree all size event sweep fits weak b rows meets.1,
)

-- the report of an event is that of the sweep that fits it
pub report-fits : (tree : Keys) (rows : List PlainRow) (size : ℕ) (event : Event) (sweep : Sweep) (access : Access) → IsPlain tree rows size → Fits tree rows size event sweep → sweep.strong ≡ false → report_of (refusal_at (rows_in tree rows) event) access size (rows_in tree rows) event.through ≡ reported sweep access size rows event.through
report-fits tree rows size event sweep access is fits weak =
    report-reported tree (refusal_at (rows_in tree rows) event) sweep access size event.through rows (rows_on_path tree rows size event.through sweep.path is fits.path) (λ b within. agrees_fits tree rows size event sweep fits weak b rows (fits.meets b within))

agrees_strong : (tree : Keys) (sweep : Sweep) → sweep.strong ≡ true → (b : ℕ) (rows : List PlainRow) → Agrees tree strong_refusal sweep b rows
agrees_strong tree sweep strong b [] = tt
agrees_strong tree sweep strong b (r ∷ rows) = (
  sym (ap (λ s. cond s (strong_refusal (row_in tree r) b) (refusal_of (met sweep r.tag.0 b) (is_guarded r.guard) (rel_in sweep r.tag.0) (state_at (row_in tree r) b))) strong),
  agrees_strong tree sweep strong b rows,
)

pub report-strong : (tree : Keys) (rows : List PlainRow) (size through : ℕ) (sweep : Sweep) (access : Access) → IsPlain tree rows size → sweep.path ≡ tags (path_to_root (rows_in tree rows) through) → sweep.strong ≡ true → report_of strong_refusal access size (rows_in tree rows) through ≡ reported sweep access size rows through
report-strong tree rows size through sweep access is path strong =
    report-reported tree strong_refusal sweep access size through rows (rows_on_path tree rows size through sweep.path is path) (λ b within. agrees_strong tree sweep strong b rows)

moved_states_same : (f g : ℕ → Option Kind) (p : Bool) (rel : Rel) (from : ℕ) (states : List State) → ((b : ℕ) → from ≤ b → b < from + length states → f b ≡ g b) → moved_states f p rel from states ≡ moved_states g p rel from states
moved_states_same f g p rel from [] same = refl
moved_states_same f g p rel from (s ∷ states) same =
    ap (λ k. moved_state k p rel s ∷ moved_states f p rel (from + 1) states) (same from (omega arith) (omega arith))
    ∙ ap (λ xs. moved_state (g from) p rel s ∷ xs) (moved_states_same f g p rel (from + 1) states (λ b low high. same b (omega arith) (omega arith)))

swept_rows : (tree : Keys) (all : List PlainRow) (size : ℕ) (event : Event) (sweep : Sweep) → Fits tree all size event sweep → (rows : List PlainRow) → AllByRecursion (λ (row : Row). length row.states ≡ size) (rows_in tree rows) → ((b : ℕ) → b < size → AllByRecursion (λ (r : PlainRow). event.meets r.tag.0 b ≡ met sweep r.tag.0 b) rows) → map (moved_row (rows_in tree all) event) (rows_in tree rows) ≡ rows_in tree (map (swept sweep) rows)
swept_rows tree all size event sweep fits [] sized meets = refl
swept_rows tree all size event sweep fits (r ∷ rows) sized meets =
    ap (λ states. record (row_in tree r) { states = states } ∷ map (moved_row (rows_in tree all) event) (rows_in tree rows)) states
    ∙ ap (λ xs. row_in tree (swept sweep r) ∷ xs) (swept_rows tree all size event sweep fits rows sized.1 (λ b within. (meets b within).1))
  where
    states : moved_states (event.meets r.tag.0) (is_guarded r.guard) (rel_of (rows_in tree all) event (row_in tree r)) 0 r.states ≡ moved_states (met sweep r.tag.0) (is_guarded r.guard) (rel_in sweep r.tag.0) 0 r.states
    states =
        ap (λ rel. moved_states (event.meets r.tag.0) (is_guarded r.guard) rel 0 r.states) (rel-fits tree all size event sweep r fits)
        ∙ moved_states_same (event.meets r.tag.0) (met sweep r.tag.0) (is_guarded r.guard) (rel_in sweep r.tag.0) 0 r.states (λ b low high. (meets b (omega (arith, sized.0))).0)

-- the rows after an event are those after the sweep that fits it
pub after-swept : (tree : Keys) (rows : List PlainRow) (size : ℕ) (event : Event) (sweep : Sweep) → IsPlain tree rows size → Fits tree rows size event sweep → rows_in tree (map (swept sweep) rows) ≡ after event (rows_in tree rows)
after-swept tree rows size event sweep is fits = sym (swept_rows tree rows size event sweep fits rows is.sound.sized fits.meets)

pub tags-swept : (sweep : Sweep) (rows : List PlainRow) → map (λ (r : PlainRow). r.tag.0) (map (swept sweep) rows) ≡ map (λ (r : PlainRow). r.tag.0) rows
tags-swept sweep [] = refl
tags-swept sweep (r ∷ rows) = ap (λ xs. r.tag.0 ∷ xs) (tags-swept sweep rows)

pub notes-swept : (sweep : Sweep) (rows : List PlainRow) → notes_of (map (swept sweep) rows) ≡ notes_of rows
notes-swept sweep [] = refl
notes-swept sweep (r ∷ rows) = at (notes-swept sweep rows) r.noted
  where
    at : notes_of (map (swept sweep) rows) ≡ notes_of rows → (b : Bool) → map (λ (x : PlainRow). x.tag.0) (cond b (swept sweep r ∷ filter (λ (x : PlainRow). x.noted) (map (swept sweep) rows)) (filter (λ (x : PlainRow). x.noted) (map (swept sweep) rows))) ≡ map (λ (x : PlainRow). x.tag.0) (cond b (r ∷ filter (λ (x : PlainRow). x.noted) rows) (filter (λ (x : PlainRow). x.noted) rows))
    at later true = ap (λ xs. r.tag.0 ∷ xs) later
    at later false = later

pub IsPlain-swept : (tree : Keys) (rows : List PlainRow) (size : ℕ) (event : Event) (sweep : Sweep) → IsPlain tree rows size → Fits tree rows size event sweep → IsPlain tree (map (swept sweep) rows) size
IsPlain-swept tree rows size event sweep is fits =
    record {
      sound = subst (IsRows size) (sym (after-swept tree rows size event sweep is fits)) (IsRows-after size event (rows_in tree rows) is.sound);
      keys = is.keys ∙ sym (tags-swept sweep rows);
    }

-- the report of a deallocation, from both stages of its sweep
pub dealloc-fits : (tree : Keys) (rows : List PlainRow) (size t : ℕ) (sweep : Sweep) → IsPlain tree rows size → Fits tree rows size (access_event t 0 size Write) sweep → sweep.strong ≡ false → dealloc_report (rows_in tree rows) size t ≡ option_or (reported sweep Free size rows t) (reported (record sweep { strong = true }) Free size rows t)
dealloc-fits tree rows size t sweep is fits weak =
    ap (λ o. option_or o (report_of strong_refusal Free size (rows_in tree rows) t)) (report-fits tree rows size (access_event t 0 size Write) sweep Free is fits weak)
    ∙ ap (option_or (reported sweep Free size rows t)) (report-strong tree rows size t (record sweep { strong = true }) Free is fits.path refl)
