-- The sweeps that are made fit their events.
use Rattle.std.proofs.Common.{◌≡◌, ◌∙◌, ◌||◌, ◌&&◌, ℕ, zero, suc, ◌+◌, ◌<◌, Bool, true, false, not, cond, List, [], ◌∷◌, ◌++◌, take, length, map, refl, ap, sym, subst, arith, Option, Some, None, find, ◌==◌, slice_index_or, zero-add, All, filter}
use Rattle.std.specs.Prelude.{option_map, option_and_then, IsSome}
use Rattle.std.specs.List.{list_any, AllByRecursion, range_with_len}
use Rattle.std.proofs.lemmas.Bool.{eqb-true, eq-eqb, or_right}
use Rattle.std.proofs.lemmas.List.Elements.{All-from_recursion, filter-append}
use Rattle.std.proofs.lemmas.List.{take_more, map-append}
use Rattle.tb_perm.specs.declared.perm.Kind.{Kind}
use Rattle.tb_perm.specs.declared.perm.Perm.TheVariants.{Disabled}
use Rattle.tb_perm.specs.Rows.{Row, is_tag, HasTag, is_on_path, state_at}
use Rattle.tb_perm.specs.Release.{release_event, released_kind, released_at, is_below}
use Rattle.tb_shape.specs.Tree.{Keys, HasKey, IsPath, IsAncestor}
use Rattle.tb_plain.specs.declared.row.PlainRow.{PlainRow}
use Rattle.tb_plain.specs.declared.sweep.Sweep.{Sweep}
use Rattle.tb_plain.specs.Plain.{row_in, rows_in, IsPlain}
use Rattle.tb_perm.specs.Rows.{tags}
use Rattle.tb_plain.specs.Fits.{Fits}
use Rattle.tb_plain.specs.Sweep.{is_plain, HasPlain, contains, met}
use Rattle.tb_plain.proofs.Moves.{range_at, map_at, find_All}
use Rattle.tb_perm.proofs.PathTags.{any_tags}
use Rattle.tb_plain.proofs.Paths.{has_key_at, path_is, find-rows_in, ancestor_on_path, on_path_ancestor}

pub tags-rows_in : (tree : Keys) (rows : List PlainRow) → tags (rows_in tree rows) ≡ map (λ (r : PlainRow). r.tag.0) rows
tags-rows_in tree [] = refl
tags-rows_in tree (r ∷ rows) = ap (λ xs. r.tag.0 ∷ xs) (tags-rows_in tree rows)

pub tag_there : (tree : Keys) (rows : List PlainRow) (t : ℕ) → HasTag (rows_in tree rows) t → contains (map (λ (r : PlainRow). r.tag.0) rows) t ≡ true
tag_there tree rows t has = ap (λ xs. contains xs t) (sym (tags-rows_in tree rows)) ∙ sym (any_tags (rows_in tree rows) t) ∙ has

-- a tag with a row is a key of the tree
pub key_there : (tree : Keys) (rows : List PlainRow) (size t : ℕ) → IsPlain tree rows size → HasTag (rows_in tree rows) t → HasKey tree t
key_there tree rows size t is has = has_key_at tree (map (λ (r : PlainRow). r.tag.0) rows) t is.keys (tag_there tree rows t has)

each : (P : PlainRow → Type 0) → ((r : PlainRow) → P r) → (rows : List PlainRow) → AllByRecursion P rows
each P all [] = tt
each P all (r ∷ rows) = (all r, each P all rows)

-- a sweep that hides nothing
pub Fits-open : (tree : Keys) (rows : List PlainRow) (size t : ℕ) (f : ℕ → Option Kind) (sweep : Sweep) → IsPlain tree rows size → HasTag (rows_in tree rows) t → IsPath tree t sweep.path → sweep.hidden ≡ [] → sweep.kinds ≡ map f (range_with_len 0 size) → Fits tree rows size (record { through = t; meets = λ u b. f b }) sweep
Fits-open tree rows size t f sweep is has path hidden kinds =
    record {
      path = path_is tree rows size t sweep.path is has path;
      meets = λ b within. each (λ (r : PlainRow). f b ≡ met sweep r.tag.0 b) (λ r.
          sym (ap f (zero-add b)) ∙ sym (range_at f 0 size b None within) ∙ ap (λ ks. slice_index_or ks b None) (sym kinds) ∙ sym (ap (λ hs. cond (contains hs r.tag.0) None (slice_index_or sweep.kinds b None)) hidden)) rows;
    }

-- a tag is among those picked by a test exactly where it is there and passes
pub contains_filter : (q : ℕ → Bool) (rows : List PlainRow) (u : ℕ) → contains (map (λ (r : PlainRow). r.tag.0) (filter (λ (r : PlainRow). q r.tag.0) rows)) u ≡ (q u && contains (map (λ (r : PlainRow). r.tag.0) rows) u)
contains_filter q [] u = at (q u)
  where
    at : (b : Bool) → false ≡ (b && false)
    at true = refl
    at false = refl
contains_filter q (r ∷ rows) u = at (q r.tag.0) refl (r.tag.0 == u) refl (contains_filter q rows u)
  where
    at : (b : Bool) → q r.tag.0 ≡ b → (c : Bool) → (r.tag.0 == u) ≡ c → contains (map (λ (x : PlainRow). x.tag.0) (filter (λ (x : PlainRow). q x.tag.0) rows)) u ≡ (q u && contains (map (λ (x : PlainRow). x.tag.0) rows) u) → contains (map (λ (x : PlainRow). x.tag.0) (cond b (r ∷ filter (λ (x : PlainRow). q x.tag.0) rows) (filter (λ (x : PlainRow). q x.tag.0) rows))) u ≡ (q u && (c || contains (map (λ (x : PlainRow). x.tag.0) rows) u))
    at true is true same later =
        let passes : q u ≡ true = ap q (sym (eqb-true r.tag.0 u same)) ∙ is in
        ap (λ d. d || contains (map (λ (x : PlainRow). x.tag.0) (filter (λ (x : PlainRow). q x.tag.0) rows)) u) same ∙ sym (ap (λ d. d && (true || contains (map (λ (x : PlainRow). x.tag.0) rows) u)) passes)
    at true is false differs later = ap (λ d. d || contains (map (λ (x : PlainRow). x.tag.0) (filter (λ (x : PlainRow). q x.tag.0) rows)) u) differs ∙ later
    at false is true same later =
        let fails : q u ≡ false = ap q (sym (eqb-true r.tag.0 u same)) ∙ is in
        later ∙ ap (λ d. d && contains (map (λ (x : PlainRow). x.tag.0) rows) u) fails ∙ sym (ap (λ d. d && (true || contains (map (λ (x : PlainRow). x.tag.0) rows) u)) fails)
    at false is false differs later = later

and_true : (b c : Bool) → c ≡ true → (b && c) ≡ b
and_true true c h = h
and_true false c h = refl

-- every row's tag is there
all_there : (rows all : List PlainRow) → ((r : PlainRow) → contains (map (λ (x : PlainRow). x.tag.0) rows) r.tag.0 ≡ true → contains (map (λ (x : PlainRow). x.tag.0) all) r.tag.0 ≡ true) → AllByRecursion (λ (r : PlainRow). contains (map (λ (x : PlainRow). x.tag.0) all) r.tag.0 ≡ true) rows
all_there [] all within = tt
all_there (r ∷ rows) all within = (
  within r (ap (λ b. b || contains (map (λ (x : PlainRow). x.tag.0) rows) r.tag.0) (eq-eqb r.tag.0 r.tag.0 refl)),
  all_there rows all (λ other h. within other (or_right (r.tag.0 == other.tag.0) _ h)),
)

mapped : (P Q : PlainRow → Type 0) (rows : List PlainRow) → ((r : PlainRow) → P r → Q r) → AllByRecursion P rows → AllByRecursion Q rows
mapped P Q [] f all = tt
mapped P Q (r ∷ rows) f all = (f r all.0, mapped P Q rows f all.1)

sized_rows : (tree : Keys) (size : ℕ) (rows : List PlainRow) → AllByRecursion (λ (row : Row). length row.states ≡ size) (rows_in tree rows) → AllByRecursion (λ (row : PlainRow). length row.states ≡ size) rows
sized_rows tree size [] all = tt
sized_rows tree size (r ∷ rows) all = (all.0, sized_rows tree size rows all.1)

-- each row has a state for each byte
pub all_sized : (tree : Keys) (rows : List PlainRow) (size : ℕ) → IsPlain tree rows size → All (λ (row : PlainRow). length row.states ≡ size) rows
all_sized tree rows size is = All-from_recursion (λ (row : PlainRow). length row.states ≡ size) rows (sized_rows tree size rows is.sound.sized)

pub row_sized : (tree : Keys) (rows : List PlainRow) (size t : ℕ) (r : PlainRow) → IsPlain tree rows size → find (is_plain t) rows ≡ Some r → length r.states ≡ size
row_sized tree rows size t r is found = find_All (λ (row : PlainRow). length row.states ≡ size) (is_plain t) rows r (sized_rows tree size rows is.sound.sized) found

-- the sweep of a release: it hides the tags below, and does at each byte what the tag's state asks for
pub Fits-release : (tree : Keys) (rows : List PlainRow) (size t : ℕ) (r : PlainRow) (sweep : Sweep) → IsPlain tree rows size → HasTag (rows_in tree rows) t → find (is_plain t) rows ≡ Some r → IsPath tree t sweep.path → sweep.hidden ≡ map (λ (x : PlainRow). x.tag.0) (filter (λ (x : PlainRow). is_below (rows_in tree rows) t x.tag.0) rows) → sweep.kinds ≡ map released_kind r.states → Fits tree rows size (release_event (rows_in tree rows) t) sweep
Fits-release tree rows size t r sweep is has found path hidden kinds =
    record {
      path = path_is tree rows size t sweep.path is has path;
      meets = λ b within. mapped (λ (x : PlainRow). contains (map (λ (y : PlainRow). y.tag.0) rows) x.tag.0 ≡ true) (λ (x : PlainRow). cond (is_below (rows_in tree rows) t x.tag.0) None (released_at (rows_in tree rows) t b) ≡ met sweep x.tag.0 b) rows (λ x there.
          ap (λ h. cond h None (released_at (rows_in tree rows) t b)) (hides x there) ∙ ap (cond (contains sweep.hidden x.tag.0) None) (at_byte b within)) (all_there rows rows (λ other h. h));
    }
  where
    hides : (x : PlainRow) → contains (map (λ (y : PlainRow). y.tag.0) rows) x.tag.0 ≡ true → is_below (rows_in tree rows) t x.tag.0 ≡ contains sweep.hidden x.tag.0
    hides x there =
        sym (ap (λ hs. contains hs x.tag.0) hidden ∙ contains_filter (is_below (rows_in tree rows) t) rows x.tag.0 ∙ and_true (is_below (rows_in tree rows) t x.tag.0) _ there)

    at_byte : (b : ℕ) → b < size → released_at (rows_in tree rows) t b ≡ slice_index_or sweep.kinds b None
    at_byte b within =
        let sized = row_sized tree rows size t r is found in
        ap (option_and_then (λ row. released_kind (state_at row b))) (find-rows_in tree rows t ∙ ap (option_map (row_in tree)) found)
        ∙ sym (map_at released_kind r.states b (record { perm = Disabled; accessed = false }) None (omega (arith, sized, within)))
        ∙ ap (λ ks. slice_index_or ks b None) (sym kinds)

-- whether a tag lies below another, by the tree
pub below_tells : (tree : Keys) (rows : List PlainRow) (size t u : ℕ) (b : Bool) → IsPlain tree rows size → HasTag (rows_in tree rows) u → (b ≡ true → IsAncestor tree t u) → (IsAncestor tree t u → b ≡ true) → (not (u == t) && b) ≡ is_below (rows_in tree rows) t u
below_tells tree rows size t u b is has to back = ap (λ c. not (u == t) && c) (same b (is_on_path (rows_in tree rows) u t) (λ h. ancestor_on_path tree rows size t u is has (to h)) (λ h. back (on_path_ancestor tree rows size t u is has h)))
  where
    same : (c d : Bool) → (c ≡ true → d ≡ true) → (d ≡ true → c ≡ true) → c ≡ d
    same true d f g = sym (f refl)
    same false true f g = g refl
    same false false f g = refl

-- the tag of each row is there
pub HasTag_at : (tree : Keys) (rows : List PlainRow) (i : ℕ) (d : PlainRow) → i < length rows → HasTag (rows_in tree rows) (slice_index_or rows i d).tag.0
HasTag_at tree [] i d within = absurd (omega arith)
HasTag_at tree (r ∷ rows) zero d within = ap (λ b. b || list_any (is_tag r.tag.0) (rows_in tree rows)) (eq-eqb r.tag.0 r.tag.0 refl)
HasTag_at tree (r ∷ rows) (suc i) d within = or_right (r.tag.0 == (slice_index_or rows i d).tag.0) _ (HasTag_at tree rows i d (omega arith))

pub HasTag_item : (tree : Keys) (rows : List PlainRow) (i : ℕ) (r : PlainRow) → i < length rows → r ≡ slice_index_or rows i r → HasTag (rows_in tree rows) r.tag.0
HasTag_item tree rows i r within is = subst (λ (x : PlainRow). HasTag (rows_in tree rows) x.tag.0) (sym is) (HasTag_at tree rows i r within)

-- a tag with a row in the tree has a plain row
pub HasPlain_there : (tree : Keys) (rows : List PlainRow) (t : ℕ) → HasTag (rows_in tree rows) t → HasPlain rows t
HasPlain_there tree [] t has = absurd (cc)
HasPlain_there tree (r ∷ rows) t has = at (HasPlain_there tree rows t) (r.tag.0 == t) has
  where
    at : (HasTag (rows_in tree rows) t → HasPlain rows t) → (b : Bool) → (b || list_any (is_tag t) (rows_in tree rows)) ≡ true → IsSome (cond b (Some r) (find (is_plain t) rows))
    at later true has = refl
    at later false has = later has

-- the tags of the rows so far that pass a test, and one more
pub picked_more : (p : PlainRow → Bool) (rows : List PlainRow) (i : ℕ) (r : PlainRow) → i < length rows → r ≡ slice_index_or rows i r → map (λ (x : PlainRow). x.tag.0) (filter p (take (i + 1) rows)) ≡ map (λ (x : PlainRow). x.tag.0) (filter p (take i rows)) ++ cond (p r) (r.tag.0 ∷ []) []
picked_more p rows i r within is =
    ap (λ xs. map (λ (x : PlainRow). x.tag.0) (filter p xs)) (take_more rows i r within ∙ ap (λ x. take i rows ++ x ∷ []) (sym is))
    ∙ ap (map (λ (x : PlainRow). x.tag.0)) (filter-append p (take i rows) (r ∷ []))
    ∙ map-append (λ (x : PlainRow). x.tag.0) (filter p (take i rows)) (filter p (r ∷ []))
    ∙ ap (λ xs. map (λ (x : PlainRow). x.tag.0) (filter p (take i rows)) ++ xs) (at (p r))
  where
    at : (b : Bool) → map (λ (x : PlainRow). x.tag.0) (cond b (r ∷ []) []) ≡ cond b (r.tag.0 ∷ []) []
    at true = refl
    at false = refl
