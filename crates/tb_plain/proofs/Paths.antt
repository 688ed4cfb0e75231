-- The path of a tag in the rows is its path in the tree of tags.
use Rattle.std.proofs.Common.{◌≡◌, ◌∙◌, ◌||◌, ℕ, Bool, true, false, cond, List, [], ◌∷◌, map, refl, ap, sym, subst, Option, Some, None, find, ◌==◌}
use Rattle.std.specs.Prelude.{option_map, option_and_then}
use Rattle.std.specs.List.{list_any, AllByRecursion, cons_option}
use Rattle.std.proofs.lemmas.Bool.{eqb-true, eq-eqb, or_right}
use Rattle.tb_perm.specs.Rows.{Row, is_tag, tags, HasTag, path_to_root, is_on_path}
use Rattle.tb_perm.specs.Pruning.{parent_in}
use Rattle.tb_perm.proofs.PathTags.{IsPathBy, path_by_same, path_tags, path_is_tags, any_tags}
use Rattle.tb_perm.proofs.Unique.{AreRising-rows, find_self, AllByRecursion-path_to_root}
use Rattle.tb_shape.specs.Tree.{Keys, is_key, HasKey, parent_of, IsPath, IsAncestor}
use Rattle.tb_plain.specs.declared.row.PlainRow.{PlainRow}
use Rattle.tb_plain.specs.Plain.{states_of, row_in, rows_in, IsPlain}
use Rattle.tb_plain.specs.Sweep.{is_plain, rows_on, contains}
use Rattle.tb_plain.specs.Pruning.{tags_of}

-- a key that is among the tree's
pub has_key_at : (tree : Keys) (keys : List ℕ) (key : ℕ) → map (λ (e : ℕ × Option ℕ). e.0) tree ≡ keys → list_any (λ k. k == key) keys ≡ true → HasKey tree key
has_key_at [] [] key same has = has
has_key_at (e ∷ tree) (k ∷ keys) key same has =
    let head : e.0 ≡ k = cc in
    let rest : map (λ (x : ℕ × Option ℕ). x.0) tree ≡ keys = cc in
    at (e.0 == key) (k == key) (ap (λ n. n == key) head) (has_key_at tree keys key rest) has
  where
    at : (b c : Bool) → b ≡ c → (list_any (λ n. n == key) keys ≡ true → HasKey tree key) → (c || list_any (λ n. n == key) keys) ≡ true → (b || list_any (is_key key) tree) ≡ true
    at true c is later has = refl
    at false true is later has = cc
    at false false is later has = later has
has_key_at [] (k ∷ keys) key same has = cc
has_key_at (e ∷ tree) [] key same has = cc

-- the row's tag is a key of the tree
known : (tree : Keys) (rows all : List PlainRow) → ((row : PlainRow) → list_any (λ k. k == row.tag.0) (map (λ (r : PlainRow). r.tag.0) all) ≡ true → HasKey tree row.tag.0) → ((row : PlainRow) → list_any (λ k. k == row.tag.0) (map (λ (r : PlainRow). r.tag.0) rows) ≡ true → list_any (λ k. k == row.tag.0) (map (λ (r : PlainRow). r.tag.0) all) ≡ true) → AllByRecursion (λ (row : Row). HasKey tree row.tag) (rows_in tree rows)
known tree [] all has within = tt
known tree (row ∷ rows) all has within = (
  has row (within row (ap (λ b. b || list_any (λ k. k == row.tag.0) (map (λ (r : PlainRow). r.tag.0) rows)) (eq-eqb row.tag.0 row.tag.0 refl))),
  known tree rows all has (λ other h. within other (or_right (row.tag.0 == other.tag.0) _ h)),
)

pub all_known : (tree : Keys) (rows : List PlainRow) (size : ℕ) → IsPlain tree rows size → AllByRecursion (λ (row : Row). HasKey tree row.tag) (rows_in tree rows)
all_known tree rows size is = known tree rows rows (λ row h. has_key_at tree (map (λ (r : PlainRow). r.tag.0) rows) row.tag.0 is.keys h) (λ row h. h)

-- a search among the rows of the tree
pub find-rows_in : (tree : Keys) (rows : List PlainRow) (key : ℕ) → find (is_tag key) (rows_in tree rows) ≡ option_map (row_in tree) (find (is_plain key) rows)
find-rows_in tree [] key = refl
find-rows_in tree (row ∷ rows) key = at (find-rows_in tree rows key) (row.tag.0 == key)
  where
    at : find (is_tag key) (rows_in tree rows) ≡ option_map (row_in tree) (find (is_plain key) rows) → (b : Bool) → cond b (Some (row_in tree row)) (find (is_tag key) (rows_in tree rows)) ≡ option_map (row_in tree) (cond b (Some row) (find (is_plain key) rows))
    at later true = refl
    at later false = later

-- the states of the row that is found
pub states_found : (tree : Keys) (rows : List PlainRow) (key : ℕ) (found : Option PlainRow) → find (is_plain key) rows ≡ found → option_map (λ (row : PlainRow). row.states) found ≡ states_of (rows_in tree rows) key
states_found tree rows key None is = sym (ap (option_map (λ (row : Row). row.states)) (find-rows_in tree rows key ∙ ap (option_map (row_in tree)) is))
states_found tree rows key (Some row) is = sym (ap (option_map (λ (row : Row). row.states)) (find-rows_in tree rows key ∙ ap (option_map (row_in tree)) is))

-- parents in the rows are those in the tree of tags
missing_key : (tree : Keys) (keys : List ℕ) (u : ℕ) → map (λ (e : ℕ × Option ℕ). e.0) tree ≡ keys → contains keys u ≡ false → find (is_key u) tree ≡ None
missing_key [] keys u same none = refl
missing_key (e ∷ tree) [] u same none = cc
missing_key (e ∷ tree) (k ∷ keys) u same none =
    let head : e.0 ≡ k = cc in
    let rest : map (λ (x : ℕ × Option ℕ). x.0) tree ≡ keys = cc in
    at (e.0 == u) (k == u) (ap (λ n. n == u) head) none (missing_key tree keys u rest)
  where
    at : (b c : Bool) → b ≡ c → (c || contains keys u) ≡ false → (contains keys u ≡ false → find (is_key u) tree ≡ None) → cond b (Some e) (find (is_key u) tree) ≡ None
    at true true h none later = cc
    at true false h none later = cc
    at false true h none later = cc
    at false false h none later = later none

none_found : (rows : List PlainRow) (u : ℕ) → find (is_plain u) rows ≡ None → contains (tags_of rows) u ≡ false
none_found [] u none = refl
none_found (r ∷ rows) u none = at (r.tag.0 == u) none (none_found rows u)
  where
    at : (b : Bool) → cond b (Some r) (find (is_plain u) rows) ≡ None → (find (is_plain u) rows ≡ None → contains (tags_of rows) u ≡ false) → (b || contains (tags_of rows) u) ≡ false
    at true none later = cc
    at false none later = later none

pub found_tag : (rows : List PlainRow) (u : ℕ) (r : PlainRow) → find (is_plain u) rows ≡ Some r → r.tag.0 ≡ u
found_tag [] u r found = cc
found_tag (x ∷ rows) u r found = at (x.tag.0 == u) refl found (found_tag rows u r)
  where
    at : (b : Bool) → (x.tag.0 == u) ≡ b → cond b (Some x) (find (is_plain u) rows) ≡ Some r → (find (is_plain u) rows ≡ Some r → r.tag.0 ≡ u) → r.tag.0 ≡ u
    at true is found later = let one : x ≡ r = cc in ap (λ (y : PlainRow). y.tag.0) (sym one) ∙ eqb-true x.tag.0 u is
    at false is found later = later found

pub parent_in-tree : (tree : Keys) (rows : List PlainRow) (size u : ℕ) → IsPlain tree rows size → parent_in (rows_in tree rows) u ≡ parent_of tree u
parent_in-tree tree rows size u is = ap (option_and_then (λ (row : Row). row.parent)) (find-rows_in tree rows u) ∙ at (find (is_plain u) rows) refl
  where
    at : (o : Option PlainRow) → find (is_plain u) rows ≡ o → option_and_then (λ (row : Row). row.parent) (option_map (row_in tree) o) ≡ parent_of tree u
    at None found = sym (ap (option_and_then (λ (e : ℕ × Option ℕ). e.1)) (missing_key tree (tags_of rows) u is.keys (none_found rows u found)))
    at (Some r) found = ap (parent_of tree) (found_tag rows u r found)

-- a path in the tree of tags goes by parents
path_by : (tree : Keys) (t : ℕ) (path : List ℕ) → IsPath tree t path → IsPathBy (parent_of tree) t path
path_by tree t [] is = is
path_by tree t (k ∷ []) is = (is.0, is.2)
path_by tree t (k ∷ next ∷ path) is = (is.0, is.1, path_by tree next (next ∷ path) is.2)

by_path : (tree : Keys) (t : ℕ) (path : List ℕ) → AllByRecursion (HasKey tree) path → IsPathBy (parent_of tree) t path → IsPath tree t path
by_path tree t [] all is = is
by_path tree t (k ∷ []) all is = (is.0, subst (HasKey tree) is.0 all.0, is.1)
by_path tree t (k ∷ next ∷ path) all is = (is.0, is.1, by_path tree next (next ∷ path) all.1 is.2)

all_tags : (P : ℕ → Type 0) (rows : List Row) → AllByRecursion (λ (row : Row). P row.tag) rows → AllByRecursion P (tags rows)
all_tags P [] all = tt
all_tags P (row ∷ rows) all = (all.0, all_tags P rows all.1)

-- the tags on the path to the root are a path in the tree of tags
pub path_of_tag : (tree : Keys) (rows : List PlainRow) (size t : ℕ) → IsPlain tree rows size → HasTag (rows_in tree rows) t → IsPath tree t (tags (path_to_root (rows_in tree rows) t))
path_of_tag tree rows size t is has =
    by_path tree t (tags (path_to_root (rows_in tree rows) t))
    (all_tags (HasKey tree) (path_to_root (rows_in tree rows) t) (AllByRecursion-path_to_root (λ (row : Row). HasKey tree row.tag) (rows_in tree rows) t (all_known tree rows size is)))
    (path_by_same (parent_in (rows_in tree rows)) (parent_of tree) t (tags (path_to_root (rows_in tree rows) t)) (λ k. parent_in-tree tree rows size k is) (path_tags size (rows_in tree rows) t is.sound has))

-- and the only one
pub path_is : (tree : Keys) (rows : List PlainRow) (size t : ℕ) (path : List ℕ) → IsPlain tree rows size → HasTag (rows_in tree rows) t → IsPath tree t path → path ≡ tags (path_to_root (rows_in tree rows) t)
path_is tree rows size t path is has is_path =
    path_is_tags size (rows_in tree rows) t path is.sound has (path_by_same (parent_of tree) (parent_in (rows_in tree rows)) t path (λ k. sym (parent_in-tree tree rows size k is)) (path_by tree t path is_path))

-- a tag is on the path exactly where the path has it
pub is_on_path-path : (tree : Keys) (rows : List PlainRow) (size t u : ℕ) (path : List ℕ) → path ≡ tags (path_to_root (rows_in tree rows) t) → is_on_path (rows_in tree rows) t u ≡ contains path u
is_on_path-path tree rows size t u path is = any_tags (path_to_root (rows_in tree rows) t) u ∙ ap (λ p. contains p u) (sym is)

-- an ancestor in the tree is on the path, and the other way round
pub ancestor_on_path : (tree : Keys) (rows : List PlainRow) (size a t : ℕ) → IsPlain tree rows size → HasTag (rows_in tree rows) t → IsAncestor tree a t → is_on_path (rows_in tree rows) t a ≡ true
ancestor_on_path tree rows size a t is has above =
    is_on_path-path tree rows size t a above.0 (path_is tree rows size t above.0 is has above.1) ∙ above.2

pub on_path_ancestor : (tree : Keys) (rows : List PlainRow) (size a t : ℕ) → IsPlain tree rows size → HasTag (rows_in tree rows) t → is_on_path (rows_in tree rows) t a ≡ true → IsAncestor tree a t
on_path_ancestor tree rows size a t is has on =
    (tags (path_to_root (rows_in tree rows) t), path_of_tag tree rows size t is has, sym (any_tags (path_to_root (rows_in tree rows) t) a) ∙ on)

-- the rows of the tags of a list of rows are these
rows_on_tags : (tree : Keys) (rows : List PlainRow) (path : List Row) → AllByRecursion (λ (w : Row). find (is_tag w.tag) (rows_in tree rows) ≡ Some w) path → map (row_in tree) (rows_on (tags path) rows) ≡ path
rows_on_tags tree rows [] all = refl
rows_on_tags tree rows (w ∷ path) all = at (find (is_plain w.tag) rows) (sym (find-rows_in tree rows w.tag) ∙ all.0) (rows_on_tags tree rows path all.1)
  where
    at : (o : Option PlainRow) → option_map (row_in tree) o ≡ Some w → map (row_in tree) (rows_on (tags path) rows) ≡ path → map (row_in tree) (cons_option o (rows_on (tags path) rows)) ≡ w ∷ path
    at None is rest = cc
    at (Some r) is rest = let one : row_in tree r ≡ w = cc in ap (λ x. x ∷ map (row_in tree) (rows_on (tags path) rows)) one ∙ ap (λ xs. w ∷ xs) rest

pub rows_on_path : (tree : Keys) (rows : List PlainRow) (size t : ℕ) (path : List ℕ) → IsPlain tree rows size → path ≡ tags (path_to_root (rows_in tree rows) t) → map (row_in tree) (rows_on path rows) ≡ path_to_root (rows_in tree rows) t
rows_on_path tree rows size t path is path_is =
    ap (λ p. map (row_in tree) (rows_on p rows)) path_is
    ∙ rows_on_tags tree rows (path_to_root (rows_in tree rows) t) (AllByRecursion-path_to_root (λ (w : Row). find (is_tag w.tag) (rows_in tree rows) ≡ Some w) (rows_in tree rows) t (find_self (rows_in tree rows) (AreRising-rows size (rows_in tree rows) is.sound)))
