-- A tag that is taken out.
use Rattle.std.proofs.Common.{◌≡◌, ◌∙◌, ◌≢◌, ℕ, suc, zero, ◌<◌, Bool, true, false, not, cond, List, [], ◌∷◌, length, map, filter, remove, refl, ap, sym, subst, arith, Option, Some, None, find, ◌==◌, slice_index_or}
use Rattle.std.specs.Prelude.{option_map, option_and_then}
use Rattle.std.specs.List.{AllByRecursion}
use Rattle.std.proofs.lemmas.Bool.{eqb-true, eq-eqb, ne_eqb}
use Rattle.tb_perm.specs.Rows.{Row, is_tag, IsRows}
use Rattle.tb_perm.specs.Pruning.{moved_up_row, removed, forgotten}
use Rattle.tb_perm.proofs.Unique.{AreRising, AreRising-rows}
use Rattle.tb_perm.proofs.Removed.{IsRows-removed}
use Rattle.tb_shape.specs.Tree.{Keys, is_key, parent_of, is_child_of, without, spliced, moved_up}
use Rattle.tb_plain.specs.declared.row.PlainRow.{PlainRow}
use Rattle.tb_plain.specs.Plain.{row_in, rows_in, IsPlain, notes_of}
use Rattle.tb_plain.specs.Pruning.{tags_of, others_plain, other_keys, keys_of}
use Rattle.tb_plain.proofs.Paths.{parent_in-tree}

others_all : (tree : Keys) (t : ℕ) (rows : List PlainRow) → AllByRecursion (λ (row : Row). t < row.tag) (rows_in tree rows) → others_plain t rows ≡ rows
others_all tree t [] all = refl
others_all tree t (r ∷ rows) all =
    ap (λ b. cond (not b) (r ∷ others_plain t rows) (others_plain t rows)) (ne_eqb r.tag.0 t (λ same. absurd (omega (arith, same, all.0)))) ∙ ap (λ xs. r ∷ xs) (others_all tree t rows all.1)

greater_at : (tree : Keys) (k : ℕ) (rows : List PlainRow) (at : ℕ) (d : PlainRow) → AllByRecursion (λ (row : Row). k < row.tag) (rows_in tree rows) → at < length rows → k < (slice_index_or rows at d).tag.0
greater_at tree k [] at d all within = absurd (omega arith)
greater_at tree k (r ∷ rows) zero d all within = all.0
greater_at tree k (r ∷ rows) (suc at) d all within = greater_at tree k rows at d all.1 (omega arith)

-- without the row at a tag's place the rows are those of the other tags
remove_rising : (tree : Keys) (rows : List PlainRow) (t at : ℕ) (d : PlainRow) → AreRising (rows_in tree rows) → at < length rows → (slice_index_or rows at d).tag.0 ≡ t → remove rows at ≡ others_plain t rows
remove_rising tree [] t at d rising within is = absurd (omega arith)
remove_rising tree (r ∷ rows) t zero d rising within is =
    sym (ap (λ b. cond (not b) (r ∷ others_plain t rows) (others_plain t rows)) (eq-eqb r.tag.0 t is) ∙ others_all tree t rows (subst (λ k. AllByRecursion (λ (row : Row). k < row.tag) (rows_in tree rows)) is rising.0))
remove_rising tree (r ∷ rows) t (suc at) d rising within is =
    let less : r.tag.0 < (slice_index_or rows at d).tag.0 = greater_at tree r.tag.0 rows at d rising.0 (omega arith) in
    ap (λ xs. r ∷ xs) (remove_rising tree rows t at d rising.1 (omega arith) is) ∙ sym (ap (λ b. cond (not b) (r ∷ others_plain t rows) (others_plain t rows)) (ne_eqb r.tag.0 t (λ same. absurd (omega (arith, same, less, is)))))

pub remove_others : (tree : Keys) (rows : List PlainRow) (size t : ℕ) → IsPlain tree rows size → (at : ℕ) (d : PlainRow) → at < length rows → (slice_index_or rows at d).tag.0 ≡ t → remove rows at ≡ others_plain t rows
remove_others tree rows size t is at d within found = remove_rising tree rows t at d (AreRising-rows size (rows_in tree rows) is.sound) within found

tags_others : (rows : List PlainRow) (t : ℕ) → tags_of (others_plain t rows) ≡ other_keys t (tags_of rows)
tags_others [] t = refl
tags_others (r ∷ rows) t = at (r.tag.0 == t) (tags_others rows t)
  where
    at : (b : Bool) → tags_of (others_plain t rows) ≡ other_keys t (tags_of rows) → tags_of (cond (not b) (r ∷ others_plain t rows) (others_plain t rows)) ≡ cond (not b) (r.tag.0 ∷ other_keys t (tags_of rows)) (other_keys t (tags_of rows))
    at true later = later
    at false later = ap (λ xs. r.tag.0 ∷ xs) later

pub keys_without : (tree : Keys) (t : ℕ) → keys_of (without t tree) ≡ other_keys t (keys_of tree)
keys_without [] t = refl
keys_without (e ∷ tree) t = at (e.0 == t) (keys_without tree t)
  where
    at : (b : Bool) → keys_of (without t tree) ≡ other_keys t (keys_of tree) → keys_of (cond (not b) (e ∷ without t tree) (without t tree)) ≡ cond (not b) (e.0 ∷ other_keys t (keys_of tree)) (other_keys t (keys_of tree))
    at true later = later
    at false later = ap (λ xs. e.0 ∷ xs) later

keys_moved : (t : ℕ) (o : Option ℕ) (tree : Keys) → keys_of (map (moved_up t o) tree) ≡ keys_of tree
keys_moved t o [] = refl
keys_moved t o (e ∷ tree) = ap (λ k. k ∷ keys_of (map (moved_up t o) tree)) (at (is_child_of t e.1)) ∙ ap (λ xs. e.0 ∷ xs) (keys_moved t o tree)
  where
    at : (b : Bool) → (cond b (e.0, o) e).0 ≡ e.0
    at true = refl
    at false = refl

pub keys_spliced : (tree : Keys) (t : ℕ) → keys_of (spliced t tree) ≡ other_keys t (keys_of tree)
keys_spliced tree t = keys_moved t (parent_of tree t) (without t tree) ∙ keys_without tree t

find_without : (tree : Keys) (t q : ℕ) → t ≢ q → find (is_key q) (without t tree) ≡ find (is_key q) tree
find_without [] t q differs = refl
find_without (e ∷ tree) t q differs = at (e.0 == t) refl (e.0 == q) refl (find_without tree t q differs)
  where
    at : (b : Bool) → (e.0 == t) ≡ b → (c : Bool) → (e.0 == q) ≡ c → find (is_key q) (without t tree) ≡ find (is_key q) tree → find (is_key q) (cond (not b) (e ∷ without t tree) (without t tree)) ≡ cond c (Some e) (find (is_key q) tree)
    at true is true same later = absurd (differs (sym (eqb-true e.0 t is) ∙ eqb-true e.0 q same))
    at true is false same later = later
    at false is true same later = ap (λ b. cond b (Some e) (find (is_key q) (without t tree))) same
    at false is false same later = ap (λ b. cond b (Some e) (find (is_key q) (without t tree))) same ∙ later

find_moved : (t : ℕ) (o : Option ℕ) (tree : Keys) (q : ℕ) → find (is_key q) (map (moved_up t o) tree) ≡ option_map (moved_up t o) (find (is_key q) tree)
find_moved t o [] q = refl
find_moved t o (e ∷ tree) q = ap (λ k. cond (k == q) (Some (moved_up t o e)) (find (is_key q) (map (moved_up t o) tree))) (key (is_child_of t e.1)) ∙ at (e.0 == q) (find_moved t o tree q)
  where
    key : (b : Bool) → (cond b (e.0, o) e).0 ≡ e.0
    key true = refl
    key false = refl

    at : (b : Bool) → find (is_key q) (map (moved_up t o) tree) ≡ option_map (moved_up t o) (find (is_key q) tree) → cond b (Some (moved_up t o e)) (find (is_key q) (map (moved_up t o) tree)) ≡ option_map (moved_up t o) (cond b (Some e) (find (is_key q) tree))
    at true later = refl
    at false later = later

-- the parents of the other keys
pub parent_without : (tree : Keys) (t q : ℕ) → t ≢ q → parent_of (without t tree) q ≡ parent_of tree q
parent_without tree t q differs = ap (option_and_then (λ (e : ℕ × Option ℕ). e.1)) (find_without tree t q differs)

pub parent_spliced : (tree : Keys) (t q : ℕ) → t ≢ q → parent_of (spliced t tree) q ≡ cond (is_child_of t (parent_of tree q)) (parent_of tree t) (parent_of tree q)
parent_spliced tree t q differs =
    ap (option_and_then (λ (e : ℕ × Option ℕ). e.1)) (find_moved t (parent_of tree t) (without t tree) q ∙ ap (option_map (moved_up t (parent_of tree t))) (find_without tree t q differs)) ∙ at (find (is_key q) tree)
  where
    up : (b : Bool) (e : ℕ × Option ℕ) → (cond b (e.0, parent_of tree t) e).1 ≡ cond b (parent_of tree t) e.1
    up true e = refl
    up false e = refl

    at : (o : Option (ℕ × Option ℕ)) → option_and_then (λ (e : ℕ × Option ℕ). e.1) (option_map (moved_up t (parent_of tree t)) o) ≡ cond (is_child_of t (option_and_then (λ (e : ℕ × Option ℕ). e.1) o)) (parent_of tree t) (option_and_then (λ (e : ℕ × Option ℕ). e.1) o)
    at None = refl
    at (Some e) = up (is_child_of t e.1) e

-- a leaf is no parent
pub parent_leaf : (tree : Keys) (t q : ℕ) → ((u : ℕ) → parent_of tree u ≢ Some t) → parent_of tree q ≡ cond (is_child_of t (parent_of tree q)) (parent_of tree t) (parent_of tree q)
parent_leaf tree t q leaf = at (parent_of tree q) (leaf q)
  where
    at : (o : Option ℕ) → o ≢ Some t → o ≡ cond (is_child_of t o) (parent_of tree t) o
    at None differs = refl
    at (Some p) differs = sym (ap (λ b. cond b (parent_of tree t) (Some p)) (ne_eqb p t (λ same. differs (ap Some same))))

rows_taken : (tree now : Keys) (rows : List PlainRow) (t : ℕ) → ((q : ℕ) → t ≢ q → parent_of now q ≡ cond (is_child_of t (parent_of tree q)) (parent_of tree t) (parent_of tree q)) → rows_in now (others_plain t rows) ≡ map (moved_up_row t (parent_of tree t)) (filter (λ row. not (is_tag t row)) (rows_in tree rows))
rows_taken tree now [] t parents = refl
rows_taken tree now (r ∷ rows) t parents = at (r.tag.0 == t) refl (rows_taken tree now rows t parents)
  where
    moved : (o : Option ℕ) → parent_of now r.tag.0 ≡ cond (is_child_of t o) (parent_of tree t) o → row_in now r ≡ moved_up_row t (parent_of tree t) (record { tag = r.tag.0; parent = o; guard = r.guard; made = r.made; states = r.states })
    moved o is = ap (λ p. record { tag = r.tag.0; parent = p; guard = r.guard; made = r.made; states = r.states }) is ∙ one (is_child_of t o)
      where
        one : (b : Bool) → ◌≡◌ {A = Row} (record { tag = r.tag.0; parent = cond b (parent_of tree t) o; guard = r.guard; made = r.made; states = r.states }) (cond b (record { tag = r.tag.0; parent = parent_of tree t; guard = r.guard; made = r.made; states = r.states }) (record { tag = r.tag.0; parent = o; guard = r.guard; made = r.made; states = r.states }))
        one true = refl
        one false = refl

    at : (b : Bool) → (r.tag.0 == t) ≡ b → rows_in now (others_plain t rows) ≡ map (moved_up_row t (parent_of tree t)) (filter (λ row. not (is_tag t row)) (rows_in tree rows)) → rows_in now (cond (not b) (r ∷ others_plain t rows) (others_plain t rows)) ≡ map (moved_up_row t (parent_of tree t)) (cond (not b) (row_in tree r ∷ filter (λ row. not (is_tag t row)) (rows_in tree rows)) (filter (λ row. not (is_tag t row)) (rows_in tree rows)))
    at true is later = later
    at false is later =
        let differs : t ≢ r.tag.0 = λ same. let clash : true ≡ false = sym (eq-eqb r.tag.0 t (sym same)) ∙ is in absurd (cc) in
        ap (λ x. x ∷ rows_in now (others_plain t rows)) (moved (parent_of tree r.tag.0) (parents r.tag.0 differs)) ∙ ap (λ xs. moved_up_row t (parent_of tree t) (row_in tree r) ∷ xs) later

-- the rows that are left are the rows without the tag
pub rows-removed : (tree now : Keys) (rows : List PlainRow) (size t : ℕ) → IsPlain tree rows size → ((q : ℕ) → t ≢ q → parent_of now q ≡ cond (is_child_of t (parent_of tree q)) (parent_of tree t) (parent_of tree q)) → rows_in now (others_plain t rows) ≡ removed (rows_in tree rows) t
rows-removed tree now rows size t is parents =
    rows_taken tree now rows t parents ∙ ap (λ o. map (moved_up_row t o) (filter (λ row. not (is_tag t row)) (rows_in tree rows))) (sym (parent_in-tree tree rows size t is))

pub IsPlain-removed : (tree now : Keys) (rows : List PlainRow) (size t p : ℕ) → IsPlain tree rows size → parent_of tree t ≡ Some p → ((q : ℕ) → t ≢ q → parent_of now q ≡ cond (is_child_of t (parent_of tree q)) (parent_of tree t) (parent_of tree q)) → keys_of now ≡ other_keys t (keys_of tree) → IsPlain now (others_plain t rows) size
IsPlain-removed tree now rows size t p is up parents keys =
    record {
      sound = subst (IsRows size) (sym (rows-removed tree now rows size t is parents)) (IsRows-removed size (rows_in tree rows) t p is.sound (parent_in-tree tree rows size t is ∙ up));
      keys = keys ∙ ap (other_keys t) is.keys ∙ sym (tags_others rows t);
    }

pub notes-removed : (rows : List PlainRow) (t : ℕ) → notes_of (others_plain t rows) ≡ forgotten (notes_of rows) t
notes-removed [] t = refl
notes-removed (r ∷ rows) t = at (r.tag.0 == t) refl r.noted refl (notes-removed rows t)
  where
    at : (b : Bool) → (r.tag.0 == t) ≡ b → (n : Bool) → r.noted ≡ n → notes_of (others_plain t rows) ≡ forgotten (notes_of rows) t → notes_of (cond (not b) (r ∷ others_plain t rows) (others_plain t rows)) ≡ forgotten (map (λ (x : PlainRow). x.tag.0) (cond r.noted (r ∷ filter (λ (x : PlainRow). x.noted) rows) (filter (λ (x : PlainRow). x.noted) rows))) t
    at true same true is later = rw is (later ∙ sym (ap (λ b. cond (not b) (r.tag.0 ∷ forgotten (notes_of rows) t) (forgotten (notes_of rows) t)) same))
    at true same false is later = rw is later
    at false differs true is later = rw is (ap (λ xs. r.tag.0 ∷ xs) later ∙ sym (ap (λ b. cond (not b) (r.tag.0 ∷ forgotten (notes_of rows) t) (forgotten (notes_of rows) t)) differs))
    at false differs false is later = rw is later
