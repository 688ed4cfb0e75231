-- A tree that is taken out, changed, and put back.
use Rattle.std.proofs.Common.{◌≡◌, refl, sym, ◌∙◌, ap, subst, ℕ, zero, suc, ◌+◌, ◌-◌, ◌<◌, ◌≤◌, List, [], ◌∷◌, ◌++◌, length, take, map, Option, Some, None, arith}
use Rattle.std.specs.List.{take-map}
use Rattle.std.proofs.lemmas.List.{length-append, length-map}
use Rattle.tb_perm.specs.Rows.{Row, HasTag, IsRows}
use Rattle.tb_store.specs.Store.{nth, with_nth}
use Rattle.tb_store.proofs.Places.{nth_map, map_with, with_twice, with_found}
use Rattle.tb_forest.specs.Forest.{TreeRows, no_tree, tree_at, changed, felled, tree_in, AreKept}

module _ {T : Type 0} (rows : T → List Row) (extent : T → ℕ) (notes : T → List ℕ) where
  abbrev pub seen : List (Option T) → List TreeRows
  seen trees = map (tree_in rows extent) trees

  pub seen_at : (trees : List (Option T)) (number : ℕ) (entry : Option T) → entry ≡ nth trees number None → tree_at (seen trees) number ≡ tree_in rows extent entry
  seen_at trees number entry e = nth_map (tree_in rows extent) trees number None ∙ ap (tree_in rows extent) (sym e)

  pub put_back : (trees took put : List (Option T)) (number : ℕ) (now : T) → took ≡ with_nth trees number None → put ≡ with_nth took number (Some now) → seen put ≡ with_nth (seen trees) number (tree_in rows extent (Some now))
  put_back trees took put number now e f =
      ap seen (f ∙ ap (λ (list : List (Option T)). with_nth list number (Some now)) e ∙ with_twice trees number None (Some now)) ∙ map_with (tree_in rows extent) trees number (Some now)

  -- the tree that was taken out, as its rows
  pub was : (trees : List (Option T)) (number : ℕ) (entry : Option T) (tree : T) (forest : List TreeRows) → seen trees ≡ forest → entry ≡ nth trees number None → entry ≡ Some tree → tree_in rows extent (Some tree) ≡ tree_at forest number
  was trees number entry tree forest view found is = sym (seen_at trees number entry found ∙ ap (tree_in rows extent) is) ∙ ap (λ (f : List TreeRows). tree_at f number) view

  -- it is put back with other rows
  pub turned : (trees took put : List (Option T)) (number : ℕ) (entry : Option T) (tree now : T) (forest : List TreeRows) (change : TreeRows → List Row) → seen trees ≡ forest → entry ≡ nth trees number None → entry ≡ Some tree
      → took ≡ with_nth trees number None → put ≡ with_nth took number (Some now) → extent now ≡ extent tree → rows now ≡ change (tree_in rows extent (Some tree)) → seen put ≡ changed forest number change
  turned trees took put number entry tree now forest change view found is e f same_extent same_rows =
      put_back trees took put number now e f
      ∙ ap (with_nth (seen trees) number)
      (ap (λ n. record { size = n; rows = rows now }) same_extent ∙ ap (λ (list : List Row). record { size = extent tree; rows = list }) same_rows
      ∙ ap (λ (t : TreeRows). record t { rows = change t }) (was trees number entry tree forest view found is))
      ∙ ap (λ (f : List TreeRows). with_nth f number (record (tree_at forest number) { rows = change (tree_at forest number) })) view

  -- or as it was
  pub unturned : (trees took put : List (Option T)) (number : ℕ) (entry : Option T) (tree now : T) (forest : List TreeRows) → seen trees ≡ forest → 0 < number → number ≤ length forest → entry ≡ nth trees number None → entry ≡ Some tree
      → took ≡ with_nth trees number None → put ≡ with_nth took number (Some now) → extent now ≡ extent tree → rows now ≡ rows tree → seen put ≡ forest
  unturned trees took put number entry tree now forest view low high found is e f same_extent same_rows =
      put_back trees took put number now e f ∙ ap (λ (f : List TreeRows). with_nth f number (tree_in rows extent (Some now))) view
      ∙ with_found forest number (tree_in rows extent (Some now)) no_tree
      (sym (was trees number entry tree forest view found is) ∙ ap (λ n. record { size = n; rows = rows tree }) (sym same_extent) ∙ ap (λ (list : List Row). record { size = extent now; rows = list }) (sym same_rows))
      (omega arith) high

  -- or not at all
  pub felled_is : (trees took : List (Option T)) (number : ℕ) (forest : List TreeRows) → seen trees ≡ forest → took ≡ with_nth trees number None → seen took ≡ felled forest number
  felled_is trees took number forest view e = ap seen e ∙ map_with (tree_in rows extent) trees number None ∙ ap (λ (f : List TreeRows). felled f number) view

  -- each tree has rows for its bytes
  pub all_rows : (trees : List (Option T)) → AreKept rows extent notes trees → (number t : ℕ) → HasTag (tree_at (seen trees) number).rows t → IsRows (tree_at (seen trees) number).size (tree_at (seen trees) number).rows
  all_rows trees kept zero t has = cc
  all_rows [] kept (suc i) t has = cc
  all_rows (None ∷ trees) kept (suc zero) t has = cc
  all_rows (Some tree ∷ trees) kept (suc zero) t has = kept.0.grown
  all_rows (x ∷ trees) kept (suc (suc i)) t has = all_rows trees kept.1 (suc i) t has

  -- the last one is taken back
  kept_take : (n : ℕ) (trees : List (Option T)) → AreKept rows extent notes trees → AreKept rows extent notes (take n trees)
  kept_take zero [] kept = tt
  kept_take zero (x ∷ trees) kept = tt
  kept_take (suc n) [] kept = tt
  kept_take (suc n) (x ∷ trees) kept = (kept.0, kept_take n trees kept.1)

  pub kept_back : (n : ℕ) (trees left : List (Option T)) → AreKept rows extent notes trees → left ≡ take n trees → AreKept rows extent notes left
  kept_back n trees left kept e = subst (AreKept rows extent notes) (sym e) (kept_take n trees kept)

  front_of : (front : List TreeRows) (last : TreeRows) (n : ℕ) → suc n ≡ length (front ++ last ∷ []) → take n (front ++ last ∷ []) ≡ front
  front_of [] last zero e = refl
  front_of [] last (suc n) e = absurd (omega arith)
  front_of (x ∷ front) last zero e = let more : length (front ++ last ∷ []) ≡ length front + 1 = length-append front (last ∷ []) in absurd (omega arith)
  front_of (x ∷ front) last (suc n) e = ap (λ (rest : List TreeRows). x ∷ rest) (front_of front last n (omega arith))

  pub taken_back : (len : ℕ) (trees left : List (Option T)) (forest front : List TreeRows) (last : TreeRows) → seen trees ≡ forest → left ≡ take (len - 1) trees → len ≡ length trees → forest ≡ front ++ last ∷ [] → seen left ≡ front
  taken_back len trees left forest front last view e long is =
      let same : length (seen trees) ≡ length trees = length-map trees (tree_in rows extent) in
      let all : length (seen trees) ≡ length (front ++ last ∷ []) = ap length (view ∙ is) in
      let more : length (front ++ last ∷ []) ≡ length front + 1 = length-append front (last ∷ []) in
      ap seen e ∙ sym (take-map (tree_in rows extent) (len - 1) trees) ∙ ap (take (len - 1)) (view ∙ is) ∙ front_of front last (len - 1) (let whole : suc (len - 1) ≡ length (front ++ last ∷ []) = omega arith in whole)
