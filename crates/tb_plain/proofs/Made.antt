-- A new tag behind the rows.
use Rattle.std.proofs.Common.{◌≡◌, ◌∙◌, ◌≢◌, ◌||◌, ℕ, ◌<◌, true, false, cond, List, [], ◌∷◌, ◌++◌, map, filter, refl, ap, sym, subst, arith, Option, Some, None, find, ◌==◌, All, inl}
use Rattle.std.specs.Prelude.{option_and_then}
use Rattle.std.specs.Option.{option_or}
use Rattle.std.specs.List.{list_any, AllByRecursion, range_with_len}
use Rattle.std.proofs.lemmas.Bool.{eq-eqb, lt-ltb, ne_eqb}
use Rattle.std.proofs.lemmas.List.{map-append, append-nil}
use Rattle.std.proofs.lemmas.List.Elements.{recursion_from_All, filter-append}
use Rattle.std.proofs.lemmas.List.Folds.{find-append}
use Rattle.tb_perm.specs.declared.new_tag.NewTag.{NewTag}
use Rattle.tb_perm.specs.Rows.{Row, HasTag, IsRows}
use Rattle.tb_perm.specs.Event.{after}
use Rattle.tb_perm.specs.Reborrow.{reborrow_event, reborrowed, reborrowed_rows, new_row, new_state}
use Rattle.tb_perm.specs.Answer.{BetweenOrMade}
use Rattle.tb_perm.proofs.Kept.{IsRows-reborrowed, Between-old_after}
use Rattle.tb_shape.specs.Tree.{Keys, is_key, HasKey, parent_of, with_child}
use Rattle.tb_plain.specs.declared.row.PlainRow.{PlainRow}
use Rattle.tb_plain.specs.declared.sweep.Sweep.{Sweep}
use Rattle.tb_plain.specs.Plain.{row_in, rows_in, IsPlain, notes_of}
use Rattle.tb_plain.specs.Fits.{Fits}
use Rattle.tb_plain.specs.Sweep.{swept}
use Rattle.tb_plain.specs.Changes.{IsMade}
use Rattle.tb_plain.proofs.Reports.{after-swept, tags-swept, notes-swept}

-- a key above all others comes last
pub with_child-last : (parent key : ℕ) (tree : Keys) → AllByRecursion (λ (e : ℕ × Option ℕ). e.0 < key) tree → with_child parent key tree ≡ tree ++ (key, Some parent) ∷ []
with_child-last parent key [] all = refl
with_child-last parent key (e ∷ tree) all =
    ap (λ b. cond b (e ∷ with_child parent key tree) ((key, Some parent) ∷ e ∷ tree)) (lt-ltb e.0 key all.0) ∙ ap (λ es. e ∷ es) (with_child-last parent key tree all.1)

keys_below : (key : ℕ) (tree : Keys) (keys : List ℕ) → map (λ (e : ℕ × Option ℕ). e.0) tree ≡ keys → AllByRecursion (λ k. k < key) keys → AllByRecursion (λ (e : ℕ × Option ℕ). e.0 < key) tree
keys_below key [] keys same all = tt
keys_below key (e ∷ tree) [] same all = cc
keys_below key (e ∷ tree) (k ∷ keys) same all =
    let head : e.0 ≡ k = cc in
    let rest : map (λ (x : ℕ × Option ℕ). x.0) tree ≡ keys = cc in
    (omega (arith, head, all.0), keys_below key tree keys rest all.1)

tags_below_key : (tree : Keys) (key : ℕ) (rows : List PlainRow) → AllByRecursion (λ (row : Row). row.tag < key) (rows_in tree rows) → AllByRecursion (λ k. k < key) (map (λ (r : PlainRow). r.tag.0) rows)
tags_below_key tree key [] all = tt
tags_below_key tree key (r ∷ rows) all = (all.0, tags_below_key tree key rows all.1)

pub all_below : (tree : Keys) (rows : List PlainRow) (size key : ℕ) → IsPlain tree rows size → All (λ (row : Row). row.tag < key) (rows_in tree rows) → AllByRecursion (λ (e : ℕ × Option ℕ). e.0 < key) tree
all_below tree rows size key is above =
    keys_below key tree (map (λ (r : PlainRow). r.tag.0) rows) is.keys (tags_below_key tree key rows (recursion_from_All (λ (row : Row). row.tag < key) (rows_in tree rows) above))

none_below : (key : ℕ) (tree : Keys) → AllByRecursion (λ (e : ℕ × Option ℕ). e.0 < key) tree → find (is_key key) tree ≡ None
none_below key [] all = refl
none_below key (e ∷ tree) all = ap (λ b. cond b (Some e) (find (is_key key) tree)) (ne_eqb e.0 key (omega (arith, all.0))) ∙ none_below key tree all.1

pub fresh_key : (key : ℕ) (tree : Keys) → AllByRecursion (λ (e : ℕ × Option ℕ). e.0 < key) tree → HasKey tree key → ⊥
fresh_key key [] all has = cc
fresh_key key (e ∷ tree) all has = at (ne_eqb e.0 key (omega (arith, all.0))) (fresh_key key tree all.1)
  where
    at : (e.0 == key) ≡ false → (HasKey tree key → ⊥) → ⊥
    at differs later = later (subst (λ b. (b || list_any (is_key key) tree) ≡ true) differs has)

or_none : {X : Type 0} (o : Option X) → option_or o None ≡ o
or_none None = refl
or_none (Some x) = refl

-- the parents with the new key
parent_other : (parent key q : ℕ) (tree : Keys) → key ≢ q → parent_of (tree ++ (key, Some parent) ∷ []) q ≡ parent_of tree q
parent_other parent key q tree differs =
    ap (option_and_then (λ (e : ℕ × Option ℕ). e.1)) (find-append (is_key q) tree ((key, Some parent) ∷ []) ∙ ap (λ b. option_or (find (is_key q) tree) (cond {A = Option (ℕ × Option ℕ)} b (Some (key, Some parent)) None)) (ne_eqb key q differs) ∙ or_none (find (is_key q) tree))

parent_new : (parent key : ℕ) (tree : Keys) → AllByRecursion (λ (e : ℕ × Option ℕ). e.0 < key) tree → parent_of (tree ++ (key, Some parent) ∷ []) key ≡ Some parent
parent_new parent key tree all =
    ap (option_and_then (λ (e : ℕ × Option ℕ). e.1)) (find-append (is_key key) tree ((key, Some parent) ∷ []) ∙ ap (λ o. option_or o (find (is_key key) ((key, Some parent) ∷ []))) (none_below key tree all) ∙ ap (λ b. cond {A = Option (ℕ × Option ℕ)} b (Some (key, Some parent)) None) (eq-eqb key key refl))

rows_other : (parent key : ℕ) (tree : Keys) (rows : List PlainRow) → AllByRecursion (λ k. k < key) (map (λ (r : PlainRow). r.tag.0) rows) → rows_in (tree ++ (key, Some parent) ∷ []) rows ≡ rows_in tree rows
rows_other parent key tree [] all = refl
rows_other parent key tree (r ∷ rows) all =
    ap (λ o. record { tag = r.tag.0; parent = o; guard = r.guard; made = r.made; states = r.states } ∷ rows_in (tree ++ (key, Some parent) ∷ []) rows) (parent_other parent key r.tag.0 tree (λ same. absurd (omega (arith, same, all.0))))
    ∙ ap (λ xs. row_in tree r ∷ xs) (rows_other parent key tree rows all.1)

module _ (tree : Keys) (rows : List PlainRow) (size : ℕ) (new : NewTag) (row : PlainRow) (sweep : Sweep) (is : IsPlain tree rows size) (has : HasTag (rows_in tree rows) new.parent.0) (above : All (λ (r : Row). r.tag < new.tag.0) (rows_in tree rows)) (fits : Fits tree rows size (reborrow_event new) sweep) (made : IsMade size new row) where
  below : AllByRecursion (λ (e : ℕ × Option ℕ). e.0 < new.tag.0) tree
  below = all_below tree rows size new.tag.0 is above

  tags_below : AllByRecursion (λ k. k < new.tag.0) (map (λ (r : PlainRow). r.tag.0) (map (swept sweep) rows))
  tags_below = subst (AllByRecursion (λ k. k < new.tag.0)) (sym (tags-swept sweep rows)) (tags_below_key tree new.tag.0 rows (recursion_from_All (λ (r : Row). r.tag < new.tag.0) (rows_in tree rows) above))

  made_row : row_in (tree ++ (new.tag.0, Some new.parent.0) ∷ []) row ≡ new_row size new
  made_row = ap (row_in (tree ++ (new.tag.0, Some new.parent.0) ∷ [])) made ∙ ap (λ o. record { tag = new.tag.0; parent = o; guard = new.guard; made = new.made; states = map (new_state new) (range_with_len 0 size) }) (parent_new new.parent.0 new.tag.0 tree below)

  rows_at_end : rows_in (tree ++ (new.tag.0, Some new.parent.0) ∷ []) (map (swept sweep) rows ++ row ∷ []) ≡ reborrowed (rows_in tree rows) size new
  rows_at_end =
      map-append (row_in (tree ++ (new.tag.0, Some new.parent.0) ∷ [])) (map (swept sweep) rows) (row ∷ [])
      ∙ ap (λ xs. xs ++ row_in (tree ++ (new.tag.0, Some new.parent.0) ∷ []) row ∷ []) (rows_other new.parent.0 new.tag.0 tree (map (swept sweep) rows) tags_below ∙ after-swept tree rows size (reborrow_event new) sweep is fits)
      ∙ ap (λ x. after (reborrow_event new) (rows_in tree rows) ++ x ∷ []) made_row

  -- the rows of the tree with the new tag
  pub rows_made : (shape : Keys) (items : List PlainRow) → shape ≡ with_child new.parent.0 new.tag.0 tree → items ≡ map (swept sweep) rows ++ row ∷ [] → rows_in shape items ≡ reborrowed (rows_in tree rows) size new
  rows_made shape items is_shape is_items =
      ap (rows_in shape) is_items ∙ ap (λ t. rows_in t (map (swept sweep) rows ++ row ∷ [])) (is_shape ∙ with_child-last new.parent.0 new.tag.0 tree below) ∙ rows_at_end

  pub notes_made : (items : List PlainRow) → items ≡ map (swept sweep) rows ++ row ∷ [] → notes_of items ≡ notes_of rows
  notes_made items is_items =
      ap notes_of is_items
      ∙ ap (map (λ (r : PlainRow). r.tag.0)) (filter-append (λ (r : PlainRow). r.noted) (map (swept sweep) rows) (row ∷ []))
      ∙ ap (λ xs. map (λ (r : PlainRow). r.tag.0) (filter (λ (r : PlainRow). r.noted) (map (swept sweep) rows) ++ xs)) (ap (λ (r : PlainRow). filter (λ (x : PlainRow). x.noted) (r ∷ [])) made)
      ∙ map-append (λ (r : PlainRow). r.tag.0) (filter (λ (r : PlainRow). r.noted) (map (swept sweep) rows)) []
      ∙ append-nil _
      ∙ notes-swept sweep rows

  pub IsPlain-made : (shape : Keys) (items : List PlainRow) → shape ≡ with_child new.parent.0 new.tag.0 tree → items ≡ map (swept sweep) rows ++ row ∷ [] → IsPlain shape items size
  IsPlain-made shape items is_shape is_items =
      record {
        sound = subst (IsRows size) (sym (rows_made shape items is_shape is_items)) (IsRows-reborrowed size (rows_in tree rows) new is.sound has above);
        keys =
            ap (map (λ (e : ℕ × Option ℕ). e.0)) (is_shape ∙ with_child-last new.parent.0 new.tag.0 tree below)
            ∙ map-append (λ (e : ℕ × Option ℕ). e.0) tree ((new.tag.0, Some new.parent.0) ∷ [])
            ∙ ap (λ ks. ks ++ new.tag.0 ∷ []) (is.keys ∙ sym (tags-swept sweep rows))
            ∙ ap (λ (r : PlainRow). map (λ (x : PlainRow). x.tag.0) (map (swept sweep) rows) ++ r.tag.0 ∷ []) (sym made)
            ∙ sym (map-append (λ (r : PlainRow). r.tag.0) (map (swept sweep) rows) (row ∷ []))
            ∙ ap (map (λ (r : PlainRow). r.tag.0)) (sym is_items);
      }

-- rows that nothing has changed, for a reborrow
pub old_or_made : (old now : List Row) (size : ℕ) (new : NewTag) → now ≡ old → BetweenOrMade old (reborrowed_rows old new) (new_row size new) now
old_or_made old now size new same = (old, Between-old_after (reborrow_event new) old, inl same)
