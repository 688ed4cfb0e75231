-- The notes of plain rows are tags of theirs.
use Rattle.std.proofs.Common.{◌≡◌, ◌||◌, ℕ, ◌<◌, Bool, true, false, cond, List, [], ◌∷◌, map, filter, refl, ap, ◌∙◌, arith, All, OnOk, ◌==◌, Ok, Err, Result}
use Rattle.std.specs.List.{list_any, AllByRecursion}
use Rattle.std.proofs.lemmas.Bool.{eq-eqb, ne_eqb, or_right}
use Rattle.std.proofs.lemmas.List.Elements.{recursion_from_All}
use Rattle.tb_perm.specs.Rows.{Row, is_tag, HasTag}
use Rattle.tb_perm.specs.Pruning.{is_noted}
use Rattle.tb_perm.specs.Calls.{IsTree}
use Rattle.tb_shape.specs.Tree.{Keys}
use Rattle.tb_plain.specs.declared.row.PlainRow.{PlainRow}
use Rattle.tb_plain.specs.Plain.{rows_in, IsPlain, notes_of}

-- tags of the older rows are tags of all rows
later : (tree : Keys) (r : PlainRow) (rows : List PlainRow) (notes : List ℕ) → AllByRecursion (HasTag (rows_in tree rows)) notes → AllByRecursion (HasTag (rows_in tree (r ∷ rows))) notes
later tree r rows [] all = tt
later tree r rows (k ∷ notes) all = (or_right (r.tag.0 == k) _ all.0, later tree r rows notes all.1)

notes_are_tags : (tree : Keys) (rows : List PlainRow) → AllByRecursion (HasTag (rows_in tree rows)) (notes_of rows)
notes_are_tags tree [] = tt
notes_are_tags tree (r ∷ rows) = at r.noted (later tree r rows (notes_of rows) (notes_are_tags tree rows))
  where
    at : (b : Bool) → AllByRecursion (HasTag (rows_in tree (r ∷ rows))) (notes_of rows) → AllByRecursion (HasTag (rows_in tree (r ∷ rows))) (map (λ (x : PlainRow). x.tag.0) (cond b (r ∷ filter (λ (x : PlainRow). x.noted) rows) (filter (λ (x : PlainRow). x.noted) rows)))
    at true all = (ap (λ b. b || list_any (is_tag r.tag.0) (rows_in tree rows)) (eq-eqb r.tag.0 r.tag.0 refl), all)
    at false all = all

pub IsTree-plain : (tree : Keys) (rows : List PlainRow) (size : ℕ) → IsPlain tree rows size → IsTree size (rows_in tree rows) (notes_of rows)
IsTree-plain tree rows size is = record { grown = is.sound; noted = notes_are_tags tree rows }

-- a tag above all rows is not noted
not_noted : (tree : Keys) (rows : List PlainRow) (t : ℕ) → AllByRecursion (λ (row : Row). row.tag < t) (rows_in tree rows) → is_noted (notes_of rows) t ≡ false
not_noted tree [] t above = refl
not_noted tree (r ∷ rows) t above = at r.noted (not_noted tree rows t above.1)
  where
    at : (b : Bool) → is_noted (notes_of rows) t ≡ false → is_noted (map (λ (x : PlainRow). x.tag.0) (cond b (r ∷ filter (λ (x : PlainRow). x.noted) rows) (filter (λ (x : PlainRow). x.noted) rows))) t ≡ false
    at true rest = ap (λ b. b || is_noted (notes_of rows) t) (ne_eqb r.tag.0 t (λ same. absurd (omega (arith, same, above.0)))) ∙ rest
    at false rest = rest

pub fresh_note : (tree : Keys) (rows : List PlainRow) (t : ℕ) → All (λ (row : Row). row.tag < t) (rows_in tree rows) → is_noted (notes_of rows) t ≡ false
fresh_note tree rows t above = not_noted tree rows t (recursion_from_All (λ (row : Row). row.tag < t) (rows_in tree rows) above)

pub on_ok : {T E : Type 0} (r : Result T E) (P : Type 0) → P → OnOk r P
on_ok (Ok done) P p = p
on_ok (Err e) P p = tt
