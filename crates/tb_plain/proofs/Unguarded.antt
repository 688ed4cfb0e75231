-- The end of a guard.
use Rattle.std.proofs.Common.{◌≡◌, ◌∙◌, ℕ, Bool, true, false, cond, List, [], ◌∷◌, map, refl, ap, sym, subst}
use Rattle.tb_perm.specs.declared.perm.Guard.TheVariants.{Free}
use Rattle.tb_perm.specs.Rows.{IsRows, unguarded, unguarded_row}
use Rattle.tb_perm.proofs.Kept.{IsRows-unguarded}
use Rattle.tb_shape.specs.Tree.{Keys}
use Rattle.tb_plain.specs.declared.row.PlainRow.{PlainRow}
use Rattle.tb_plain.specs.Plain.{row_in, rows_in, IsPlain, notes_of}
use Rattle.tb_plain.specs.Sweep.{is_plain}
use Rattle.tb_plain.specs.Changes.{unguarded_plain}

pub rows-unguarded : (tree : Keys) (rows : List PlainRow) (t : ℕ) → rows_in tree (map (unguarded_plain t) rows) ≡ unguarded (rows_in tree rows) t
rows-unguarded tree [] t = refl
rows-unguarded tree (r ∷ rows) t = ap (λ x. x ∷ rows_in tree (map (unguarded_plain t) rows)) (at (is_plain t r)) ∙ ap (λ xs. unguarded_row t (row_in tree r) ∷ xs) (rows-unguarded tree rows t)
  where
    at : (b : Bool) → row_in tree (cond b (record r { guard = Free }) r) ≡ cond b (record (row_in tree r) { guard = Free }) (row_in tree r)
    at true = refl
    at false = refl

pub tags-unguarded : (rows : List PlainRow) (t : ℕ) → map (λ (r : PlainRow). r.tag.0) (map (unguarded_plain t) rows) ≡ map (λ (r : PlainRow). r.tag.0) rows
tags-unguarded [] t = refl
tags-unguarded (r ∷ rows) t = ap (λ k. k ∷ map (λ (x : PlainRow). x.tag.0) (map (unguarded_plain t) rows)) (at (is_plain t r)) ∙ ap (λ xs. r.tag.0 ∷ xs) (tags-unguarded rows t)
  where
    at : (b : Bool) → (cond b (record r { guard = Free }) r).tag.0 ≡ r.tag.0
    at true = refl
    at false = refl

pub notes-unguarded : (rows : List PlainRow) (t : ℕ) → notes_of (map (unguarded_plain t) rows) ≡ notes_of rows
notes-unguarded [] t = refl
notes-unguarded (r ∷ rows) t = at (notes-unguarded rows t) (is_plain t r) r.noted refl
  where
    at : notes_of (map (unguarded_plain t) rows) ≡ notes_of rows → (b n : Bool) → r.noted ≡ n → notes_of (cond b (record r { guard = Free }) r ∷ map (unguarded_plain t) rows) ≡ notes_of (r ∷ rows)
    at later true true is = rw is (ap (λ xs. r.tag.0 ∷ xs) later)
    at later true false is = rw is later
    at later false true is = rw is (ap (λ xs. r.tag.0 ∷ xs) later)
    at later false false is = rw is later

pub IsPlain-unguarded : (tree : Keys) (rows now : List PlainRow) (size t : ℕ) → IsPlain tree rows size → now ≡ map (unguarded_plain t) rows → IsPlain tree now size
IsPlain-unguarded tree rows now size t is changed =
    subst (λ xs. IsPlain tree xs size) (sym changed) (record {
      sound = subst (IsRows size) (sym (rows-unguarded tree rows t)) (IsRows-unguarded size (rows_in tree rows) t is.sound);
      keys = is.keys ∙ sym (tags-unguarded rows t);
    })
