-- How the guards of a tree go on agreeing with those of the running calls.
use Rattle.std.proofs.Common.{◌≡◌, ◌∙◌, ◌||◌, ◌&&◌, ◌++◌, ℕ, ◌<◌, Bool, true, false, cond, List, [], ◌∷◌, refl, ap, sym, subst, arith, Some, None, find, All, ◌==◌}
use Rattle.std.specs.Prelude.{option_map, unwrap_or}
use Rattle.std.specs.List.{list_any, AllByRecursion}
use Rattle.std.proofs.lemmas.Bool.{eqb-true, eq-eqb, ne_eqb}
use Rattle.std.proofs.lemmas.List.Elements.{recursion_from_All}
use Rattle.std.proofs.lemmas.List.Folds.{list_any-append}
use Rattle.tb_perm.specs.declared.tag.AllocId.{AllocId}
use Rattle.tb_perm.specs.declared.tag.Prov.{Prov}
use Rattle.tb_perm.specs.declared.perm.Guard.TheVariants.{Free}
use Rattle.tb_perm.specs.declared.new_tag.NewTag.{NewTag}
use Rattle.tb_perm.specs.Rows.{Row, is_tag, HasTag, guard_in}
use Rattle.tb_perm.specs.Event.{Event, after}
use Rattle.tb_perm.specs.Reborrow.{reborrow_event, reborrowed, reborrowed_rows, new_row}
use Rattle.tb_perm.proofs.Found.{guard_in-after}
use Rattle.tb_perm.proofs.Kept.{list_any-KeepsTree, after-keeps, All_tags-kept}
use Rattle.tb_protect.specs.Frames.{Frames, kind_of, is_prov}
use Rattle.tb_stands.specs.Folded.{Prunes}
use Rattle.tb_stands.proofs.Ways.{own_keeps, own_has}
use Rattle.tb_stands.proofs.Folds.{guard_own}
use Rattle.tb_stands.proofs.Made.{find_append}
use Rattle.tb_prune.specs.Guards.{GuardsAre}

has_before : (event : Event) (rows : List Row) (t : ℕ) → HasTag (after event rows) t → HasTag rows t
has_before event rows t has = sym (list_any-KeepsTree rows (after event rows) t (after-keeps event rows)) ∙ has

pub guards_event : (frames : Frames) (alloc : AllocId) (event : Event) (rows : List Row) → GuardsAre frames alloc rows → GuardsAre frames alloc (after event rows)
guards_event frames alloc event rows guards t has = guard_in-after event rows t ∙ guards t (has_before event rows t has)

pub guards_pruned : (frames : Frames) (alloc : AllocId) (size : ℕ) (rows left : List Row) (reached : List ℕ) → GuardsAre frames alloc rows → Prunes size reached rows left → GuardsAre frames alloc left
guards_pruned frames alloc size rows left reached guards pruned t has =
    let there = subst (λ o. HasTag o t) pruned.2 has in
    ap (λ o. guard_in o t) pruned.2 ∙ guard_own pruned.0 rows t (own_keeps pruned.0 rows t there) ∙ guards t (own_has pruned.0 rows t there)

find_last : (rows : List Row) (row : Row) (t : ℕ) → row.tag ≡ t → AllByRecursion (λ (o : Row). o.tag < t) rows → find (is_tag t) (rows ++ row ∷ []) ≡ Some row
find_last [] row t same above = ap (λ b. cond b (Some row) None) (eq-eqb row.tag t same)
find_last (x ∷ rows) row t same above =
    ap (λ b. cond b (Some x) (find (is_tag t) (rows ++ row ∷ []))) (ne_eqb x.tag t (λ equal. absurd (omega (arith, equal, above.0)))) ∙ find_last rows row t same above.1

module _ (frames now : Frames) (alloc : AllocId) (size : ℕ) (rows : List Row) (new : NewTag) (guards : GuardsAre frames alloc rows) (above : All (λ (row : Row). row.tag < new.tag.0) rows) (kinds : (asked : Prov) → kind_of now asked ≡ cond (is_prov asked (record { alloc = alloc; tag = new.tag })) new.guard (kind_of frames asked)) where
  below : AllByRecursion (λ (row : Row). row.tag < new.tag.0) rows
  below = recursion_from_All (λ (row : Row). row.tag < new.tag.0) rows above

  pub guards_made : GuardsAre now alloc (reborrowed rows size new)
  guards_made t has = at (new.tag.0 == t) refl (list_any (is_tag t) (reborrowed_rows rows new)) refl (sym (list_any-append (is_tag t) (reborrowed_rows rows new) (new_row size new ∷ [])) ∙ has)
    where
      fresh : new.tag.0 ≡ t → guard_in (reborrowed rows size new) t ≡ new.guard
      fresh same = ap (λ o. unwrap_or (option_map (λ (row : Row). row.guard) o) Free) (find_last (reborrowed_rows rows new) (new_row size new) t same (subst (λ k. AllByRecursion (λ (o : Row). o.tag < k) (reborrowed_rows rows new)) same (All_tags-kept (λ k. k < new.tag.0) rows (reborrowed_rows rows new) (after-keeps (reborrow_event new) rows) below)))

      old : HasTag (reborrowed_rows rows new) t → guard_in (reborrowed rows size new) t ≡ kind_of frames (record { alloc = alloc; tag = record { 0 = t } })
      old there =
          ap (λ o. unwrap_or (option_map (λ (row : Row). row.guard) o) Free) (find_append (reborrowed_rows rows new) (new_row size new) t there)
          ∙ guards_event frames alloc (reborrow_event new) rows guards t there

      kind : kind_of now (record { alloc = alloc; tag = record { 0 = t } }) ≡ cond (new.tag.0 == t) new.guard (kind_of frames (record { alloc = alloc; tag = record { 0 = t } }))
      kind =
          kinds (record { alloc = alloc; tag = record { 0 = t } })
          ∙ ap (λ b. cond (b && new.tag.0 == t) new.guard (kind_of frames (record { alloc = alloc; tag = record { 0 = t } }))) (eq-eqb alloc.0 alloc.0 refl)

      at : (b : Bool) → (new.tag.0 == t) ≡ b → (c : Bool) → list_any (is_tag t) (reborrowed_rows rows new) ≡ c → (c || (b || false)) ≡ true → guard_in (reborrowed rows size new) t ≡ kind_of now (record { alloc = alloc; tag = record { 0 = t } })
      at true same c is either = fresh (eqb-true new.tag.0 t same) ∙ sym (kind ∙ ap (λ b. cond b new.guard (kind_of frames (record { alloc = alloc; tag = record { 0 = t } }))) same)
      at false other true there either = old there ∙ sym (kind ∙ ap (λ b. cond b new.guard (kind_of frames (record { alloc = alloc; tag = record { 0 = t } }))) other)
      at false other false none either = absurd (let clash : false ≡ true = either in cc)

-- a free tag is guarded by no call
pub guards_free : (frames : Frames) (alloc : AllocId) (size : ℕ) (rows : List Row) (new : NewTag) → GuardsAre frames alloc rows → All (λ (row : Row). row.tag < new.tag.0) rows → new.guard ≡ Free → kind_of frames (record { alloc = alloc; tag = new.tag }) ≡ Free → GuardsAre frames alloc (reborrowed rows size new)
guards_free frames alloc size rows new guards above free none = guards_made frames frames alloc size rows new guards above kinds
  where
    same : (asked : Prov) → is_prov asked (record { alloc = alloc; tag = new.tag }) ≡ true → kind_of frames asked ≡ Free
    same asked is = at (alloc.0 == asked.alloc.0) refl (new.tag.0 == asked.tag.0) refl is
      where
        at : (b : Bool) → (alloc.0 == asked.alloc.0) ≡ b → (c : Bool) → (new.tag.0 == asked.tag.0) ≡ c → (b && c) ≡ true → kind_of frames asked ≡ Free
        at true is_a true is_t both = ap (λ k. kind_of frames (record { alloc = record { 0 = k }; tag = asked.tag })) (sym (eqb-true alloc.0 asked.alloc.0 is_a)) ∙ ap (λ k. kind_of frames (record { alloc = alloc; tag = record { 0 = k } })) (sym (eqb-true new.tag.0 asked.tag.0 is_t)) ∙ none
        at true is_a false is_t both = absurd (let clash : false ≡ true = both in cc)
        at false is_a c is_t both = absurd (let clash : false ≡ true = both in cc)

    kinds : (asked : Prov) → kind_of frames asked ≡ cond (is_prov asked (record { alloc = alloc; tag = new.tag })) new.guard (kind_of frames asked)
    kinds asked = at (is_prov asked (record { alloc = alloc; tag = new.tag })) refl
      where
        at : (b : Bool) → is_prov asked (record { alloc = alloc; tag = new.tag }) ≡ b → kind_of frames asked ≡ cond b new.guard (kind_of frames asked)
        at true is = same asked is ∙ sym free
        at false is = refl
