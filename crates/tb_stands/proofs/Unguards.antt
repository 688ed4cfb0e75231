-- The end of a guard among the kept rows and among all.
use Rattle.std.proofs.Common.{◌≡◌, ◌∙◌, ◌≢◌, ◌⊎◌, ℕ, Bool, true, false, cond, List, map, reverse, refl, ap, sym, subst, Option, Some, None, find, inl, inr}
use Rattle.std.specs.Prelude.{option_map, unwrap_or}
use Rattle.std.proofs.lemmas.Bool.{cases_eq}
use Rattle.tb_perm.specs.declared.perm.State.{State}
use Rattle.tb_perm.specs.declared.perm.Perm.TheVariants.{Disabled}
use Rattle.tb_perm.specs.declared.perm.Guard.TheVariants.{Free}
use Rattle.tb_perm.specs.Rows.{Row, is_tag, HasTag, guard_in, unguarded, unguarded_row, state_at}
use Rattle.tb_perm.specs.Tree.{KeepsTree}
use Rattle.tb_perm.specs.Table.{is_guarded}
use Rattle.tb_perm.specs.Pruning.{perm_in}
use Rattle.tb_perm.specs.Covers.{Covers}
use Rattle.tb_perm.proofs.Found.{find-unguarded, guard_in-unguarded, guard_in-other}
use Rattle.tb_perm.proofs.Kept.{unguarded-keeps, IsRows-unguarded, list_any-KeepsTree, is_on_path-kept}
use Rattle.tb_stands.specs.Restricted.{is_kept, nearest, raised, restricted}
use Rattle.tb_stands.specs.Stands.{MayMiss, StandsBy}
use Rattle.tb_stands.proofs.Lists.{filter_changed, map_some}
use Rattle.tb_stands.proofs.Table.{covers_guard}
use Rattle.tb_stands.proofs.Below.{is_below-kept}
use Rattle.tb_stands.proofs.AnyEvent.{nearest_changed, root_kept}

tag_same : (t : ℕ) (row : Row) → (unguarded_row t row).tag ≡ row.tag
tag_same t row = at (is_tag t row)
  where
    at : (b : Bool) → (cond b (record row { guard = Free }) row).tag ≡ row.tag
    at true = refl
    at false = refl

parent_same : (t : ℕ) (row : Row) → (unguarded_row t row).parent ≡ row.parent
parent_same t row = at (is_tag t row)
  where
    at : (b : Bool) → (cond b (record row { guard = Free }) row).parent ≡ row.parent
    at true = refl
    at false = refl

-- a free tag stays free
free_still : (rows : List Row) (u t : ℕ) → guard_in rows t ≡ Free → guard_in (unguarded rows u) t ≡ Free
free_still rows u t free = at (cases_eq t u)
  where
    at : (t ≡ u) ⊎ (t ≢ u) → guard_in (unguarded rows u) t ≡ Free
    at (inl same) = ap (λ k. guard_in (unguarded rows k) t) (sym same) ∙ guard_in-unguarded rows t
    at (inr differs) = guard_in-other rows u t differs ∙ free

perm_same : (rows : List Row) (u t byte : ℕ) → perm_in (unguarded rows u) t byte ≡ perm_in rows t byte
perm_same rows u t byte = ap (λ o. (unwrap_or (option_map (λ row. state_at row byte) o) (record { perm = Disabled; accessed = false })).perm) (find-unguarded rows u t) ∙ at (find (is_tag t) rows)
  where
    one : (row : Row) (b : Bool) → state_at (cond b (record row { guard = Free }) row) byte ≡ state_at row byte
    one row true = refl
    one row false = refl

    at : (o : Option Row) → (unwrap_or (option_map (λ row. state_at row byte) (option_map (unguarded_row u) o)) (record { perm = Disabled; accessed = false })).perm ≡ (unwrap_or (option_map (λ row. state_at row byte) o) (record { perm = Disabled; accessed = false })).perm
    at None = refl
    at (Some row) = ap (λ (s : State). s.perm) (one row (is_tag u row))

module _ (kept : ℕ → Bool) (size : ℕ) (rows : List Row) (t : ℕ) (stands : StandsBy kept size (restricted kept rows) rows) where
  unguarded_same : unguarded (restricted kept rows) t ≡ restricted kept (unguarded rows t)
  unguarded_same =
      sym
      (ap (map (raised kept (unguarded rows t))) (filter_changed (is_kept kept) (unguarded_row t) (λ row. ap kept (tag_same t row)) rows)
      ∙ map_some (is_kept kept) (raised kept (unguarded rows t)) (unguarded_row t) (unguarded_row t) (raised kept rows) one rows)
    where
      near : (row : Row) → nearest kept (reverse (unguarded rows t)) row.parent ≡ nearest kept (reverse rows) row.parent
      near row = nearest_changed kept (unguarded_row t) (tag_same t) (parent_same t) rows row.parent

      cases : (row : Row) (b : Bool) → raised kept (unguarded rows t) (cond b (record row { guard = Free }) row) ≡ cond b (record row { parent = nearest kept (reverse (unguarded rows t)) row.parent; guard = Free }) (record row { parent = nearest kept (reverse (unguarded rows t)) row.parent })
      cases row true = refl
      cases row false = refl

      one : (row : Row) → kept row.tag ≡ true → raised kept (unguarded rows t) (unguarded_row t row) ≡ unguarded_row t (raised kept rows row)
      one row keeps =
          cases row (is_tag t row)
          ∙ ap (λ o. cond {A = Row} (is_tag t row) (record row { parent = o; guard = Free }) (record row { parent = o })) (near row)

  keeps_tree : KeepsTree rows (unguarded rows t)
  keeps_tree = unguarded-keeps rows t

  has_before : (u : ℕ) → HasTag (unguarded rows t) u → HasTag rows u
  has_before u has = sym (list_any-KeepsTree rows (unguarded rows t) u keeps_tree) ∙ has

  folds_after : (u c byte : ℕ) → Covers (perm_in rows u byte) (perm_in rows c byte) (is_guarded (guard_in rows c)) → Covers (perm_in (unguarded rows t) u byte) (perm_in (unguarded rows t) c byte) (is_guarded (guard_in (unguarded rows t) c))
  folds_after u c byte covers =
      covers_guard _ _ (is_guarded (guard_in rows c)) _
      (subst (λ p. Covers p (perm_in (unguarded rows t) c byte) (is_guarded (guard_in rows c))) (sym (perm_same rows t u byte))
      (subst (λ p. Covers (perm_in rows u byte) p (is_guarded (guard_in rows c))) (sym (perm_same rows t c byte)) covers))

  covered : (u : ℕ) → MayMiss kept size rows u → MayMiss kept size (unguarded rows t) u
  covered u (inl bare) = inl (λ v has keeps. is_below-kept rows (unguarded rows t) u v keeps_tree ∙ bare v (has_before v has) keeps)
  covered u (inr some) =
      inr (
        some.0,
        record {
          there = list_any-KeepsTree rows (unguarded rows t) some.0 keeps_tree ∙ some.1.there;
          keeps = some.1.keeps;
          below = is_below-kept rows (unguarded rows t) u some.0 keeps_tree ∙ some.1.below;
          topmost = λ v has keeps below. is_on_path-kept rows (unguarded rows t) v some.0 keeps_tree ∙ some.1.topmost v (has_before v has) keeps (sym (is_below-kept rows (unguarded rows t) u v keeps_tree) ∙ below);
          folds = λ byte within. folds_after u some.0 byte (some.1.folds byte within);
        },
      )

  pub unguard_stands : StandsBy kept size (unguarded (restricted kept rows) t) (unguarded rows t)
  unguard_stands =
      record {
        sound = IsRows-unguarded size rows t stands.sound;
        are = unguarded_same;
        root = root_kept kept (unguarded_row t) (tag_same t) rows stands.root;
        unknown = λ u away. stands.unknown u (sym (list_any-KeepsTree rows (unguarded rows t) u keeps_tree) ∙ away);
        free = λ u has drops. free_still rows t u (stands.free u (has_before u has) drops);
        covered = λ u has drops. covered u (stands.covered u (has_before u has) drops);
      }
