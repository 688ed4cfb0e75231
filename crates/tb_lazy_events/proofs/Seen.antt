-- Sound marks say of the rows what the definition of marked subtrees says.
use Rattle.std.proofs.Common.{◌≡◌, ◌∙◌, ℕ, ◌<◌, true, false, cond, List, [], ◌∷◌, refl, ap, subst, arith, ◌==◌, Some}
use Rattle.std.specs.Prelude.{unwrap_or, option_map}
use Rattle.std.specs.List.{AllByRecursion, slice_get}
use Rattle.std.proofs.lemmas.Bool.{eq-eqb, ne_eqb, or_left, or_right}
use Rattle.std.proofs.lemmas.List.Elements.{All-from_recursion}
use Rattle.std.proofs.lemmas.Option.{unwrap_or-slice_get}
use Rattle.tb_perm.specs.declared.perm.Kind.{Kind}
use Rattle.tb_perm.specs.declared.perm.State.{State}
use Rattle.tb_perm.specs.declared.perm.Perm.TheVariants.{Disabled}
use Rattle.tb_perm.specs.Table.{IsIdle, is_guarded}
use Rattle.tb_perm.specs.Marked.{leaves_alone, Marked}
use Rattle.tb_perm.specs.Rows.{Row, HasTag, is_on_path, state_at as state_of}
use Rattle.tb_shape.specs.Tree.{Keys}
use Rattle.tb_marks.specs.Marks.{AreSound}
use Rattle.tb_plain.specs.Plain.{IsPlain}
use Rattle.tb_plain.proofs.Paths.{on_path_ancestor}
use Rattle.tb_lazy_rows.specs.declared.row.LazyRow.{LazyRow}
use Rattle.tb_lazy_events.specs.Rows.{row_of, AreRising, state_at, tags_at}
use Rattle.tb_lazy_events.specs.Seen.{plain_rows, seen_in}

later_found : (x : LazyRow) (xs zs : List LazyRow) → AllByRecursion (λ (z : LazyRow). x.tag.0 < z.tag.0) zs → AllByRecursion (λ (z : LazyRow). row_of xs z.tag.0 ≡ Some z) zs → AllByRecursion (λ (z : LazyRow). row_of (x ∷ xs) z.tag.0 ≡ Some z) zs
later_found x xs [] above all = tt
later_found x xs (z ∷ zs) above all =
    (ap (λ b. cond b (Some x) (row_of xs z.tag.0)) (ne_eqb x.tag.0 z.tag.0 (omega (arith, above.0))) ∙ all.0, later_found x xs zs above.1 all.1)

-- a search for a row's tag finds the row
pub find_self : (rows : List LazyRow) → AreRising rows → AllByRecursion (λ (row : LazyRow). row_of rows row.tag.0 ≡ Some row) rows
find_self [] rising = tt
find_self (x ∷ xs) rising =
    (ap (λ b. cond b (Some x) (row_of xs x.tag.0)) (eq-eqb x.tag.0 x.tag.0 refl), later_found x xs xs rising.0 (find_self xs rising.1))

later_has : (tree : Keys) (x : LazyRow) (xs zs : List LazyRow) → AllByRecursion (λ (z : LazyRow). HasTag (seen_in tree xs) z.tag.0) zs → AllByRecursion (λ (z : LazyRow). HasTag (seen_in tree (x ∷ xs)) z.tag.0) zs
later_has tree x xs [] all = tt
later_has tree x xs (z ∷ zs) all = (or_right (x.tag.0 == z.tag.0) _ all.0, later_has tree x xs zs all.1)

-- each row's tag has a row
has_self : (tree : Keys) (rows : List LazyRow) → AllByRecursion (λ (row : LazyRow). HasTag (seen_in tree rows) row.tag.0) rows
has_self tree [] = tt
has_self tree (x ∷ xs) = (or_left (x.tag.0 == x.tag.0) _ (eq-eqb x.tag.0 x.tag.0 refl), later_has tree x xs xs (has_self tree xs))

module _ (tree : Keys) (size byte tag : ℕ) (kind : Kind) (rows : List LazyRow) (is : IsPlain tree (plain_rows rows) size) (sound : AreSound tree (tags_at rows byte)) (leaves : leaves_alone ((tags_at rows byte).mark tag) kind ≡ true) where
  abbrev lost : State
  lost = record { perm = Disabled; accessed = false }

  idle_at : (row : LazyRow) → row_of rows row.tag.0 ≡ Some row → HasTag (seen_in tree rows) row.tag.0 → is_on_path (seen_in tree rows) row.tag.0 tag ≡ true → IsIdle (unwrap_or (slice_get row.states byte) lost) (is_guarded row.guard) kind
  idle_at row found has on =
      subst (λ g. IsIdle (unwrap_or (slice_get row.states byte) lost) g kind) (ap (λ o. unwrap_or (option_map (λ (r : LazyRow). is_guarded r.guard) o) false) found)
      (subst (λ s. IsIdle s ((tags_at rows byte).guarded row.tag.0) kind) (ap (λ o. unwrap_or (option_map (state_at byte) o) lost) found)
      (sound tag row.tag.0 (on_path_ancestor tree (plain_rows rows) size tag row.tag.0 is has on) kind leaves))

  all_idle : (part : List LazyRow) → AllByRecursion (λ (row : LazyRow). row_of rows row.tag.0 ≡ Some row) part → AllByRecursion (λ (row : LazyRow). HasTag (seen_in tree rows) row.tag.0) part → AllByRecursion (λ (row : Row). is_on_path (seen_in tree rows) row.tag tag ≡ true → IsIdle (state_of row byte) (is_guarded row.guard) kind) (seen_in tree part)
  all_idle [] found has = tt
  all_idle (row ∷ part) found has = (
    λ on. subst (λ s. IsIdle s (is_guarded row.guard) kind) (unwrap_or-slice_get row.states byte lost) (idle_at row found.0 has.0 on),
    all_idle part found.1 has.1,
  )

  pub marked : AreRising rows → Marked (seen_in tree rows) tag byte kind
  marked rising = All-from_recursion (λ (row : Row). is_on_path (seen_in tree rows) row.tag tag ≡ true → IsIdle (state_of row byte) (is_guarded row.guard) kind) (seen_in tree rows) (all_idle rows (find_self rows rising) (has_self tree rows))
