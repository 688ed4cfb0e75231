-- What pruning leaves.
use Rattle.std.proofs.Common.{◌≡◌, ◌∙◌, ℕ, Bool, true, List, [], ◌∷◌, refl, ap, sym, subst}
use Rattle.std.specs.List.{AllByRecursion}
use Rattle.std.proofs.lemmas.Bool.{or_left, or_right}
use Rattle.std.proofs.lemmas.Bool.{eq-eqb}
use Rattle.tb_perm.specs.Rows.{Row, HasTag, IsRows}
use Rattle.tb_perm.specs.Pruning.{is_noted}
use Rattle.tb_stands.specs.Restricted.{restricted}
use Rattle.tb_stands.specs.Stands.{StandsBy, Stands}
use Rattle.tb_stands.specs.Folded.{is_first, IsFolded, Prunes}
use Rattle.tb_stands.proofs.Ways.{has_own}
use Rattle.tb_stands.proofs.Folds.{both, restricted_twice, folded_all, folded_stands}
use Rattle.tb_stands.proofs.One.{one_folded, restricted_agree}

pub left_one : (size : ℕ) (rows a b : List Row) (reached : List ℕ) → IsRows size rows → Prunes size reached rows a → Prunes size reached rows b → a ≡ b
left_one size rows a b reached is left_a left_b = left_a.2 ∙ restricted_agree left_a.0 left_b.0 rows (one_folded size rows reached is left_a.0 left_b.0 left_a.1 left_b.1) ∙ sym left_b.2

-- reached tags stay
stay_all : (rows : List Row) (size : ℕ) (all reached : List ℕ) (stays : ℕ → Bool) → ((t : ℕ) → is_noted reached t ≡ true → is_noted all t ≡ true) → IsFolded size rows all stays → AllByRecursion (HasTag rows) reached → AllByRecursion (HasTag (restricted stays rows)) reached
stay_all rows size all [] stays sub folded has = tt
stay_all rows size all (t ∷ reached) stays sub folded has = (
  has_own stays rows t (folded.must t has.0 (or_right (is_first rows t) _ (or_left _ _ (sub t (or_left _ _ (eq-eqb t t refl)))))) ∙ has.0,
  stay_all rows size all reached stays (λ u noted. sub u (or_right _ _ noted)) folded has.1,
)

module _ (size : ℕ) (own rows left : List Row) (reached : List ℕ) (stands : Stands size own rows reached) (pruned : Prunes size reached own left) where
  by : StandsBy stands.0 size (restricted stands.0 rows) rows
  by = subst (λ o. StandsBy stands.0 size o rows) stands.1.are stands.1

  known : AllByRecursion (HasTag (restricted stands.0 rows)) reached
  known = subst (λ o. AllByRecursion (HasTag o) reached) stands.1.are stands.2

  folded : IsFolded size (restricted stands.0 rows) reached pruned.0
  folded = subst (λ o. IsFolded size o reached pruned.0) stands.1.are pruned.1

  left_is : left ≡ restricted pruned.0 (restricted stands.0 rows)
  left_is = pruned.2 ∙ ap (restricted pruned.0) stands.1.are

  pub left_same : Prunes size reached rows left
  left_same = (
    both stands.0 pruned.0,
    folded_all stands.0 pruned.0 size rows reached by known folded,
    left_is ∙ restricted_twice stands.0 pruned.0 size rows stands.1.sound,
  )

  pub left_stands : Stands size left rows reached
  left_stands = (
    both stands.0 pruned.0,
    subst (λ o. StandsBy (both stands.0 pruned.0) size o rows) (sym left_is) (folded_stands stands.0 pruned.0 size rows reached by known folded),
    subst (λ o. AllByRecursion (HasTag o) reached) (sym left_is) (stay_all (restricted stands.0 rows) size reached reached pruned.0 (λ t noted. noted) folded known),
  )
