use Rattle.std.proofs.Common.{◌≡◌, ◌<◌, ◌+◌, ◌≢◌, ◌∙◌, ◌⊎◌, ℕ, Bool, true, false, sym, subst, arith, inl, inr, slice_index_or}
use Rattle.std.proofs.lemmas.Bool.{cases_eq}
use Rattle.tb_perm.specs.declared.perm.Perm.{Perm}
use Rattle.tb_perm.specs.declared.perm.Perm.TheVariants.{Disabled}
use Rattle.tb_perm.specs.Covers.{Covers}
use Rattle.tb_plain.proofs.pruning.folds_over.Goals as goal

-- the permissions that the two calls gave
covers_at : (p q a b : Perm) (g : Bool) → a ≡ p → b ≡ q → Covers p q g → Covers a b g
covers_at p q a b g is_p is_q h = subst (λ x. Covers x b g) (sym is_p) (subst (λ y. Covers p y g) (sym is_q) h)

covers_back : (p q a b : Perm) (g : Bool) → a ≡ p → b ≡ q → Covers a b g → Covers p q g
covers_back p q a b g is_p is_q h = subst (λ x. Covers x q g) is_p (subst (λ y. Covers a y g) is_q h)

pub returns-then-not-implies : goal.returns-then-not-implies
returns-then-not-implies c = (
  λ h. absurd (cc),
  λ all.
      let yes_holds : c.implies.result ≡ true = c.implies.ensures.1 (covers_at _ _ _ _ c.args.guarded c.perm_at.ensures c.perm_at-in-loop-at.ensures (all c.loop-at.at c.loop-at-test.true)) in
      let clash : false ≡ true = sym c.if-not-implies.true ∙ yes_holds in
      absurd (cc),
)

pub loop-at-preserved : goal.loop-at-preserved
loop-at-preserved c = λ byte less. at byte less (cases_eq byte c.loop-at.at)
  where
    at : (byte : ℕ) → byte < c.loop-at.at + 1 → (byte ≡ c.loop-at.at) ⊎ (byte ≢ c.loop-at.at) → Covers (slice_index_or c.args.states.now byte (record { perm = Disabled; accessed = false })).perm (slice_index_or c.args.below.now byte (record { perm = Disabled; accessed = false })).perm c.args.guarded
    at byte less (inl same) = subst (λ b. Covers (slice_index_or c.args.states.now b (record { perm = Disabled; accessed = false })).perm (slice_index_or c.args.below.now b (record { perm = Disabled; accessed = false })).perm c.args.guarded) (sym same) (covers_back _ _ _ _ c.args.guarded c.perm_at.ensures c.perm_at-in-loop-at.ensures (c.implies.ensures.0 c.if-not-implies.false))
    at byte less (inr differs) = c.loop-at.invariant byte (omega arith)
