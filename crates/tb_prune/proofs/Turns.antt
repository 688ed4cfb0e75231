-- The rounds of a prune, as its loop meets them.
use Rattle.std.proofs.Common.{◌≡◌, ◌∙◌, ℕ, ◌<◌, ◌≤◌, List, ap, sym, subst, All}
use Rattle.std.specs.Prelude.{IsSome}
use Rattle.std.proofs.lemmas.List.Elements.{recursion_from_All}
use Rattle.tb_perm.specs.declared.tag.AllocId.{AllocId}
use Rattle.tb_perm.specs.Rows.{Row, HasTag, IsRows, guard_in}
use Rattle.tb_perm.specs.Calls.{IsTree}
use Rattle.tb_perm.specs.Pruning.{parent_in}
use Rattle.tb_protect.specs.Frames.{Frames}
use Rattle.tb_stands.specs.Folded.{Prunes}
use Rattle.tb_stands.proofs.Ways.{own_keeps, own_has}
use Rattle.tb_stands.proofs.Folds.{guard_own}
use Rattle.tb_prune.specs.Guards.{GuardsAre}
use Rattle.tb_prune.specs.Visits.{Visits}
use Rattle.tb_prune.specs.Rounds.{Decided}
use Rattle.tb_prune.proofs.Rounds.{start_round, next_round, next_has, end_round}

pub prune_start : (size : ℕ) (rows : List Row) (reached : List ℕ) (g : ℕ) → IsTree size rows reached → All (λ (row : Row). row.tag ≤ g) rows → Decided size rows reached g rows reached
prune_start size rows reached g tree all = start_round size rows reached tree.grown g (recursion_from_All (λ (row : Row). row.tag ≤ g) rows all)

-- the guards of the rows that are left
pub guards_now : (frames : Frames) (alloc : AllocId) (size : ℕ) (rows now : List Row) (reached notes : List ℕ) (n : ℕ) → Decided size rows reached n now notes → GuardsAre frames alloc rows → GuardsAre frames alloc now
guards_now frames alloc size rows now reached notes n decided guards t has =
    let there = subst (λ o. HasTag o t) decided.1.are has in
    ap (λ o. guard_in o t) decided.1.are ∙ guard_own decided.0 rows t (own_keeps decided.0 rows t there) ∙ guards t (own_has decided.0 rows t there)

pub prune_next : (size extent after : ℕ) (rows now left : List Row) (reached notes rest : List ℕ) (n next : ℕ)
    → IsTree size rows reached → Decided size rows reached n now notes → HasTag now n → extent ≡ size
    → next < n → HasTag now next → All (λ (row : Row). row.tag < n → row.tag ≤ next) now → IsSome (parent_in now n)
    → Visits extent now notes n left rest → after ≡ extent → IsTree after left rest
    → Decided size rows reached next left rest × HasTag left next
prune_next size extent after rows now left reached notes rest n next tree decided has same less has_next all some visits same_after sound =
    let visits_size : Visits size now notes n left rest = subst (λ s. Visits s now notes n left rest) same visits in
    let sound_size : IsRows size left = subst (λ s. IsRows s left) (same_after ∙ same) sound.grown in
    let greatest = recursion_from_All (λ (row : Row). row.tag < n → row.tag ≤ next) now all in (
      next_round size rows reached tree.grown n decided.0 now notes decided.1 has next less has_next greatest left rest sound_size some visits_size,
      next_has size rows reached tree.grown n decided.0 now notes decided.1 has next less has_next greatest left rest sound_size visits_size some,
    )

pub prune_end : (size : ℕ) (rows now left : List Row) (reached notes : List ℕ) (n : ℕ) → IsTree size rows reached → Decided size rows reached n now notes → HasTag now n → All (λ (row : Row). n ≤ row.tag) now → left ≡ now → Prunes size reached rows left
prune_end size rows now left reached notes n tree decided has all same =
    subst (Prunes size reached rows) (sym same) (end_round size rows reached tree.grown n decided.0 now notes decided.1 has (recursion_from_All (λ (row : Row). n ≤ row.tag) now all))
