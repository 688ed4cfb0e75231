use Rattle.std.proofs.Common.{ℕ, ◌<◌, slice_index_or, false}
use Rattle.tb_perm.specs.declared.perm.Perm.TheVariants.{Disabled}
use Rattle.tb_perm.specs.Covers.{Covers}
use Rattle.tb_plain.proofs.pruning.folds_over.Given as goal

abbrev pub invariant-loop-at : goal.invariant-loop-at
invariant-loop-at l = (byte : ℕ) → byte < l.at → Covers (slice_index_or l.states byte (record { perm = Disabled; accessed = false })).perm (slice_index_or l.below byte (record { perm = Disabled; accessed = false })).perm l.guarded
