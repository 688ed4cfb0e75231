-- What an event does at a byte.
use Rattle.std.specs.Prelude.{ℕ, cond, Option, Some, None}
use Rattle.tb_perm.specs.declared.perm.Kind.{Kind}
use Rattle.tb_perm.specs.declared.perm.Kind.TheVariants.{Read}
use Rattle.tb_perm.specs.declared.new_tag.NewTag.{NewTag}
use Rattle.tb_perm.specs.Event.{is_within}
use Rattle.tb_perm.specs.Reborrow.{starts_accessed}

abbrev pub access_at : ℕ → ℕ → Kind → ℕ → Option Kind
access_at lo hi kind byte = cond (is_within lo hi byte) (Some kind) None

abbrev pub reborrow_at : NewTag → ℕ → Option Kind
reborrow_at new byte = cond (starts_accessed new byte) (Some Read) None
