-- How a tree's guards agree with those of the running calls.
use Rattle.std.specs.Prelude.{◌≡◌, ℕ, List}
use Rattle.tb_perm.specs.declared.tag.AllocId.{AllocId}
use Rattle.tb_perm.specs.Rows.{Row, HasTag, guard_in}
use Rattle.tb_protect.specs.Frames.{Frames, kind_of}

-- each tag of the allocation has the guard that the calls give it
abbrev pub GuardsAre : Frames → AllocId → List Row → Type 0
GuardsAre frames alloc rows = (t : ℕ) → HasTag rows t → guard_in rows t ≡ kind_of frames (record { alloc = alloc; tag = record { 0 = t } })
