-- A tree of two bytes that can be pruned, and the calls that guard its tags.
use Rattle.std.specs.Prelude.{◌≡◌, ◌<◌, length}
use Rattle.tb_perm.specs.Calls.{IsTree}
use Rattle.tb_plain.specs.Plain.{Plain}
use Rattle.tb_protect.specs.Frames.{Frames}
use Rattle.tb_prune.specs.Guards.{GuardsAre}

pub record IsReady (tree : Plain) (frames : Frames) : Type 0 where
  pub two : tree.size ≡ 2
  pub sound : IsTree tree.size tree.rows tree.notes
  pub frame : 0 < length frames
  pub guards : GuardsAre frames (record { 0 = 1 }) tree.rows
