use Rattle.std.proofs.Common.{◌≡◌, ◌≤◌, ◌-◌, vec_len}
use Rattle.tb_top.specs.Told.{Gave, AskedNothing}
use Rattle.tb_top.proofs.read.read_left.Given as goal

-- what was read so far is what the file gave
abbrev pub invariant-loop-files : goal.invariant-loop-files
invariant-loop-files g l = record {
  given : Gave (g.F.Files.told l.fn.files) (g.F.Files.told l.files) l.source.items;
  kept : AskedNothing (g.F.Files.told l.fn.files) (g.F.Files.told l.files);
  count : g.F.Files.faults l.files ≡ g.F.Files.faults l.fn.files;
  size : vec_len l.source ≤ 1048577;
}

abbrev pub decreases-loop-files : goal.decreases-loop-files
decreases-loop-files g l = 1048577 - vec_len l.source
