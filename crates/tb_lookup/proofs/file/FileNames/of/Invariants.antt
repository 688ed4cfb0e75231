use Rattle.std.proofs.Common.{◌≡◌, ◌++◌, drop}
use Rattle.tb_lookup.specs.Files.{entries_from, file_names}
use Rattle.tb_lookup.proofs.file.FileNames.of.Given as goal

abbrev pub invariant-loop-item : goal.invariant-loop-item
invariant-loop-item l = l.file ++ entries_from l.counts (drop l.item-index l.items) ≡ file_names l.items
