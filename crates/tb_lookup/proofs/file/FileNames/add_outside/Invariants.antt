use Rattle.std.proofs.Common.{◌≡◌, ◌++◌, drop, map}
use Rattle.tb_names.specs.Repeats.{foreign_names}
use Rattle.tb_lookup.specs.Files.{getchar_entry}
use Rattle.tb_lookup.proofs.file.FileNames.add_outside.Given as goal

abbrev pub invariant-loop-function : goal.invariant-loop-function
invariant-loop-function l = l.self ++ map getchar_entry (foreign_names (drop l.function-index l.functions)) ≡ l.initial.self ++ map getchar_entry (foreign_names l.functions)
