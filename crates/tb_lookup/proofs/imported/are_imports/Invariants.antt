use Rattle.std.proofs.Common.{◌≡◌, drop}
use Rattle.tb_lookup.specs.Lookups.{are_imports}
use Rattle.tb_lookup.proofs.imported.are_imports.Given as goal

abbrev pub invariant-loop-name : goal.invariant-loop-name
invariant-loop-name l = are_imports l.text (drop l.name-index l.names) ≡ are_imports l.text l.names
