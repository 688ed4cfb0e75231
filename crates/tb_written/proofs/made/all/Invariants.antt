use Rattle.std.proofs.Common.{◌≡◌, ◌++◌, drop}
use Rattle.std.specs.Option.{option_map}
use Rattle.tb_written.specs.Kept.{all_types}
use Rattle.tb_written.proofs.made.all.Given as goal

abbrev pub invariant-loop-part : goal.invariant-loop-part
invariant-loop-part l = option_map (λ rest. l.list.items ++ rest) (all_types (drop l.part-index l.parts)) ≡ all_types l.parts
