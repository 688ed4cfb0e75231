use Rattle.std.proofs.Common.{length, ◌≤◌}
use Rattle.tb_type_tests.proofs.layouts.chains_of_structs_end.Given as goal

abbrev pub invariant-loop-at : goal.invariant-loop-at
invariant-loop-at g l = length l.types.items ≤ l.at
