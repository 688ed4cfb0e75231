use Rattle.std.proofs.Common.{◌≡◌, ◌≤◌, length, true}
use Rattle.std.specs.Char.{is_ascii_digit}
use Rattle.std.specs.List.{list_all}
use Rattle.tb_small.specs.Words.{value_from, value_of}
use Rattle.tb_small.proofs.sums.literal_value.Given as goal

abbrev pub invariant-loop-rest : goal.invariant-loop-rest
invariant-loop-rest l = record {
  digits : list_all is_ascii_digit l.rest ≡ true;
  same : value_from l.value l.rest ≡ value_of l.word;
  small : l.value ≤ 2147483647;
}

abbrev pub decreases-loop-rest : goal.decreases-loop-rest
decreases-loop-rest l = length l.rest
