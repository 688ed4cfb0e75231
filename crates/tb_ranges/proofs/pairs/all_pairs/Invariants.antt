use Rattle.std.proofs.Common.{◌≡◌, ◌+◌, Bool, length}
use Rattle.std.specs.Prelude.{zip}
use Rattle.std.specs.List.{list_all}
use Rattle.tb_ranges.specs.Runs.{expanded}
use Rattle.tb_ranges.specs.Ranges.{from_place}
use Rattle.tb_ranges.proofs.Reading.{IsRead}
use Rattle.tb_ranges.proofs.pairs.all_pairs.Given as goal

abbrev pub invariant-loop-left : goal.invariant-loop-left
invariant-loop-left g l = record {
  left : IsRead l.at l.left;
  right : IsRead l.at l.right;
  same : (p : _ → _ → Bool) → ((x : _) (y : _) (b : Bool) → goal.F-post g l.test x y b → b ≡ p x y) → list_all (λ pair. p pair.0 pair.1) (zip (expanded (from_place l.at l.left)) (expanded (from_place l.at l.right))) ≡ list_all (λ pair. p pair.0 pair.1) (zip (expanded l.first) (expanded l.second));
}

abbrev pub decreases-loop-left : goal.decreases-loop-left
decreases-loop-left g l = length l.left + length l.right
