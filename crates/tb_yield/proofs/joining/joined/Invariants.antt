use Rattle.std.proofs.Common.{◌≡◌, reverse, length}
use Rattle.tb_ast.specs.Joined.{joined_before, joined}
use Rattle.tb_yield.proofs.joining.joined.Given as goal

abbrev pub invariant-loop-piece : goal.invariant-loop-piece
invariant-loop-piece l = joined_before l.pieces.items (reverse l.stack.items) ≡ joined l.initial.pieces.items

abbrev pub decreases-loop-piece : goal.decreases-loop-piece
decreases-loop-piece l = length l.pieces.items
