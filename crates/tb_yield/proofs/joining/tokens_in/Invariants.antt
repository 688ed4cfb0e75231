use Rattle.std.proofs.Common.{◌≡◌, ◌++◌, reverse, length, map}
use Rattle.tb_ast.specs.Joined.{token_of}
use Rattle.tb_yield.proofs.joining.tokens_in.Given as goal

abbrev pub invariant-loop-piece : goal.invariant-loop-piece
invariant-loop-piece l = l.tokens.items ++ map token_of (reverse l.stack.items) ≡ map token_of (reverse l.initial.stack.items)

abbrev pub decreases-loop-piece : goal.decreases-loop-piece
decreases-loop-piece l = length l.stack.items
