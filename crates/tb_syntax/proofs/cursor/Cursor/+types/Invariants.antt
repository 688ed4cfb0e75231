use Rattle.std.proofs.Common.{◌≡◌, ◌+◌, ◌-◌, ◌*◌, length}
use Rattle.tb_lex.specs.declared.punctuation.Punctuation.TheVariants.{Comma, Gt}
use Rattle.tb_syntax.specs.Marks.{has_mark}
use Rattle.tb_syntax.specs.Lists.{joined_lists, list_at, listed_at}
use Rattle.tb_syntax.specs.Types.{argument_at, type_at}
use Rattle.tb_syntax.proofs.cursor.Cursor.+types.Given as goal

abbrev pub decreases-type_within : goal.decreases-type_within
decreases-type_within a = a.depth * 5

abbrev pub decreases-types : goal.decreases-types
decreases-types a = a.depth * 5 + 1

abbrev pub decreases-argument : goal.decreases-argument
decreases-argument a = a.depth * 5 + 1

abbrev pub decreases-arguments : goal.decreases-arguments
decreases-arguments a = a.depth * 5 + 2

abbrev pub decreases-path_type : goal.decreases-path_type
decreases-path_type a = a.depth * 5 + 3

abbrev pub decreases-type_behind : goal.decreases-type_behind
decreases-type_behind a = a.depth * 5 + 4

abbrev pub invariant-types-loop : goal.invariant-types-loop
invariant-types-loop l =
    joined_lists l.types l.commas (list_at (has_mark l.close) (type_at l.depth) (has_mark Comma) Comma (length l.fn.self - l.counter) l.rest)
    ≡ listed_at (type_at l.depth) l.close l.fn.self

abbrev pub invariant-arguments-loop : goal.invariant-arguments-loop
invariant-arguments-loop l =
    joined_lists l.arguments l.commas (list_at (has_mark Gt) (argument_at (type_at l.depth)) (has_mark Comma) Comma (length l.fn.self - l.counter) l.rest)
    ≡ listed_at (argument_at (type_at l.depth)) Gt l.fn.self
