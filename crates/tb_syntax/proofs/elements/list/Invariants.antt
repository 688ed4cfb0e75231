use Rattle.std.proofs.Common.{◌≡◌, ◌-◌, length}
use Rattle.tb_lex.specs.declared.punctuation.Punctuation.TheVariants.{Comma}
use Rattle.tb_syntax.specs.Marks.{has_mark}
use Rattle.tb_syntax.specs.Lists.{joined_lists, list_at, listed_at}
use Rattle.tb_syntax.proofs.elements.list.Given as goal

abbrev pub invariant-loop : goal.invariant-loop
invariant-loop g l =
    joined_lists l.values l.commas (list_at (has_mark l.close) (g.T.Element.one l.depth) (has_mark Comma) Comma (length l.fn.cursor - l.counter) l.rest)
    ≡ listed_at (g.T.Element.one l.depth) l.close l.fn.cursor
