use Rattle.std.proofs.Common.{◌≡◌, ◌-◌, length}
use Rattle.tb_syntax.specs.Repeats.{after_values, many_at, repeated_at}
use Rattle.tb_syntax.proofs.elements.many.Given as goal

abbrev pub invariant-loop : goal.invariant-loop
invariant-loop g l =
    after_values l.values (many_at g.T.Repeated.begins (g.T.Element.one l.depth) (length l.fn.cursor - l.counter) l.rest)
    ≡ repeated_at g.T.Repeated.begins (g.T.Element.one l.depth) l.fn.cursor
