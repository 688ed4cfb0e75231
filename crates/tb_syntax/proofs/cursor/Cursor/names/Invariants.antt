use Rattle.std.proofs.Common.{◌≡◌, ◌-◌, length, false}
use Rattle.tb_syntax.specs.Leaves.{name_at}
use Rattle.tb_syntax.specs.Lists.{joined_lists, list_at}
use Rattle.tb_syntax.specs.Paths.{goes_on, names_at}
use Rattle.tb_syntax.proofs.cursor.Cursor.names.Given as goal

abbrev pub invariant-loop : goal.invariant-loop
invariant-loop l =
    joined_lists l.names l.marks (list_at (λ _. false) name_at (goes_on l.mark) l.mark (length l.fn.self - l.counter) l.rest)
    ≡ names_at l.mark l.fn.self
