use Rattle.std.proofs.Common.{◌≡◌, drop}
use Rattle.tb_names.specs.Main.{main_in}
use Rattle.tb_names.proofs.program.main_fault.Given as goal

abbrev pub invariant-loop-item : goal.invariant-loop-item
invariant-loop-item l = main_in l.tree.end (drop l.item-index l.tree.items) ≡ main_in l.tree.end l.tree.items
