use Rattle.std.proofs.Common.{◌≡◌, take}
use Rattle.tb_ast.proofs.copy.idents_copy.Given as goal

abbrev pub invariant-loop-ident : goal.invariant-loop-ident
invariant-loop-ident l = l.list.items ≡ take l.ident-index l.idents
