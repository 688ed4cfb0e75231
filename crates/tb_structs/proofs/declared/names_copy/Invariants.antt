use Rattle.std.proofs.Common.{◌≡◌, drop}
use Rattle.tb_structs.specs.Structs.{names_copy}
use Rattle.tb_structs.proofs.declared.names_copy.Given as goal

abbrev pub invariant-loop-ident : goal.invariant-loop-ident
invariant-loop-ident l = names_copy (drop l.ident-index l.idents) ≡ names_copy l.idents
