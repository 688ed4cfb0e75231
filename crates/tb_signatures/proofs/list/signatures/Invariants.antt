use Rattle.std.proofs.Common.{drop}
use Rattle.tb_signatures.specs.Signatures.{signatures_in, AreSignedBefore}
use Rattle.tb_signatures.proofs.list.signatures.Given as goal

abbrev pub invariant-loop-item : goal.invariant-loop-item
invariant-loop-item l = AreSignedBefore l.initial.types l.types l.list.items (signatures_in l.file (drop l.item-index l.items)) (signatures_in l.file l.items)
