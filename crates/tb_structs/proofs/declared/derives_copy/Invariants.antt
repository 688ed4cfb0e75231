use Rattle.std.proofs.Common.{◌≡◌, drop}
use Rattle.tb_structs.specs.Structs.{derives_copy}
use Rattle.tb_structs.proofs.declared.derives_copy.Given as goal

abbrev pub invariant-loop-attribute : goal.invariant-loop-attribute
invariant-loop-attribute l = derives_copy (drop l.attribute-index l.attributes) ≡ derives_copy l.attributes
