use Rattle.std.proofs.Common.{take}
use Rattle.tb_fields.specs.Fields.{told_structs}
use Rattle.tb_fields.specs.Defined.{AreDefined}
use Rattle.tb_fields.proofs.define.define_all.Given as goal

abbrev pub invariant-loop-number : goal.invariant-loop-number
invariant-loop-number l = AreDefined l.file l.initial.types l.types (told_structs l.structs) (take l.number-index l.numbers)
