use Rattle.std.proofs.Common.{drop, map}
use Rattle.tb_fields.specs.Fields.{told_structs, held_by, struct_graph}
use Rattle.tb_fields.specs.Defined.{AreRowsBefore}
use Rattle.tb_fields.proofs.graph.struct_graph.Given as goal

abbrev pub invariant-loop-one : goal.invariant-loop-one
invariant-loop-one l = AreRowsBefore l.initial.types l.types l.rows.items (map (held_by l.file) (told_structs (drop l.one-index l.structs))) (struct_graph l.file (told_structs l.structs))
