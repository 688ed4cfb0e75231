use Rattle.std.proofs.Common.{◌≡◌, ◌+◌, ◌*◌, ◌++◌, drop}
use Rattle.tb_program.specs.Types.{type_at, rest_text}
use Rattle.tb_program.proofs.types.+types.Given as goal

abbrev pub invariant-put_rest-loop-part : goal.invariant-put_rest-loop-part
invariant-put_rest-loop-part l = l.out.items ++ rest_text (type_at l.types l.depth) (drop l.part-index l.parts) ≡ l.initial.out.items ++ rest_text (type_at l.types l.depth) l.parts

abbrev pub decreases-put_at : goal.decreases-put_at
decreases-put_at l = 4 * l.depth

abbrev pub decreases-put_around : goal.decreases-put_around
decreases-put_around l = 4 * l.depth + 1

abbrev pub decreases-put_rest : goal.decreases-put_rest
decreases-put_rest l = 4 * l.depth + 1

abbrev pub decreases-put_parts : goal.decreases-put_parts
decreases-put_parts l = 4 * l.depth + 2

abbrev pub decreases-put_shape : goal.decreases-put_shape
decreases-put_shape l = 4 * l.depth + 3
