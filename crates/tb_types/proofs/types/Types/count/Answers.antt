use Rattle.std.proofs.Common.{◌≤◌, ◌^◌, length, arith}
use Rattle.tb_types.proofs.types.Types.count.Goals as goal

pub overflow_cast-result : goal.overflow_cast-result
overflow_cast-result c = let few : length c.self.inside.shapes.keys ≤ 2 ^ 31 = c.self.invariant.few in let e = c.len.ensures.len in omega arith
