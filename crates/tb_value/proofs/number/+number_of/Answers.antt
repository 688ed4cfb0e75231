use Rattle.std.proofs.Common.{◌+◌, ◌*◌, ◌<◌, ◌^◌, arith}
use Rattle.tb_value.proofs.Bounds.{rest_fits}
use Rattle.tb_value.proofs.number.+number_of.Goals as goal

pub overflow_mul-result : goal.overflow_mul-result
overflow_mul-result t c =
    let fit : c.value.result + 256 * c.number_of.result < 2 ^ 64 = rest_fits c.args.bytes.now c.value.result c.number_of.result c.requires c.value.type_inv c.number_of.ensures.small in
    omega arith

pub overflow_add-result : goal.overflow_add-result
overflow_add-result t c =
    let fit : c.value.result + 256 * c.number_of.result < 2 ^ 64 = rest_fits c.args.bytes.now c.value.result c.number_of.result c.requires c.value.type_inv c.number_of.ensures.small in
    omega arith
