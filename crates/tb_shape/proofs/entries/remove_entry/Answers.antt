use Rattle.std.proofs.Common.{arith, ◌<◌, length}
use Rattle.tb_shape.specs.Entries.{place_of}
use Rattle.tb_shape.proofs.Uses.{place_within}
use Rattle.tb_shape.proofs.entries.remove_entry.Goals as goal

pub remove-requires : goal.remove-requires
remove-requires c =
    let within : place_of c.args.key c.deref.result.now < length c.deref.result.now = rw c.deref.ensures.value (place_within c.args.key c.args.entries.now.items c.requires.rising c.requires.there) in
    rw c.place-at.ensures (omega (arith, within, c.deref.ensures.len))
