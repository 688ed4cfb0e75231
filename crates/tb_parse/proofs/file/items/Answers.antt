use Rattle.std.proofs.Common.{rules, ◌≤◌, length}
use Rattle.tb_parse.proofs.Ends.{none-left}
use Rattle.tb_parse.proofs.OneFile.{no-item-here}
use Rattle.tb_parse.proofs.file.items.Goals as goal

pub returns-clause-none : goal.returns-clause-none
returns-clause-none c =
    let few : length c.loop-alloc.rest.now ≤ 0 = search rules in
    no-item-here c.loop-alloc.rest.now (none-left c.loop-alloc.rest.now few)
