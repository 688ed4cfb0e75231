use Rattle.tb_resolve.proofs.Listing.{listed_one}
use Rattle.tb_resolve.proofs.meanings.add_item.Goals as goal

pub returns : goal.returns
returns c =
    let noted = c.in_ok-list.ensures.meanings in
    (noted.0, listed_one c.args.types.now c.item_meanings.new.types c.args.lists.now.items c.add.new.lists.items c.in_ok-list.list.items _ c.requires.meant noted.1 c.in_ok-add.ensures)
