use Rattle.std.proofs.Common.{◌≤◌, sym, length}
use Rattle.tb_shape.specs.Entries.{place_of}
use Rattle.tb_shape.proofs.Search.{found_by, missing_past, missing_by}
use Rattle.tb_shape.proofs.entries.look_up.Goals as goal

pub returns-then-at-entries : goal.returns-then-at-entries
returns-then-at-entries c =
    let entries = c.args.entries.now in
    let past : length entries ≤ place_of c.args.key entries = rw (← c.place-at.ensures) c.if-at-entries.true in
    sym (missing_past c.args.key entries past)

pub returns-then-entries-at : goal.returns-then-entries-at
returns-then-entries-at c = sym (missing_by c.args.key c.place-at.result c.args.entries.now _ c.requires c.place-at.ensures c.if-at-entries.false c.if-entries-at.true)

pub returns : goal.returns
returns c = sym (found_by c.args.key c.place-at.result c.args.entries.now _ c.place-at.ensures c.if-at-entries.false c.if-entries-at.false)
