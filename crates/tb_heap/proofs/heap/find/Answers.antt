use Rattle.std.proofs.Common.{◌≡◌, suc, map, ap, ◌∙◌, refl, arith}
use Rattle.tb_heap.specs.Entries.{seen}
use Rattle.tb_heap.specs.Memory.{pointee}
use Rattle.tb_heap.proofs.Lives.{there, pointee_live, pointee_dead}
use Rattle.tb_heap.proofs.heap.find.Goals as goal

pub returns-then-entry : goal.returns-then-entry
returns-then-entry g c =
    let found = c.in-Some-get.ensures.lookup in
    let is = there g.T.BorrowTree.rows c.args.entries.now c.in-Some-checked_sub.place c.in-Some-get.entry.now found.3.0 found.1 in
    let number : c.in-Some.prov.alloc.0 ≡ suc c.in-Some-checked_sub.place = omega arith in
    record {
      entry = c.in-Some-get.entry.now;
      is_there = is;
      number = number;
      is_prov = c.in-Some.is;
      is_pointee = ap (pointee (map (seen g.T.BorrowTree.rows) c.args.entries.now)) c.in-Some.is ∙ pointee_live g.T.BorrowTree.rows c.args.entries.now c.in-Some.prov c.in-Some-checked_sub.place c.in-Some-get.entry.now number is c.if-entry.true;
    }

pub returns-else-entry : goal.returns-else-entry
returns-else-entry g c =
    let found = c.in-Some-get.ensures.lookup in
    let is = there g.T.BorrowTree.rows c.args.entries.now c.in-Some-checked_sub.place c.in-Some-get.entry.now found.3.0 found.1 in
    let number : c.in-Some.prov.alloc.0 ≡ suc c.in-Some-checked_sub.place = omega arith in
    (refl, ap (pointee (map (seen g.T.BorrowTree.rows) c.args.entries.now)) c.in-Some.is ∙ pointee_dead g.T.BorrowTree.rows c.args.entries.now c.in-Some.prov c.in-Some-checked_sub.place c.in-Some-get.entry.now number is c.if-entry.false)
