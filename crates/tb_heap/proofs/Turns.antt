-- What a tree answers, as what its entry does.
use Rattle.std.proofs.Common.{◌≡◌, Option, Some, None, Ok, Err, refl, ap}
use Rattle.tb_perm.specs.declared.report.Report.{Report}
use Rattle.tb_perm.specs.declared.report.TreeError.{TreeError}
use Rattle.tb_perm.specs.declared.report.TreeError.TheVariants as tree
use Rattle.tb_perm.specs.declared.tag.Prov.{Prov}
use Rattle.tb_perm.specs.Answer.{Answers}
use Rattle.tb_heap.specs.Access.{Leaves, unless_refused}
use Rattle.tb_heap.specs.Entries.{Turns, stop_of}
use Rattle.tb_heap.specs.Memory.{Allocation}
use Rattle.tb_heap.specs.declared.stop.Stop.TheVariants.{Borrow}

-- a tree that did it
pub did : {A : Type 0} (report : Option Report) (prov : Prov) (wanted new : Allocation) (answer : A) → Answers {T = Unit {0}} report (Ok tt) → new ≡ wanted → Turns (unless_refused prov report (Leaves wanted answer)) (Ok answer) new
did None prov wanted new answer answers is = (refl, is)
did (Some report) prov wanted new answer answers is = absurd answers

-- a tree that did not
pub did_not : {A : Type 0} (report : Option Report) (prov : Prov) (wanted new : Allocation) (answer : A) (error : TreeError) → Answers {T = Unit {0}} report (Err error) → Turns (unless_refused prov report (Leaves wanted answer)) (Err (stop_of prov.alloc error)) new
did_not None prov wanted new answer (tree.Borrow told) answers = absurd answers
did_not (Some report) prov wanted new answer (tree.Borrow told) answers = ap (Borrow prov.alloc) answers
did_not None prov wanted new answer tree.Memory answers = tt
did_not (Some report) prov wanted new answer tree.Memory answers = tt
