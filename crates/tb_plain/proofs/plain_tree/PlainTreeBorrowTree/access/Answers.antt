use Rattle.std.proofs.Common.{◌∙◌, ap, subst}
use Rattle.tb_perm.specs.Answer.{Answers}
use Rattle.tb_perm.specs.Access.{access_report}
use Rattle.tb_plain.specs.Plain.{Plain}
use Rattle.tb_plain.proofs.Notes.{IsTree-plain}
use Rattle.tb_plain.proofs.plain_tree.PlainTreeBorrowTree.access.Goals as goal

pub returns-clause-answer : goal.returns-clause-answer
returns-clause-answer g c = subst (λ (t : Plain). Answers {T = Unit {0}} (access_report t.rows t.size c.args.tag.0 c.args.lo c.args.hi c.args.kind) c.access_in.result) c.self.view_is c.access_in.ensures.answer

pub returns-clause-continues : goal.returns-clause-continues
returns-clause-continues g c =
    record {
      same_extent = ap (λ (t : Plain). t.size) c.self.view_is;
      same_notes = c.access_in.ensures.notes ∙ ap (λ (t : Plain). t.notes) c.self.view_is;
      sound = IsTree-plain _ _ _ c.access_in.ensures.plain;
    }
