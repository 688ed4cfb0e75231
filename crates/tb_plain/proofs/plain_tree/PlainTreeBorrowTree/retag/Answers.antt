use Rattle.std.proofs.Common.{◌∙◌, ◌<◌, ap, sym, subst, All}
use Rattle.tb_perm.specs.Answer.{Answers}
use Rattle.tb_perm.specs.Reborrow.{reborrow_report}
use Rattle.tb_plain.specs.Plain.{Plain}
use Rattle.tb_plain.proofs.Notes.{IsTree-plain, fresh_note, on_ok}
use Rattle.tb_perm.specs.Rows.{Row}
use Rattle.tb_perm.specs.Pruning.{is_noted}
use Rattle.tb_plain.proofs.plain_tree.PlainTreeBorrowTree.retag.Goals as goal

pub returns-clause-answer : goal.returns-clause-answer
returns-clause-answer g c = subst (λ (t : Plain). Answers {T = Unit {0}} (reborrow_report t.rows t.size c.args.new) c.retag_in.result) c.self.view_is c.retag_in.ensures.answer

pub returns-clause-continues : goal.returns-clause-continues
returns-clause-continues g c =
    record {
      same_extent = ap (λ (t : Plain). t.size) c.self.view_is;
      same_notes = c.retag_in.ensures.notes ∙ ap (λ (t : Plain). t.notes) c.self.view_is;
      sound = IsTree-plain _ _ _ c.retag_in.ensures.plain;
    }

pub returns-clause-fresh : goal.returns-clause-fresh
returns-clause-fresh g c =
    on_ok c.retag_in.result _
    (ap (λ notes. is_noted notes c.args.new.tag.0) c.retag_in.ensures.notes
    ∙ fresh_note c.self.inside.shape c.self.inside.rows.items c.args.new.tag.0 (subst (λ (t : Plain). All (λ (row : Row). row.tag < c.args.new.tag.0) t.rows) (sym c.self.view_is) c.requires.above))
