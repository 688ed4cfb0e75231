use Rattle.std.proofs.Common.{◌∙◌, ap}
use Rattle.tb_perm.specs.Rows.{unguarded}
use Rattle.tb_plain.specs.Plain.{Plain, rows_in, notes_of}
use Rattle.tb_plain.proofs.Notes.{IsTree-plain}
use Rattle.tb_plain.proofs.Unguarded.{rows-unguarded, notes-unguarded, IsPlain-unguarded}
use Rattle.tb_plain.proofs.plain_tree.PlainTreeBorrowTree.unguard.Goals as goal

pub invariant_of-self : goal.invariant_of-self
invariant_of-self c = IsPlain-unguarded c.self.inside.shape c.self.inside.rows.items _ c.self.inside.size c.args.tag.0 c.self.invariant c.unguard_in.ensures

pub returns-clause-rows : goal.returns-clause-rows
returns-clause-rows c =
    ap (rows_in c.self.inside.shape) c.unguard_in.ensures ∙ rows-unguarded c.self.inside.shape c.self.inside.rows.items c.args.tag.0 ∙ ap (λ (t : Plain). unguarded t.rows c.args.tag.0) c.self.view_is

pub returns-clause-continues : goal.returns-clause-continues
returns-clause-continues c =
    record {
      same_extent = ap (λ (t : Plain). t.size) c.self.view_is;
      same_notes = ap notes_of c.unguard_in.ensures ∙ notes-unguarded c.self.inside.rows.items c.args.tag.0 ∙ ap (λ (t : Plain). t.notes) c.self.view_is;
      sound = IsTree-plain _ _ _ (IsPlain-unguarded c.self.inside.shape c.self.inside.rows.items _ c.self.inside.size c.args.tag.0 c.self.invariant c.unguard_in.ensures);
    }
