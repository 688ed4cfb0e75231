use Rattle.std.proofs.Common.{◌∙◌, ap, sym, subst}
use Rattle.tb_plain.specs.Plain.{Plain, rows_in, notes_of}
use Rattle.tb_perm.specs.Rows.{HasTag}
use Rattle.tb_perm.specs.Pruning.{is_noted}
use Rattle.tb_plain.proofs.Notes.{IsTree-plain}
use Rattle.tb_plain.proofs.Fitting.{tag_there}
use Rattle.tb_plain.proofs.Pruned.{rows-noted, noted_now, noted_others, IsPlain-same}
use Rattle.tb_plain.proofs.plain_tree.PlainTreePruneTree.note.Goals as goal

pub invariant_of-self : goal.invariant_of-self
invariant_of-self c = IsPlain-same c.self.inside.shape c.self.inside.rows.items _ c.self.inside.size c.self.invariant (ap (rows_in c.self.inside.shape) c.note_in.ensures ∙ rows-noted c.self.inside.shape c.self.inside.rows.items c.args.tag.0)

pub returns-clause-rows : goal.returns-clause-rows
returns-clause-rows c = ap (rows_in c.self.inside.shape) c.note_in.ensures ∙ rows-noted c.self.inside.shape c.self.inside.rows.items c.args.tag.0 ∙ ap (λ (t : Plain). t.rows) c.self.view_is

pub returns-clause-noted : goal.returns-clause-noted
returns-clause-noted c =
    ap (λ rows. is_noted (notes_of rows) c.args.tag.0) c.note_in.ensures
    ∙ noted_now c.self.inside.rows.items c.args.tag.0 (tag_there c.self.inside.shape c.self.inside.rows.items c.args.tag.0 (subst (λ (t : Plain). HasTag t.rows c.args.tag.0) (sym c.self.view_is) c.requires))

pub returns-clause-others : goal.returns-clause-others
returns-clause-others c = λ other differs.
    ap (λ rows. is_noted (notes_of rows) other) c.note_in.ensures ∙ noted_others c.self.inside.rows.items c.args.tag.0 other differs ∙ ap (λ (t : Plain). is_noted t.notes other) c.self.view_is

pub returns-clause-sound : goal.returns-clause-sound
returns-clause-sound c =
    IsTree-plain _ _ _ (IsPlain-same c.self.inside.shape c.self.inside.rows.items _ c.self.inside.size c.self.invariant (ap (rows_in c.self.inside.shape) c.note_in.ensures ∙ rows-noted c.self.inside.shape c.self.inside.rows.items c.args.tag.0))
