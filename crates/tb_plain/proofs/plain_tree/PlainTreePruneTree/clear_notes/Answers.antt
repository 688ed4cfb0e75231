use Rattle.std.proofs.Common.{◌∙◌, ap}
use Rattle.tb_plain.specs.Plain.{Plain, rows_in, notes_of}
use Rattle.tb_plain.proofs.Notes.{IsTree-plain}
use Rattle.tb_plain.proofs.Pruned.{rows-cleared, notes-cleared, IsPlain-same}
use Rattle.tb_plain.proofs.plain_tree.PlainTreePruneTree.clear_notes.Goals as goal

pub invariant_of-self : goal.invariant_of-self
invariant_of-self c = IsPlain-same c.self.inside.shape c.self.inside.rows.items _ c.self.inside.size c.self.invariant (ap (rows_in c.self.inside.shape) c.clear_in.ensures ∙ rows-cleared c.self.inside.shape c.self.inside.rows.items)

pub returns-clause-rows : goal.returns-clause-rows
returns-clause-rows c = ap (rows_in c.self.inside.shape) c.clear_in.ensures ∙ rows-cleared c.self.inside.shape c.self.inside.rows.items ∙ ap (λ (t : Plain). t.rows) c.self.view_is

pub returns-clause-notes : goal.returns-clause-notes
returns-clause-notes c = ap notes_of c.clear_in.ensures ∙ notes-cleared c.self.inside.rows.items

pub returns-clause-sound : goal.returns-clause-sound
returns-clause-sound c =
    IsTree-plain _ _ _ (IsPlain-same c.self.inside.shape c.self.inside.rows.items _ c.self.inside.size c.self.invariant (ap (rows_in c.self.inside.shape) c.clear_in.ensures ∙ rows-cleared c.self.inside.shape c.self.inside.rows.items))
