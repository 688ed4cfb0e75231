use Rattle.std.proofs.Common.{◌∙◌, ap, sym, subst, inl, inr}
use Rattle.std.specs.Prelude.{IsSome}
use Rattle.tb_shape.proofs.Uses.{some_from}
use Rattle.tb_plain.specs.Plain.{IsPlain, rows_in, notes_of}
use Rattle.tb_plain.proofs.Paths.{parent_in-tree}
use Rattle.tb_plain.proofs.Pruned.{leaf_out, row_of_child}
use Rattle.tb_plain.proofs.TakenOut.{remove_others, rows-removed, IsPlain-removed, notes-removed}
use Rattle.tb_plain.proofs.pruning.remove_in.Goals as goal

pub detach-requires-clause-below : goal.detach-requires-clause-below
detach-requires-clause-below c = subst IsSome (parent_in-tree c.args.shape.now c.args.rows.now.items c.args.size c.args.tag.0 c.requires.plain) c.requires.below

pub detach-requires-clause-alone : goal.detach-requires-clause-alone
detach-requires-clause-alone c = elim c.requires.alone [
  | inl leaf ↦ inl (leaf_out c.args.shape.now c.args.rows.now.items c.args.size c.args.tag.0 c.requires.plain leaf)
  | inr one ↦ inr (
    one.0,
    sym (parent_in-tree c.args.shape.now c.args.rows.now.items c.args.size one.0 c.requires.plain) ∙ one.1.0,
    λ d up. one.1.1 d (parent_in-tree c.args.shape.now c.args.rows.now.items c.args.size d c.requires.plain ∙ up),
  )
]

pub take_row-requires-clause-one : goal.take_row-requires-clause-one
take_row-requires-clause-one c = remove_others c.args.shape.now c.args.rows.now.items c.args.size c.args.tag.0 c.requires.plain

pub take_row-requires-clause-there : goal.take_row-requires-clause-there
take_row-requires-clause-there c = row_of_child c.args.shape.now c.args.rows.now.items c.args.tag.0 c.requires.below

pub returns-clause-rows : goal.returns-clause-rows
returns-clause-rows c =
    ap (rows_in c.detach.new.shape) c.take_row.ensures ∙ rows-removed c.args.shape.now c.detach.new.shape c.args.rows.now.items c.args.size c.args.tag.0 c.requires.plain c.detach.ensures.parents

pub returns-clause-notes : goal.returns-clause-notes
returns-clause-notes c = ap notes_of c.take_row.ensures ∙ notes-removed c.args.rows.now.items c.args.tag.0

pub returns-clause-plain : goal.returns-clause-plain
returns-clause-plain c =
    let up = some_from _ (subst IsSome (parent_in-tree c.args.shape.now c.args.rows.now.items c.args.size c.args.tag.0 c.requires.plain) c.requires.below) in
    subst (λ rows. IsPlain c.detach.new.shape rows c.args.size) (sym c.take_row.ensures) (IsPlain-removed c.args.shape.now c.detach.new.shape c.args.rows.now.items c.args.size c.args.tag.0 up.0 c.requires.plain up.1 c.detach.ensures.parents c.detach.ensures.keys)
