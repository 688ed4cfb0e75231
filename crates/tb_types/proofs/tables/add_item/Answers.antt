use Rattle.std.proofs.Common.{◌∙◌, ap, subst, sym, ℕ, List, [], ◌∷◌, ◌++◌, None, inl, inr}
use Rattle.tb_types.specs.declared.item.Item.{Item}
use Rattle.tb_types.specs.Kept.{IsKeptSound}
use Rattle.tb_types.proofs.Keeping.{kept_declared, extends_one_more, extends_same_items, either}
use Rattle.tb_types.proofs.tables.add_item.Goals as goal

pub returns-clause-kept : goal.returns-clause-kept
returns-clause-kept c = elim (either c.push_item.result c.push_item.ensures.items c.push_item.ensures.err) [
  | inl more ↦ kept_declared c.args.shapes.now.keys c.args.items.now.items c.args.known.now c.requires.kept c.args.name.now c.args.copy c.push_item.new.items.items
      (more ∙ ap (λ (name : List ℕ). c.args.items.now.items ++ record { name = name; copy = c.args.copy; fields = None } ∷ []) c.in-Ok.ensures)
  | inr same ↦ subst (λ (items : List Item). IsKeptSound c.args.shapes.now.keys items c.args.known.now) (sym same) c.requires.kept
]

pub returns-clause-extends : goal.returns-clause-extends
returns-clause-extends c = elim (either c.push_item.result c.push_item.ensures.items c.push_item.ensures.err) [
  | inl more ↦ extends_one_more c.args.shapes.now.keys c.args.items.now.items c.args.known.now c.requires.kept c.args.name.now c.args.copy c.push_item.new.items.items
      (more ∙ ap (λ (name : List ℕ). c.args.items.now.items ++ record { name = name; copy = c.args.copy; fields = None } ∷ []) c.in-Ok.ensures)
  | inr same ↦ extends_same_items c.args.shapes.now.keys c.args.items.now.items c.push_item.new.items.items same
]
