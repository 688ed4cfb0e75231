use Rattle.std.proofs.Common.{◌≡◌, ◌∙◌, ap, sym, true, false, inl, inr}
use Rattle.tb_shape.specs.Tree.{parent_of}
use Rattle.tb_plain.specs.Pruning.{keys_of}
use Rattle.tb_plain.proofs.TakenOut.{parent_without, parent_leaf, parent_spliced, keys_without, keys_spliced}
use Rattle.tb_plain.proofs.pruning.detach.Goals as goal

pub drop_leaf-requires-clause-leaf : goal.drop_leaf-requires-clause-leaf
drop_leaf-requires-clause-leaf c = c.is_leaf_key.ensures.0 c.if-is_leaf_key.true

pub returns-then-is_leaf_key-clause-parents : goal.returns-then-is_leaf_key-clause-parents
returns-then-is_leaf_key-clause-parents c = λ q differs.
    ap (λ t. parent_of t q) c.drop_leaf.ensures ∙ parent_without c.args.shape.now c.args.tag.0 q differs ∙ parent_leaf c.args.shape.now c.args.tag.0 q (c.is_leaf_key.ensures.0 c.if-is_leaf_key.true)

pub returns-then-is_leaf_key-clause-keys : goal.returns-then-is_leaf_key-clause-keys
returns-then-is_leaf_key-clause-keys c = ap keys_of c.drop_leaf.ensures ∙ keys_without c.args.shape.now c.args.tag.0

pub splice-requires-clause-one : goal.splice-requires-clause-one
splice-requires-clause-one c = elim c.requires.alone [
  | inl leaf ↦ let clash : false ≡ true = sym c.if-is_leaf_key.false ∙ c.is_leaf_key.ensures.1 leaf in absurd (cc)
  | inr one ↦ one
]

pub returns-clause-parents : goal.returns-clause-parents
returns-clause-parents c = λ q differs. ap (λ t. parent_of t q) c.splice.ensures ∙ parent_spliced c.args.shape.now c.args.tag.0 q differs

pub returns-clause-keys : goal.returns-clause-keys
returns-clause-keys c = ap keys_of c.splice.ensures ∙ keys_spliced c.args.shape.now c.args.tag.0
