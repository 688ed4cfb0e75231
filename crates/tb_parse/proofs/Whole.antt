-- Items: what is read stands there, and what stands there is read.
use Rattle.std.proofs.Common.{◌≡◌, ℕ, suc, ◌<◌, ◌≤◌, max, List, map, length, Option, Some, refl, sym, ap, subst, ◌∙◌, arith}
use Rattle.tb_ast.specs.declared.item.Attribute.{Attribute}
use Rattle.tb_ast.specs.declared.item.Item.{Item}
use Rattle.tb_ast.specs.declared.item.ItemKind.{ItemKind}
use Rattle.tb_ast.specs.Pieces.{in_order}
use Rattle.tb_ast.specs.Files.{attribute_row}
use Rattle.tb_ast.specs.Depth.{item_depth}
use Rattle.tb_syntax.specs.State.{State}
use Rattle.tb_syntax.specs.Attributes.{attributes_at}
use Rattle.tb_syntax.proofs.Options.{bind_some, some_is}
use Rattle.tb_syntax.proofs.Chains.{stands-shrinks}
use Rattle.tb_syntax.proofs.Attributed.{attributes-take, attributes-complete}
use Rattle.tb_parse.specs.Files.{item_of, kind_at, item_at}
use Rattle.tb_parse.specs.Trees.{IsItemAt, AnItem}
use Rattle.tb_parse.proofs.ItemKinds.{kind-sound, kind-no-pound, kind-shorter, kind-complete}

pub item-sound : (depth : ℕ) (state : State) (x : Item) (rest : State) → item_at depth state ≡ Some (x, rest) → IsItemAt state x rest
unfolding item_at
item-sound depth state x rest e =
    let attributes = bind_some (attributes_at state) _ (x, rest) e in
    let kind = bind_some (kind_at depth attributes.0.1) _ (x, rest) attributes.2 in
    let run = attributes-take state attributes.0.0 attributes.0.1 attributes.1 in
    let is : Item × State → Type 0 = λ y. IsItemAt state y.0 y.1 in
    subst is (some_is (item_of attributes.0.0 kind.0.0, kind.0.1) (x, rest) kind.2)
    (AnItem attributes.0.0 kind.0.0 attributes.0.1 run.stands run.good (kind-sound depth attributes.0.1 kind.0.0 kind.0.1 kind.1))

item-of-complete : (depth : ℕ) (state : State) (attributes : List Attribute) (kind : ItemKind) (middle rest : State) → attributes_at state ≡ Some (attributes, middle) → kind_at depth middle ≡ Some (kind, rest)
    → item_at depth state ≡ Some (item_of attributes kind, rest)
unfolding item_at
item-of-complete depth state attributes kind middle rest a b = rw a (rw b refl)

pub item-complete : (state : State) (x : Item) (rest : State) → IsItemAt state x rest → (depth : ℕ) → item_depth x ≤ suc depth → item_at depth state ≡ Some (x, rest)
item-complete state x rest (AnItem attributes kind a stands are is) depth e =
    item-of-complete depth state attributes kind a rest (attributes-complete state attributes a are (kind-no-pound a kind rest is) stands) (kind-complete a kind rest is depth e)

pub item-shorter : (state : State) (x : Item) (rest : State) → IsItemAt state x rest → length rest < length state
item-shorter state x rest (AnItem attributes kind a stands are is) =
    let first = stands-shrinks (in_order (map attribute_row attributes)) state a stands in
    let second = kind-shorter a kind rest is in
    omega arith

both : {X : Type 0} (read : Option (X × State)) (x : X) (rest : State) (y : X) (after : State) → read ≡ Some (x, rest) → read ≡ Some (y, after) → (x ≡ y) × (rest ≡ after)
both {X} read x rest y after a b =
    let same : ◌≡◌ {A = X × State} (x, rest) (y, after) = some_is (x, rest) (y, after) (sym a ∙ b) in
    (ap (λ z. z.0) same, ap (λ z. z.1) same)

-- no place has two items
pub item-one : (state : State) (x : Item) (rest : State) (y : Item) (after : State) → IsItemAt state x rest → IsItemAt state y after → (x ≡ y) × (rest ≡ after)
item-one state x rest y after is is_too =
    let depth = max (item_depth x) (item_depth y) in
    both (item_at depth state) x rest y after (item-complete state x rest is depth (omega arith)) (item-complete state y after is_too depth (omega arith))
