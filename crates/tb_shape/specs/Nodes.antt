-- How a `Shape` keeps the children of its keys: a node for each key, in a slab.
use Rattle.std.specs.Prelude.{◌≡◌, ◌≢◌, ℕ, ◌+◌, ◌<◌, List, Some, count_by, ◌==◌}
use Rattle.slab.specs.Slab.{Slab, get, slab_len}
use Rattle.tb_shape.specs.declared.nodes.Node.{Node}
use Rattle.tb_shape.specs.Tree.{Keys, AreChildren}

-- how often the key is among them
abbrev pub count_of : ℕ → List ℕ → ℕ
count_of key keys = count_by (λ k. k == key) keys

-- the new keys are the old ones, in some order, but for some more and some less
abbrev pub Recounts : List ℕ → List ℕ → List ℕ → List ℕ → Type 0
Recounts old new more less = (key : ℕ) → count_of key new + count_of key less ≡ count_of key old + count_of key more

-- the slot's node keeps its key, and gets and loses these children; the other nodes stay
pub record ChangesNode (old new : Slab Node) (slot : ℕ) (more less : List ℕ) : Type 0 where
  pub changed : (node : Node) → get old slot ≡ Some node → (now : Node) × (get new slot ≡ Some now) × (now.key ≡ node.key) × Recounts node.children.items now.children.items more less
  pub others : (other : ℕ) → other ≢ slot → get new other ≡ get old other
  pub len : slab_len new ≡ slab_len old
  pub capacity : new.capacity ≡ old.capacity

-- the slot's node has the child
abbrev pub HasChild : Slab Node → ℕ → ℕ → Type 0
HasChild nodes slot child = (node : Node) × (get nodes slot ≡ Some node) × (0 < count_of child node.children.items)

-- the slot has the node of a key, with its children
pub record IsNodeOf (nodes : Slab Node) (tree : Keys) (key slot : ℕ) : Type 0 where
  pub node : Node
  pub there : get nodes slot ≡ Some node
  pub is_key : node.key ≡ key
  pub children : AreChildren tree key node.children.items
