-- What is true of the fields of every `Shape`.
use Rattle.std.specs.Prelude.{◌≡◌, ℕ, List, Some, None}
use Rattle.slab.specs.Slab.{Slab}
use Rattle.tb_shape.specs.declared.entries.Entry.{Entry}
use Rattle.tb_shape.specs.declared.nodes.Node.{Node}
use Rattle.tb_shape.specs.Entries.{IsRising, AreHung, entry_of, tree_of}
use Rattle.tb_shape.specs.Nodes.{IsNodeOf}

pub record IsShape (entries : List Entry) (nodes : Slab Node) (root : ℕ) : Type 0 where
  pub rising : IsRising entries
  pub hung : AreHung entries
  -- the root is there, and nothing else is without a parent
  pub top : (entry : Entry) × (entry_of entries root ≡ Some entry) × (entry.parent ≡ None)
  pub only : (key : ℕ) (entry : Entry) → entry_of entries key ≡ Some entry → entry.parent ≡ None → key ≡ root
  -- each key has a node with its children
  pub linked : (key : ℕ) (entry : Entry) → entry_of entries key ≡ Some entry → IsNodeOf nodes (tree_of entries) key entry.slot
