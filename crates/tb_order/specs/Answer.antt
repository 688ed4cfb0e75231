-- What is answered of a graph: its nodes in order, or the least node that reaches itself.
use Rattle.std.specs.Prelude.{ℕ, ◌<◌, ◌≡◌, true, List, length, take, slice_index}
use Rattle.tb_order.specs.declared.sorting.Order.{Order}
use Rattle.tb_order.specs.declared.sorting.Order.TheVariants.{Sorted, Circle}
use Rattle.tb_order.specs.Graph.{Graph, Reaches, IsNext, IsOrder, is_among}

-- no node reaches itself
abbrev pub HasNoCircle : Graph → Type 0
HasNoCircle graph = (node : ℕ) → Reaches graph node node → ⊥

-- a node that reaches itself, and none before it does
abbrev pub IsLeastCircle : Graph → ℕ → Type 0
IsLeastCircle graph node = Reaches graph node node × ((other : ℕ) → other < node → Reaches graph other other → ⊥)

-- the nodes in order, every one of them: as a whole, and at each place
pub record OrdersAll (graph : Graph) (nodes : List ℕ) : Type 0 where
  pub order : IsOrder graph nodes
  pub count : length nodes ≡ length graph
  pub each : (place : ℕ) → place < length nodes → IsNext graph (take place nodes) (slice_index nodes place)
  pub every : (node : ℕ) → node < length graph → is_among node nodes ≡ true

-- where the nodes were put in order, this holds of their list
abbrev pub IfSorted : Order → (List ℕ → Type 0) → Type 0
IfSorted (Sorted nodes) holds = holds nodes.items
IfSorted (Circle node) holds = Unit {0}

-- where a node was found that reaches itself, this holds of it
abbrev pub IfCircle : Order → (ℕ → Type 0) → Type 0
IfCircle (Sorted nodes) holds = Unit {0}
IfCircle (Circle node) holds = holds node
