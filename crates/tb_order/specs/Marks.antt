-- Nodes that were marked, in the order in which they were, and what a round of placing does.
use Rattle.std.specs.Prelude.{ℕ, ◌<◌, ◌≡◌, Bool, true, false, not, ◌||◌, if◌then◌else◌, List, [], ◌∷◌, ◌++◌, length, slice_index_or, nat_lt}
use Rattle.std.specs.List.{count_by, list_all}
use Rattle.tb_order.specs.Graph.{Graph, held, is_among, are_among, Reaches}

-- the flags are those of the nodes in the list, of which there are as many as flags that are set
pub record AreMarks (flags : List Bool) (nodes : List ℕ) : Type 0 where
  pub each : (node : ℕ) → slice_index_or flags node false ≡ is_among node nodes
  pub count : length nodes ≡ count_by (λ flag. flag) flags

-- with a node that may be there already
abbrev pub with_node : List ℕ → ℕ → List ℕ
with_node nodes node = if is_among node nodes then nodes else nodes ++ node ∷ []

-- with nodes, one after another
abbrev pub with_nodes : List ℕ → List ℕ → List ℕ
with_nodes nodes [] = nodes
with_nodes nodes (node ∷ more) = with_nodes (with_node nodes node) more

-- the node is placed, or holds one that is not
abbrev pub is_stuck : Graph → List ℕ → ℕ → Bool
is_stuck graph nodes node = is_among node nodes || not (are_among (held graph node) nodes)

-- no node can be placed
abbrev pub AreStuck : Graph → List ℕ → Type 0
AreStuck graph nodes = (node : ℕ) → node < length graph → is_stuck graph nodes node ≡ true

-- the nodes placed after one was tried
abbrev pub placed : Graph → List ℕ → ℕ → List ℕ
placed graph nodes node = if is_stuck graph nodes node then nodes else nodes ++ node ∷ []

-- exactly the nodes that a node reaches
pub record AreReached (graph : Graph) (from : ℕ) (nodes : List ℕ) : Type 0 where
  pub sound : (node : ℕ) → is_among node nodes ≡ true → Reaches graph from node
  pub complete : (node : ℕ) → Reaches graph from node → is_among node nodes ≡ true

-- each of the nodes is below this number
abbrev pub are_below : ℕ → List ℕ → Bool
are_below count nodes = list_all (λ node. nat_lt node count) nodes
