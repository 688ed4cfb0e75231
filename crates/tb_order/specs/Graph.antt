-- Graphs of numbered nodes: for each node the list of those that it holds.
use Rattle.std.specs.Prelude.{ℕ, ◌<◌, ◌≡◌, Bool, true, false, nat_eq, List, [], ◌∷◌, ◌++◌, length, map, slice_index_or}
use Rattle.std.specs.List.{All, list_any, list_all}
use Rattle.std.specs.declared.vec.Vec.{Vec}
use Rattle.std.specs.declared.alloc.Global.{Global}

abbrev pub Graph : Type 0
Graph = List (List ℕ)

-- the lists of numbers of a slice of vectors
abbrev pub graph_of : List (Vec ℕ Global) → Graph
graph_of rows = map (λ (row : Vec ℕ Global). row.items) rows

-- the nodes that a node holds; none, where there is no such node
abbrev pub held : Graph → ℕ → List ℕ
held graph node = slice_index_or graph node []

-- each number in the lists is a node
abbrev pub AreNodes : Graph → Type 0
AreNodes graph = All (All (λ node. node < length graph)) graph

-- the node is one of these
abbrev pub is_among : ℕ → List ℕ → Bool
is_among node nodes = list_any (nat_eq node) nodes

-- each of the first nodes is one of the second
abbrev pub are_among : List ℕ → List ℕ → Bool
are_among inner nodes = list_all (λ node. is_among node nodes) inner

-- one node holds another, itself or through others
pub data Reaches (graph : Graph) : ℕ → ℕ → Type 0 where
  Holds : (a b : ℕ) → is_among b (held graph a) ≡ true → Reaches graph a b
  Through : (a c b : ℕ) → is_among c (held graph a) ≡ true → Reaches graph c b → Reaches graph a b

-- a node that may stand next after these: it is not one of them, and they have all that it holds
pub record IsNext (graph : Graph) (earlier : List ℕ) (node : ℕ) : Type 0 where
  pub new : is_among node earlier ≡ false
  pub below : node < length graph
  pub after : are_among (held graph node) earlier ≡ true

-- different nodes, each after those that it holds
pub data IsOrder (graph : Graph) : List ℕ → Type 0 where
  Nothing : IsOrder graph []
  Next : (earlier : List ℕ) (node : ℕ) → IsOrder graph earlier → IsNext graph earlier node → IsOrder graph (earlier ++ node ∷ [])
