-- Going over a list of nodes.
use Rattle.std.proofs.Common.{◌≡◌, ℕ, List, [], ◌∷◌, map, refl}
use Rattle.tb_types.specs.Table.{TypeTable}
use Rattle.tb_thir.specs.declared.node.Node.{Node}
use Rattle.tb_flow.specs.declared.mark.Question.{Question}
use Rattle.tb_flow.specs.declared.summary.Summary.{Summary}
use Rattle.tb_flow.specs.Flows.{Flow, Then}
use Rattle.tb_flow.specs.Summaries.{run}
use Rattle.tb_moves.specs.Trees.{flows_of, then_all}

-- what was gone through, and then these nodes
abbrev pub run_all : TypeTable → Question → ℕ → Summary → List Node → Summary
run_all types question v whole [] = whole
run_all types question v whole (node ∷ nodes) = run_all types question v (run question v whole (flows_of types node).value) nodes

pub run_order : (types : TypeTable) (question : Question) (v : ℕ) (whole : Summary) (done : Flow) (nodes : List Node)
    → run_all types question v (run question v whole done) nodes ≡ run question v whole (then_all done (map (flows_of types) nodes))
run_order types question v whole done [] = refl
run_order types question v whole done (node ∷ nodes) = run_order types question v whole (Then done (flows_of types node).value) nodes
