use Rattle.std.proofs.Common.{subst, sym, ℕ, ◌<◌, length, List}
use Rattle.tb_order.specs.declared.sorting.Order.{Order}
use Rattle.tb_order.specs.Graph.{graph_of}
use Rattle.tb_order.specs.Answer.{OrdersAll, HasNoCircle, IsLeastCircle, IfSorted, IfCircle}
use Rattle.tb_order.proofs.Sets.{rows_below}
use Rattle.tb_fields.specs.Fields.{told_structs}
use Rattle.tb_fields.proofs.Finishing.{sorted, circle_named}
use Rattle.tb_fields.proofs.define.define_by.Goals as goal

pub place-requires : goal.place-requires
place-requires c =
    circle_named c.args.file.now (told_structs c.args.structs.now) (graph_of c.args.graph.now) c.requires.graph c.in-Circle.number
    (subst (λ (order : Order). IfCircle order (IsLeastCircle (graph_of c.args.graph.now))) c.in-Circle.is c.in_ok-numbers.ensures.circle)
    (rows_below c.args.graph.now c.in-Circle.number (subst (λ (order : Order). IfCircle order (λ (node : ℕ). node < length c.args.graph.now)) c.in-Circle.is c.in_ok-numbers.ensures.node))

pub returns-in_ok-define_all-in-Sorted : goal.returns-in_ok-define_all-in-Sorted
returns-in_ok-define_all-in-Sorted c =
    sorted c.args.file.now (told_structs c.args.structs.now) (graph_of c.args.graph.now) c.requires.graph c.args.types.now c.define_all.new.types c.as_slice.result.now
    (subst (λ (numbers : List ℕ). OrdersAll (graph_of c.args.graph.now) numbers) (sym c.as_slice.ensures.value) (subst (λ (order : Order). IfSorted order (OrdersAll (graph_of c.args.graph.now))) c.in-Sorted.is c.in_ok-numbers.ensures.sorted))
    (subst (λ (order : Order). IfSorted order (λ (numbers : List ℕ). HasNoCircle (graph_of c.args.graph.now))) c.in-Sorted.is c.in_ok-numbers.ensures.none)
    c.in_ok-define_all-in-Sorted.ensures
