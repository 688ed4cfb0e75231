use Rattle.std.proofs.Common.{◌≡◌, ◌+◌, ◌<◌, ℕ, List, [], length, get_or, sym, ap, ◌∙◌, subst, arith}
use Rattle.std.proofs.lemmas.List.{get_or_read}
use Rattle.tb_order.specs.Graph.{graph_of, held}
use Rattle.tb_order.specs.Marks.{with_nodes}
use Rattle.tb_order.proofs.Sets.{mark_at}
use Rattle.tb_order.proofs.Reaching.{IsFront, front_first, front_more, front_whole}
use Rattle.tb_order.proofs.reach.reached.Goals as goal

pub loop-at-init : goal.loop-at-init
loop-at-init c =
    let graph = graph_of c.args.graph.now in
    let inner = c.held.result.now in
    let made : c.add_all.new.self.nodes.items ≡ with_nodes [] (held graph c.args.from) =
    c.in_ok-add_all.ensures.nodes ∙ (ap (λ (nodes : List ℕ). with_nodes nodes inner) c.in_ok-marks.ensures.nodes ∙ ap (λ (more : List ℕ). with_nodes [] more) c.held.ensures) in
    record {
      front = subst (λ (nodes : List ℕ). IsFront graph c.args.from 0 nodes) (sym made) (front_first graph c.args.from);
      count = c.add_all.ensures.flags ∙ c.in_ok-marks.ensures.flags;
    }

pub held-requires-in-loop-at : goal.held-requires-in-loop-at
held-requires-in-loop-at c =
    let marks = c.loop-at.marks in
    let within : c.loop-at.at < length marks.nodes.items = omega arith in
    let read : c.index-node.result.now ≡ get_or marks.nodes.items c.loop-at.at 0 = get_or_read marks.nodes.items c.loop-at.at c.index-node.result.now within c.index-node.ensures 0 in
    let fits = mark_at marks.flags.items marks.nodes.items c.loop-at.at marks.tied within in
    omega (arith, read, fits, c.loop-at.invariant.count)

pub loop-at-preserved : goal.loop-at-preserved
loop-at-preserved c =
    let graph = graph_of c.args.graph.now in
    let nodes = c.loop-at.marks.nodes.items in
    let at = c.loop-at.at in
    let node = c.index-node.result.now in
    let made : c.add_all-in-loop-at.new.self.nodes.items ≡ with_nodes nodes (held graph node) =
    c.in_ok-add_all-2.ensures.nodes ∙ ap (λ (more : List ℕ). with_nodes nodes more) c.held-in-loop-at.ensures in
    let within : at < length nodes = omega arith in
    record {
      front = subst (λ (new : List ℕ). IsFront graph c.args.from (at + 1) new) (sym made) (front_more graph c.args.from at node nodes c.loop-at.invariant.front within (get_or_read nodes at node within c.index-node.ensures 0));
      count = c.add_all-in-loop-at.ensures.flags ∙ c.loop-at.invariant.count;
    }

pub returns-clause-reached : goal.returns-clause-reached
returns-clause-reached c = front_whole (graph_of c.args.graph.now) c.args.from c.loop-at.at c.loop-at.marks.nodes.items c.loop-at.invariant.front (omega arith)
