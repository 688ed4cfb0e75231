-- Placing nodes after those that they hold.
use Rattle.std.proofs.Common.{◌≡◌, ℕ, ◌+◌, ◌<◌, ◌≤◌, Bool, true, false, cond, not, List, [], ◌∷◌, ◌++◌, length, get_or, take, ⊎_elim, sym, ◌∙◌, subst, arith}
use Rattle.std.proofs.lemmas.Bool.{false≢true, cases_Bool, cases_lt, or_parts, not-false}
use Rattle.std.proofs.lemmas.List.{length_push, take-append-le, take_at, get_or_push, get_or_append_left}
use Rattle.tb_order.specs.Graph.{Graph, graph_of, held, is_among, are_among, Reaches, IsNext, IsOrder}
use Rattle.tb_order.specs.Graph.Reaches.{Holds, Through}
use Rattle.tb_order.specs.Graph.IsOrder.{Nothing, Next}
use Rattle.tb_order.specs.Marks.{AreMarks, is_stuck, placed}
use Rattle.std.proofs.lemmas.List.{length-map}
use Rattle.std.specs.declared.vec.Vec.{Vec}
use Rattle.std.specs.declared.alloc.Global.{Global}
use Rattle.tb_order.specs.Answer.{HasNoCircle, OrdersAll}
use Rattle.tb_order.proofs.Sets.{not_both, among_push, among_left, among_all, all_marked}
use Rattle.tb_order.proofs.Reaching.{source_below}

-- what a node in order holds is in order
closed : (graph : Graph) (nodes : List ℕ) → IsOrder graph nodes → (a b : ℕ) → is_among a nodes ≡ true → is_among b (held graph a) ≡ true → is_among b nodes ≡ true
closed graph nodes Nothing a b h held_b = absurd (false≢true h)
closed graph nodes (Next earlier last order next) a b h held_b =
    among_left earlier (last ∷ []) b
    (⊎_elim
    (λ in_earlier. closed graph earlier order a b in_earlier held_b)
    (λ e. among_all (held graph last) earlier b next.after (subst (λ (n : ℕ). is_among b (held graph n) ≡ true) e held_b))
    (among_push earlier last a h))

-- and so is what it reaches
closed_far : (graph : Graph) (nodes : List ℕ) → IsOrder graph nodes → (a b : ℕ) → Reaches graph a b → is_among a nodes ≡ true → is_among b nodes ≡ true
closed_far graph nodes order a b (Holds _ _ h) in_a = closed graph nodes order a b in_a h
closed_far graph nodes order a b (Through _ c _ h rest) in_a = closed_far graph nodes order c b rest (closed graph nodes order a c in_a h)

-- what a node reaches is among nodes in order that have all that it holds
reached_held : (graph : Graph) (nodes : List ℕ) → IsOrder graph nodes → (a b : ℕ) → are_among (held graph a) nodes ≡ true → Reaches graph a b → is_among b nodes ≡ true
reached_held graph nodes order a b all (Holds _ _ h) = among_all (held graph a) nodes b all h
reached_held graph nodes order a b all (Through _ c _ h rest) = closed_far graph nodes order c b rest (among_all (held graph a) nodes c all h)

-- no node in order reaches itself
pub none_among : (graph : Graph) (nodes : List ℕ) → IsOrder graph nodes → (node : ℕ) → is_among node nodes ≡ true → Reaches graph node node → ⊥
none_among graph nodes Nothing node h r = false≢true h
none_among graph nodes (Next earlier last order next) node h r =
    ⊎_elim
    (λ in_earlier. none_among graph earlier order node in_earlier r)
    (λ e. not_both (is_among last earlier) next.new (reached_held graph earlier order last last next.after (subst (λ (n : ℕ). Reaches graph n n) e r)))
    (among_push earlier last node h)

-- a step of a round
pub placed_order : (graph : Graph) (nodes : List ℕ) (node : ℕ) → IsOrder graph nodes → node < length graph → IsOrder graph (placed graph nodes node)
placed_order graph nodes node order below =
    ⊎_elim
    (λ (y : is_stuck graph nodes node ≡ true). subst (λ (b : Bool). IsOrder graph (cond b nodes (nodes ++ node ∷ []))) (sym y) order)
    (λ (n : is_stuck graph nodes node ≡ false).
    let parts = or_parts (is_among node nodes) (not (are_among (held graph node) nodes)) n in
    subst (λ (b : Bool). IsOrder graph (cond b nodes (nodes ++ node ∷ []))) (sym n)
    (Next nodes node order (record { new = parts.0; below = below; after = not-false (are_among (held graph node) nodes) parts.1 })))
    (cases_Bool (is_stuck graph nodes node))

-- the nodes before this number are stuck, if none was placed since there were so many
pub record AreStuckBelow (graph : Graph) (start : ℕ) (below : ℕ) (nodes : List ℕ) : Type 0 where
  pub grows : start ≤ length nodes
  pub stuck : start ≡ length nodes → (node : ℕ) → node < below → is_stuck graph nodes node ≡ true

pub stuck_more : (graph : Graph) (start below : ℕ) (nodes : List ℕ) → AreStuckBelow graph start below nodes → AreStuckBelow graph start (below + 1) (placed graph nodes below)
stuck_more graph start below nodes h =
    ⊎_elim
    (λ (y : is_stuck graph nodes below ≡ true).
    subst (λ (b : Bool). AreStuckBelow graph start (below + 1) (cond b nodes (nodes ++ below ∷ []))) (sym y)
    (record {
      grows = h.grows;
      stuck = λ e node l. ⊎_elim (λ less. h.stuck e node less) (λ more. let same : below ≡ node = omega arith in subst (λ (n : ℕ). is_stuck graph nodes n ≡ true) same y) (cases_lt node below);
    }))
    (λ (n : is_stuck graph nodes below ≡ false).
    subst (λ (b : Bool). AreStuckBelow graph start (below + 1) (cond b nodes (nodes ++ below ∷ []))) (sym n)
    (record {
      grows = omega (arith, length_push nodes below, h.grows);
      stuck = λ e. absurd (omega (arith, length_push nodes below, h.grows));
    }))
    (cases_Bool (is_stuck graph nodes below))

-- each stands after those that it holds
next_at : (graph : Graph) (nodes : List ℕ) → IsOrder graph nodes → (place : ℕ) → place < length nodes → IsNext graph (take place nodes) (get_or nodes place 0)
next_at graph nodes Nothing place l = absurd (omega arith)
next_at graph nodes (Next earlier last order next) place l =
    ⊎_elim
    (λ (before : place < length earlier).
    subst (λ (front : List ℕ). IsNext graph front (get_or (earlier ++ last ∷ []) place 0)) (sym (take-append-le place earlier (last ∷ []) (omega arith)))
    (subst (λ (node : ℕ). IsNext graph (take place earlier) node) (sym (get_or_append_left earlier (last ∷ []) 0 place before)) (next_at graph earlier order place before)))
    (λ (past : length earlier ≤ place).
    let here : length earlier ≡ place = omega (arith, length_push earlier last) in
    subst (λ (front : List ℕ). IsNext graph front (get_or (earlier ++ last ∷ []) place 0)) (sym (take_at earlier (last ∷ []) place here))
    (subst (λ (node : ℕ). IsNext graph earlier node) (sym (get_or_push earlier last 0 place here)) next))
    (cases_lt place (length earlier))

-- where there are as many nodes in order as there are nodes, all are there
pub orders_all : (rows : List (Vec ℕ Global)) (flags : List Bool) (nodes : List ℕ) → AreMarks flags nodes → IsOrder (graph_of rows) nodes → length flags ≡ length rows → length nodes ≡ length rows → OrdersAll (graph_of rows) nodes
orders_all rows flags nodes marks order count whole =
    let same : length (graph_of rows) ≡ length rows = length-map rows (λ (row : Vec ℕ Global). row.items) in
    record {
      order = order;
      count = whole ∙ sym same;
      each = next_at (graph_of rows) nodes order;
      every = λ node l. all_marked flags nodes marks (whole ∙ sym count) node (omega arith);
    }

-- and none reaches itself
pub none_reaches : (graph : Graph) (nodes : List ℕ) → OrdersAll graph nodes → HasNoCircle graph
none_reaches graph nodes all node r = none_among graph nodes all.order node (all.every node (source_below graph node node r)) r
