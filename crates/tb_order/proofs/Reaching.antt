-- Which nodes a node reaches.
use Rattle.std.proofs.Common.{◌≡◌, ℕ, ◌+◌, ◌<◌, ◌≤◌, Bool, true, false, not, eqb, List, [], ◌∷◌, length, get_or, ⊎_elim, sym, ap, ◌∙◌, subst, arith, suc, zero}
use Rattle.std.specs.List.{IsDistinct, AllByRecursion}
use Rattle.std.proofs.lemmas.Bool.{false≢true, eqb-true, cases_lt, or_cases, not-true, false_from_ne_true}
use Rattle.std.proofs.lemmas.List.{length-map}
use Rattle.std.specs.declared.vec.Vec.{Vec}
use Rattle.std.specs.declared.alloc.Global.{Global}
use Rattle.std.proofs.lemmas.Map.Keys.{IsDistinct-cons}
use Rattle.std.proofs.lemmas.Map.Steps.{length-le_from_distinct_below}
use Rattle.tb_order.specs.Graph.{Graph, graph_of, held, AreNodes, is_among, are_among, Reaches}
use Rattle.tb_order.specs.Graph.Reaches.{Holds, Through}
use Rattle.tb_order.specs.Marks.{AreMarks, AreReached, AreStuck, with_nodes}
use Rattle.tb_order.specs.Answer.{HasNoCircle}
use Rattle.tb_order.proofs.Sets.{marks_fit, one_unmarked, not_both, among_at, one_missing, place_of, held_below, holder_below, with_nodes_keep, with_nodes_have, with_nodes_only, with_nodes_at}

-- one edge more at the end
pub reaches_on : (graph : Graph) (a c b : ℕ) → Reaches graph a c → is_among b (held graph c) ≡ true → Reaches graph a b
reaches_on graph a c b (Holds _ _ h) last = Through a c b h (Holds c b last)
reaches_on graph a c b (Through _ d _ h rest) last = Through a d b h (reaches_on graph d c b rest last)

-- what reaches something is a node
pub source_below : (graph : Graph) (a b : ℕ) → Reaches graph a b → a < length graph
source_below graph a b (Holds _ _ h) = holder_below graph a b h
source_below graph a b (Through _ c _ h rest) = holder_below graph a c h

-- nodes that a node reaches: those that it holds, and those that the first of them hold
pub record IsFront (graph : Graph) (from at : ℕ) (nodes : List ℕ) : Type 0 where
  pub sound : (node : ℕ) → is_among node nodes ≡ true → Reaches graph from node
  pub first : (node : ℕ) → is_among node (held graph from) ≡ true → is_among node nodes ≡ true
  pub closed : (place : ℕ) → place < at → (node : ℕ) → is_among node (held graph (get_or nodes place 0)) ≡ true → is_among node nodes ≡ true
  pub within : at ≤ length nodes

pub front_first : (graph : Graph) (from : ℕ) → IsFront graph from 0 (with_nodes [] (held graph from))
front_first graph from =
    record {
      sound = λ node h. ⊎_elim (λ none. absurd (false≢true none)) (λ some. Holds from node some) (with_nodes_only [] (held graph from) node h);
      first = λ node h. with_nodes_have [] (held graph from) node h;
      closed = λ place l. absurd (omega arith);
      within = omega arith;
    }

pub front_more : (graph : Graph) (from at node : ℕ) (nodes : List ℕ) → IsFront graph from at nodes → at < length nodes → node ≡ get_or nodes at 0 → IsFront graph from (at + 1) (with_nodes nodes (held graph node))
front_more graph from at node nodes front l e =
    record {
      sound = λ other h. ⊎_elim
          (λ old. front.sound other old)
          (λ new. reaches_on graph from node other (front.sound node (subst (λ (n : ℕ). is_among n nodes ≡ true) (sym e) (among_at nodes at l))) new)
          (with_nodes_only nodes (held graph node) other h);
      first = λ other h. with_nodes_keep nodes (held graph node) other (front.first other h);
      closed = λ place less other h.
          ⊎_elim
          (λ (before : place < at).
          let same = with_nodes_at nodes (held graph node) place (omega (arith, l)) in
          with_nodes_keep nodes (held graph node) other
          (front.closed place before other (subst (λ (n : ℕ). is_among other (held graph n) ≡ true) same.1 h)))
          (λ (past : at ≤ place).
          let here : place ≡ at = omega arith in
          let same = with_nodes_at nodes (held graph node) at l in
          with_nodes_have nodes (held graph node) other
          (subst (λ (n : ℕ). is_among other (held graph n) ≡ true) (ap (λ (p : ℕ). get_or (with_nodes nodes (held graph node)) p 0) here ∙ (same.1 ∙ sym e)) h))
          (cases_lt place at);
      within = let same = with_nodes_at nodes (held graph node) at l in omega (arith, same.0);
    }

-- nodes that are closed have all that a node reaches, where they have all that it holds
closed_all : (graph : Graph) (nodes : List ℕ) → ((a b : ℕ) → is_among a nodes ≡ true → is_among b (held graph a) ≡ true → is_among b nodes ≡ true) → (a b : ℕ) → Reaches graph a b → ((c : ℕ) → is_among c (held graph a) ≡ true → is_among c nodes ≡ true) → is_among b nodes ≡ true
closed_all graph nodes closed a b (Holds _ _ h) first = first b h
closed_all graph nodes closed a b (Through _ c _ h rest) first = closed_all graph nodes closed c b rest (λ d held_d. closed c d (first c h) held_d)

pub front_whole : (graph : Graph) (from at : ℕ) (nodes : List ℕ) → IsFront graph from at nodes → length nodes ≤ at → AreReached graph from nodes
front_whole graph from at nodes front past =
    record {
      sound = front.sound;
      complete = λ node r. closed_all graph nodes
          (λ a b h held_b. let p = place_of nodes a h in front.closed p.0 (omega (arith, p.1)) b (subst (λ (n : ℕ). is_among b (held graph n) ≡ true) (sym p.2) held_b))
          from node r front.first;
    }

-- below the number of nodes none reaches itself: then none does
pub no_circle : (graph : Graph) → ((node : ℕ) → node < length graph → Reaches graph node node → ⊥) → HasNoCircle graph
no_circle graph none node r = none node (source_below graph node node r) r

-- each of the nodes reaches this one, and is a node
abbrev AreBefore : Graph → ℕ → List ℕ → Type 0
AreBefore graph node trail = AllByRecursion (λ (earlier : ℕ). (earlier < length graph) × Reaches graph earlier node) trail

before_on : (graph : Graph) (node next : ℕ) (trail : List ℕ) → AreBefore graph node trail → is_among next (held graph node) ≡ true → AreBefore graph next trail
before_on graph node next [] h edge = tt
before_on graph node next (x ∷ xs) h edge = ((h.0.0, reaches_on graph x node next h.0.1 edge), before_on graph node next xs h.1 edge)

-- where none reaches itself, the trail does not have the node that it leads to
new_on_trail : (graph : Graph) (node : ℕ) (trail : List ℕ) → HasNoCircle graph → AreBefore graph node trail → AllByRecursion (λ (earlier : ℕ). eqb node earlier ≡ false) trail
new_on_trail graph node [] none h = tt
new_on_trail graph node (x ∷ xs) none h =
    (false_from_ne_true (eqb node x) (λ e. none node (subst (λ (n : ℕ). Reaches graph n node) (sym (eqb-true node x e)) h.0.1)), new_on_trail graph node xs none h.1)

trail_below : (graph : Graph) (node : ℕ) (trail : List ℕ) → AreBefore graph node trail → (q : ℕ) → is_among q trail ≡ true → q < length graph
trail_below graph node [] h q e = absurd (false≢true e)
trail_below graph node (x ∷ xs) h q e =
    ⊎_elim
    (λ s. subst (λ (n : ℕ). n < length graph) (sym (eqb-true q x s)) h.0.0)
    (λ t. trail_below graph node xs h.1 q t)
    (or_cases (eqb q x) (is_among q xs) e)

-- a walk among nodes that are not placed has no end, so some node comes twice
walk : (graph : Graph) (nodes : List ℕ) → AreNodes graph → AreStuck graph nodes → HasNoCircle graph → (fuel node : ℕ) (trail : List ℕ) → node < length graph → is_among node nodes ≡ false → IsDistinct eqb trail → AreBefore graph node trail → length graph < fuel + length trail → ⊥
walk graph nodes ok stuck none zero node trail l out distinct before long = omega (arith, length-le_from_distinct_below trail (length graph) distinct (trail_below graph node trail before))
walk graph nodes ok stuck none (suc fuel) node trail l out distinct before long =
    ⊎_elim
    (λ placed. not_both (is_among node nodes) out placed)
    (λ lacks.
    let m = one_missing (held graph node) nodes (not-true (are_among (held graph node) nodes) lacks) in
    walk graph nodes ok stuck none fuel m.0 (node ∷ trail) (held_below graph node m.0 ok m.1) m.2
    (IsDistinct-cons eqb node trail (new_on_trail graph node trail none before) distinct)
    ((l, Holds node m.0 m.1), before_on graph node m.0 trail before m.1)
    (omega arith))
    (or_cases (is_among node nodes) (not (are_among (held graph node) nodes)) (stuck node l))

-- where a node is not placed and none can be, one reaches itself
pub circle_there : (graph : Graph) (nodes : List ℕ) (node : ℕ) → AreNodes graph → AreStuck graph nodes → HasNoCircle graph → node < length graph → is_among node nodes ≡ false → ⊥
unfolding IsDistinct
circle_there graph nodes node ok stuck none l out = walk graph nodes ok stuck none (suc (length graph)) node [] l out tt tt (omega arith)

-- the same of rows and marks
pub circle_left : (rows : List (Vec ℕ Global)) (flags : List Bool) (nodes : List ℕ) → AreNodes (graph_of rows) → AreMarks flags nodes → AreStuck (graph_of rows) nodes → length flags ≡ length rows → (length nodes ≡ length rows → ⊥) → HasNoCircle (graph_of rows) → ⊥
circle_left rows flags nodes ok marks stuck count short none =
    let same : length (graph_of rows) ≡ length rows = length-map rows (λ (row : Vec ℕ Global). row.items) in
    let fits : length nodes ≤ length flags = marks_fit flags nodes marks in
    let out = one_unmarked flags nodes marks (omega (arith, short)) in
    circle_there (graph_of rows) nodes out.0 ok stuck none (omega (arith, out.1)) out.2
