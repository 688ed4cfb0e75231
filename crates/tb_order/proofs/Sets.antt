-- Which nodes are among those of a list.
use Rattle.std.proofs.Common.{◌≡◌, ℕ, ◌+◌, ◌<◌, ◌≤◌, Bool, true, false, cond, eqb, ltb, List, [], ◌∷◌, ◌++◌, length, get_or, ◌⊎◌, inl, inr, ⊎_elim, refl, sym, ◌∙◌, subst, arith, suc, zero}
use Rattle.std.specs.List.{All, list_all, count_by}
use Rattle.std.specs.declared.vec.Vec.{Vec}
use Rattle.std.specs.declared.alloc.Global.{Global}
use Rattle.std.proofs.lemmas.Bool.{false≢true, eqb-true, eq-eqb, or_cases, or_left, or_right, and_parts, and_from, and_cases, ltb-true, lt-ltb, cases_Bool, cases_lt}
use Rattle.std.proofs.lemmas.List.{get_or_past, get_or_append_left, length-map, length-append}
use Rattle.std.proofs.lemmas.List.Elements.{All-nil, All-cons, All-head, All-tail}
use Rattle.std.proofs.lemmas.List.Sums.{count_by-le-length, sum_by-cons}
use Rattle.std.proofs.lemmas.List.Folds.{list_any-append, list_any_at}
use Rattle.tb_order.specs.Graph.{Graph, graph_of, held, AreNodes, is_among, are_among}
use Rattle.tb_order.specs.Marks.{AreMarks, are_below, with_node, with_nodes}

pub not_both : {X : Type 0} (b : Bool) → b ≡ false → b ≡ true → X
not_both b f t = absurd (false≢true (sym f ∙ t))

-- the node at a place is among them
pub among_at : (nodes : List ℕ) (place : ℕ) → place < length nodes → is_among (get_or nodes place 0) nodes ≡ true
among_at nodes place within = list_any_at (eqb (get_or nodes place 0)) nodes place 0 within (eq-eqb (get_or nodes place 0) (get_or nodes place 0) refl)

-- a node that is among them is at a place
pub place_of : (nodes : List ℕ) (node : ℕ) → is_among node nodes ≡ true → (place : ℕ) × (place < length nodes) × (get_or nodes place 0 ≡ node)
place_of [] node h = absurd (false≢true h)
place_of (x ∷ xs) node h =
    ⊎_elim
    (λ e. (0, omega arith, sym (eqb-true node x e)))
    (λ t. let p = place_of xs node t in (suc p.0, omega arith, p.2))
    (or_cases (eqb node x) (is_among node xs) h)

-- one more at the end
pub among_push : (nodes : List ℕ) (last node : ℕ) → is_among node (nodes ++ last ∷ []) ≡ true → (is_among node nodes ≡ true) ⊎ (node ≡ last)
among_push nodes last node h =
    ⊎_elim
    (λ a. inl a)
    (λ b. ⊎_elim (λ e. inr (eqb-true node last e)) (λ n. absurd (false≢true n)) (or_cases (eqb node last) false b))
    (or_cases (is_among node nodes) (is_among node (last ∷ [])) (sym (list_any-append (eqb node) nodes (last ∷ [])) ∙ h))

pub among_left : (nodes more : List ℕ) (node : ℕ) → is_among node nodes ≡ true → is_among node (nodes ++ more) ≡ true
among_left nodes more node h = list_any-append (eqb node) nodes more ∙ or_left (is_among node nodes) (is_among node more) h

pub among_last : (nodes : List ℕ) (node : ℕ) → is_among node (nodes ++ node ∷ []) ≡ true
among_last nodes node =
    list_any-append (eqb node) nodes (node ∷ [])
    ∙ or_right (is_among node nodes) (is_among node (node ∷ [])) (or_left (eqb node node) false (eq-eqb node node refl))

-- where all are among others, each is
pub among_all : (inner nodes : List ℕ) (node : ℕ) → are_among inner nodes ≡ true → is_among node inner ≡ true → is_among node nodes ≡ true
among_all [] nodes node all h = absurd (false≢true h)
among_all (x ∷ xs) nodes node all h =
    let parts = and_parts (is_among x nodes) (are_among xs nodes) all in
    ⊎_elim
    (λ e. subst (λ (y : ℕ). is_among y nodes ≡ true) (sym (eqb-true node x e)) parts.0)
    (λ t. among_all xs nodes node parts.1 t)
    (or_cases (eqb node x) (is_among node xs) h)

-- where not all are, one is not
pub one_missing : (inner nodes : List ℕ) → are_among inner nodes ≡ false → (node : ℕ) × (is_among node inner ≡ true) × (is_among node nodes ≡ false)
one_missing [] nodes h = absurd (false≢true (sym h))
one_missing (x ∷ xs) nodes h =
    ⊎_elim
    (λ a. (x, or_left (eqb x x) (is_among x xs) (eq-eqb x x refl), a))
    (λ b. let m = one_missing xs nodes b in (m.0, or_right (eqb m.0 x) (is_among m.0 xs) m.1, m.2))
    (and_cases (is_among x nodes) (are_among xs nodes) h)

-- with nodes that may be there already
pub with_node_keeps : (nodes : List ℕ) (more node : ℕ) → is_among node nodes ≡ true → is_among node (with_node nodes more) ≡ true
with_node_keeps nodes more node h =
    ⊎_elim
    (λ (y : is_among more nodes ≡ true). subst (λ (b : Bool). is_among node (cond b nodes (nodes ++ more ∷ [])) ≡ true) (sym y) h)
    (λ (n : is_among more nodes ≡ false). subst (λ (b : Bool). is_among node (cond b nodes (nodes ++ more ∷ [])) ≡ true) (sym n) (among_left nodes (more ∷ []) node h))
    (cases_Bool (is_among more nodes))

pub with_node_has : (nodes : List ℕ) (node : ℕ) → is_among node (with_node nodes node) ≡ true
with_node_has nodes node =
    ⊎_elim
    (λ (y : is_among node nodes ≡ true). subst (λ (b : Bool). is_among node (cond b nodes (nodes ++ node ∷ [])) ≡ true) (sym y) y)
    (λ (n : is_among node nodes ≡ false). subst (λ (b : Bool). is_among node (cond b nodes (nodes ++ node ∷ [])) ≡ true) (sym n) (among_last nodes node))
    (cases_Bool (is_among node nodes))

pub with_node_only : (nodes : List ℕ) (more node : ℕ) → is_among node (with_node nodes more) ≡ true → (is_among node nodes ≡ true) ⊎ (node ≡ more)
with_node_only nodes more node h =
    ⊎_elim
    (λ (y : is_among more nodes ≡ true). inl (subst (λ (b : Bool). is_among node (cond b nodes (nodes ++ more ∷ [])) ≡ true) y h))
    (λ (n : is_among more nodes ≡ false). among_push nodes more node (subst (λ (b : Bool). is_among node (cond b nodes (nodes ++ more ∷ [])) ≡ true) n h))
    (cases_Bool (is_among more nodes))

pub with_node_at : (nodes : List ℕ) (more place : ℕ) → place < length nodes → (place < length (with_node nodes more)) × (get_or (with_node nodes more) place 0 ≡ get_or nodes place 0)
with_node_at nodes more place h =
    ⊎_elim
    (λ (y : is_among more nodes ≡ true). subst (λ (b : Bool). (place < length (cond b nodes (nodes ++ more ∷ []))) × (get_or (cond b nodes (nodes ++ more ∷ [])) place 0 ≡ get_or nodes place 0)) (sym y) (h, refl))
    (λ (n : is_among more nodes ≡ false). subst (λ (b : Bool). (place < length (cond b nodes (nodes ++ more ∷ []))) × (get_or (cond b nodes (nodes ++ more ∷ [])) place 0 ≡ get_or nodes place 0)) (sym n) (omega (arith, length-append nodes (more ∷ [])), get_or_append_left nodes (more ∷ []) 0 place h))
    (cases_Bool (is_among more nodes))

pub with_nodes_keep : (nodes more : List ℕ) (node : ℕ) → is_among node nodes ≡ true → is_among node (with_nodes nodes more) ≡ true
with_nodes_keep nodes [] node h = h
with_nodes_keep nodes (x ∷ xs) node h = with_nodes_keep (with_node nodes x) xs node (with_node_keeps nodes x node h)

pub with_nodes_have : (nodes more : List ℕ) (node : ℕ) → is_among node more ≡ true → is_among node (with_nodes nodes more) ≡ true
with_nodes_have nodes [] node h = absurd (false≢true h)
with_nodes_have nodes (x ∷ xs) node h =
    ⊎_elim
    (λ e. with_nodes_keep (with_node nodes x) xs node (subst (λ (y : ℕ). is_among y (with_node nodes x) ≡ true) (sym (eqb-true node x e)) (with_node_has nodes x)))
    (λ t. with_nodes_have (with_node nodes x) xs node t)
    (or_cases (eqb node x) (is_among node xs) h)

pub with_nodes_only : (nodes more : List ℕ) (node : ℕ) → is_among node (with_nodes nodes more) ≡ true → (is_among node nodes ≡ true) ⊎ (is_among node more ≡ true)
with_nodes_only nodes [] node h = inl h
with_nodes_only nodes (x ∷ xs) node h =
    ⊎_elim
    (λ a. ⊎_elim
    (λ b. inl b)
    (λ e. inr (or_left (eqb node x) (is_among node xs) (eq-eqb node x e)))
    (with_node_only nodes x node a))
    (λ t. inr (or_right (eqb node x) (is_among node xs) t))
    (with_nodes_only (with_node nodes x) xs node h)

pub with_nodes_at : (nodes more : List ℕ) (place : ℕ) → place < length nodes → (place < length (with_nodes nodes more)) × (get_or (with_nodes nodes more) place 0 ≡ get_or nodes place 0)
with_nodes_at nodes [] place h = (h, refl)
with_nodes_at nodes (x ∷ xs) place h =
    let one = with_node_at nodes x place h in
    let all = with_nodes_at (with_node nodes x) xs place one.0 in
    (all.0, all.1 ∙ one.1)

-- nodes that are marked are below the number of flags
pub marks_below : (flags : List Bool) (nodes : List ℕ) (node : ℕ) → AreMarks flags nodes → is_among node nodes ≡ true → node < length flags
marks_below flags nodes node marks h =
    ⊎_elim
    (λ l. l)
    (λ past. not_both (get_or flags node false) (get_or_past flags node false past) (marks.each node ∙ h))
    (cases_lt node (length flags))

pub mark_at : (flags : List Bool) (nodes : List ℕ) (place : ℕ) → AreMarks flags nodes → place < length nodes → get_or nodes place 0 < length flags
mark_at flags nodes place marks h = marks_below flags nodes (get_or nodes place 0) marks (among_at nodes place h)

pub marks_fit : (flags : List Bool) (nodes : List ℕ) → AreMarks flags nodes → length nodes ≤ length flags
marks_fit flags nodes marks = omega (arith, marks.count, count_by-le-length (λ (flag : Bool). flag) flags)

-- how many flags are set, one flag more in front
count_set : (flags : List Bool) → count_by (λ (flag : Bool). flag) (true ∷ flags) ≡ 1 + count_by (λ (flag : Bool). flag) flags
count_set flags = sum_by-cons (λ (flag : Bool). cond flag 1 0) true flags

zero_add : (flags : List Bool) → 0 + count_by (λ (flag : Bool). flag) flags ≡ count_by (λ (flag : Bool). flag) flags
zero_add flags = omega arith

count_clear : (flags : List Bool) → count_by (λ (flag : Bool). flag) (false ∷ flags) ≡ count_by (λ (flag : Bool). flag) flags
count_clear flags = sum_by-cons (λ (flag : Bool). cond flag 1 0) false flags ∙ zero_add flags

-- where as many flags are set as there are, each is
all_set : (flags : List Bool) → length flags ≤ count_by (λ flag. flag) flags → (node : ℕ) → node < length flags → get_or flags node false ≡ true
all_set [] h node l = absurd (omega arith)
all_set (true ∷ flags) h zero l = refl
all_set (true ∷ flags) h (suc node) l = all_set flags (omega (arith, count_set flags)) node (omega arith)
all_set (false ∷ flags) h node l = absurd (omega (arith, count_clear flags, count_by-le-length (λ (flag : Bool). flag) flags))

pub all_marked : (flags : List Bool) (nodes : List ℕ) → AreMarks flags nodes → length nodes ≡ length flags → (node : ℕ) → node < length flags → is_among node nodes ≡ true
all_marked flags nodes marks whole node l = sym (marks.each node) ∙ all_set flags (omega (arith, marks.count)) node l

-- where fewer are, one is not
one_clear : (flags : List Bool) → count_by (λ flag. flag) flags < length flags → (node : ℕ) × (node < length flags) × (get_or flags node false ≡ false)
one_clear [] h = absurd (omega arith)
one_clear (false ∷ flags) h = (0, omega arith, refl)
one_clear (true ∷ flags) h = let p = one_clear flags (omega (arith, count_set flags)) in (suc p.0, omega arith, p.2)

pub one_unmarked : (flags : List Bool) (nodes : List ℕ) → AreMarks flags nodes → length nodes < length flags → (node : ℕ) × (node < length flags) × (is_among node nodes ≡ false)
one_unmarked flags nodes marks short =
    let p = one_clear flags (omega (arith, marks.count)) in
    (p.0, p.1, sym (marks.each p.0) ∙ p.2)

-- what a node holds are nodes
pub held_nodes : (graph : Graph) (node : ℕ) → AreNodes graph → All (λ other. other < length graph) (held graph node)
held_nodes graph node nodes =
    ⊎_elim
    (λ l. nodes node [] l)
    (λ past. subst (λ (row : List ℕ). All (λ other. other < length graph) row) (sym (get_or_past graph node [] past)) (λ k d h. absurd (omega arith)))
    (cases_lt node (length graph))

pub held_fit : (rows : List (Vec ℕ Global)) (count node : ℕ) → AreNodes (graph_of rows) → count ≡ length rows → All (λ other. other < count) (held (graph_of rows) node)
held_fit rows count node nodes e =
    subst (λ (n : ℕ). All (λ other. other < n) (held (graph_of rows) node)) (length-map rows (λ (row : Vec ℕ Global). row.items) ∙ sym e) (held_nodes (graph_of rows) node nodes)

pub held_below : (graph : Graph) (a b : ℕ) → AreNodes graph → is_among b (held graph a) ≡ true → b < length graph
held_below graph a b nodes h =
    let p = place_of (held graph a) b h in
    subst (λ (n : ℕ). n < length graph) p.2 (held_nodes graph a nodes p.0 0 p.1)

-- what holds something is a node
pub holder_below : (graph : Graph) (a b : ℕ) → is_among b (held graph a) ≡ true → a < length graph
holder_below graph a b h =
    ⊎_elim
    (λ l. l)
    (λ past. absurd (false≢true (subst (λ (row : List ℕ). is_among b row ≡ true) (get_or_past graph a [] past) h)))
    (cases_lt a (length graph))

-- rows and the graph of them have the same nodes
pub rows_below : (rows : List (Vec ℕ Global)) (node : ℕ) → node < length rows → node < length (graph_of rows)
rows_below rows node l = omega (arith, length-map rows (λ (row : Vec ℕ Global). row.items))

pub below_rows : (rows : List (Vec ℕ Global)) (node : ℕ) → node < length (graph_of rows) → node < length rows
below_rows rows node l = omega (arith, length-map rows (λ (row : Vec ℕ Global). row.items))

-- a test of each element, and a fact of each
all_from_test : {X : Type 0} (test : X → Bool) (P : X → Type 0) → ((x : X) → test x ≡ true → P x) → (xs : List X) → list_all test xs ≡ true → All P xs
all_from_test test P says [] h = All-nil P
all_from_test test P says (x ∷ xs) h =
    let parts = and_parts (test x) (list_all test xs) h in
    All-cons P x xs (says x parts.0) (all_from_test test P says xs parts.1)

test_from_all : {X : Type 0} (test : X → Bool) (P : X → Type 0) → ((x : X) → P x → test x ≡ true) → (xs : List X) → All P xs → list_all test xs ≡ true
test_from_all test P shows [] h = refl
test_from_all test P shows (x ∷ xs) h = and_from (test x) (list_all test xs) (shows x (All-head P x xs h)) (test_from_all test P shows xs (All-tail P x xs h))

below_from_test : (count : ℕ) (nodes : List ℕ) → are_below count nodes ≡ true → All (λ (node : ℕ). node < count) nodes
below_from_test count nodes h = all_from_test (λ (node : ℕ). ltb node count) (λ (node : ℕ). node < count) (λ node e. ltb-true node count e) nodes h

test_from_below : (count : ℕ) (nodes : List ℕ) → All (λ (node : ℕ). node < count) nodes → are_below count nodes ≡ true
test_from_below count nodes h = test_from_all (λ (node : ℕ). ltb node count) (λ (node : ℕ). node < count) (λ node l. lt-ltb node count l) nodes h

-- the test of a graph's rows says that each number is a node
pub nodes_from_test : (rows : List (Vec ℕ Global)) → list_all (are_below (length rows)) (graph_of rows) ≡ true → AreNodes (graph_of rows)
nodes_from_test rows h =
    subst (λ (n : ℕ). All (All (λ (node : ℕ). node < n)) (graph_of rows)) (sym (length-map rows (λ (row : Vec ℕ Global). row.items)))
    (all_from_test (are_below (length rows)) (All (λ (node : ℕ). node < length rows)) (below_from_test (length rows)) (graph_of rows) h)

pub test_from_nodes : (rows : List (Vec ℕ Global)) → AreNodes (graph_of rows) → list_all (are_below (length rows)) (graph_of rows) ≡ true
test_from_nodes rows h =
    test_from_all (are_below (length rows)) (All (λ (node : ℕ). node < length rows)) (test_from_below (length rows)) (graph_of rows)
    (subst (λ (n : ℕ). All (All (λ (node : ℕ). node < n)) (graph_of rows)) (length-map rows (λ (row : Vec ℕ Global). row.items)) h)
