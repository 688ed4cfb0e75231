-- Attributes of the file and items, one behind another: no place has two runs of them, and a tree goes on where a run ends.
use Rattle.std.proofs.Common.{◌≡◌, ◌<◌, ◌≤◌, Bool, true, false, List, [], ◌∷◌, ◌++◌, map, length, Some, refl, sym, ap, subst, ◌∙◌, arith}
use Rattle.std.specs.List.{AllByRecursion}
use Rattle.std.specs.Prelude.{codes}
use Rattle.tb_lex.specs.declared.punctuation.Punctuation.TheVariants.{Pound, Not, OpenBracket, CloseBracket}
use Rattle.tb_lex.specs.declared.token.Token.{Token}
use Rattle.tb_ast.specs.declared.item.InnerAttribute.{InnerAttribute}
use Rattle.tb_ast.specs.declared.item.Item.{Item}
use Rattle.tb_ast.specs.declared.leaf.Mark.{Mark}
use Rattle.tb_ast.specs.Pieces.{punct, in_order}
use Rattle.tb_ast.specs.Files.{word_list, inner_row}
use Rattle.tb_ast.specs.Depth.{deepest, item_depth}
use Rattle.tb_syntax.specs.State.{State, Stands, piece_of}
use Rattle.tb_syntax.specs.Marks.{mark_at}
use Rattle.tb_syntax.specs.Attributes.{has_inner, begins_bang, IsInner}
use Rattle.tb_syntax.proofs.Options.{some_is}
use Rattle.tb_syntax.proofs.Chains.{stands-then, stands-split, stands-shrinks}
use Rattle.tb_syntax.proofs.Marks.{mark-complete, pound-shorter}
use Rattle.tb_syntax.proofs.Listed.{begins-has}
use Rattle.tb_syntax.proofs.Attributed.{inner-complete, inners-complete}
use Rattle.tb_parse.specs.Trees.{IsItemAt, AreItems, NoItems, MoreItems, IsRun, NoRun, LongerRun, IsInnerRun, NoInnerRun, LongerInnerRun, IsFile}
use Rattle.tb_parse.specs.Fronts.{NoneTo, InnerTo, ItemTo}
use Rattle.tb_parse.proofs.Within.{first-within, second-within}
use Rattle.tb_parse.proofs.Whole.{item-one, item-shorter}

-- Items.

pub items-one : (state : State) (xs ys : List Item) → AreItems state xs → AreItems state ys → xs ≡ ys
items-one state xs ys NoItems NoItems = refl
items-one state xs ys NoItems (MoreItems first others a is behind) = let less = item-shorter [] first a is in absurd (omega arith)
items-one state xs ys (MoreItems first others a is behind) NoItems = let less = item-shorter [] first a is in absurd (omega arith)
items-one state xs ys (MoreItems x others a is behind) (MoreItems y more b is_too behind_too) =
    let same = item-one state x a y b is is_too in
    let there : AreItems a more = subst (λ s. AreItems s more) (sym same.1) behind_too in
    ap (λ (z : Item). z ∷ others) same.0 ∙ ap (λ (l : List Item). y ∷ l) (items-one a others more behind there)

-- a run goes on
pub run-more : (state : State) (xs : List Item) (middle : State) (x : Item) (rest : State) → IsRun state xs middle → IsItemAt middle x rest → IsRun state (xs ++ x ∷ []) rest
run-more state xs middle x rest NoRun is = LongerRun x [] rest is NoRun
run-more state xs middle x rest (LongerRun first others a before behind) is = LongerRun first (others ++ x ∷ []) a before (run-more a others middle x rest behind is)

pub deepest-more : (xs : List Item) (x : Item) → deepest (map item_depth xs) ≤ 128 → item_depth x ≤ 128 → deepest (map item_depth (xs ++ x ∷ [])) ≤ 128
deepest-more [] x h e = omega arith
deepest-more (y ∷ xs) x h e =
    let first = first-within (item_depth y) (deepest (map item_depth xs)) 128 h in
    let others = deepest-more xs x (second-within (item_depth y) (deepest (map item_depth xs)) 128 h) e in
    omega arith

-- a run to the end
pub run-whole : (state : State) (xs : List Item) (rest : State) → IsRun state xs rest → rest ≡ [] → AreItems state xs
run-whole state xs rest NoRun e = subst (λ s. AreItems s []) (sym e) NoItems
run-whole state xs rest (LongerRun first others a is behind) e = MoreItems first others a is (run-whole a others rest behind e)

-- the items of a tree behind a run
record Left (rest : State) : Type 0 where
  others : List Item
  are : AreItems rest others
  deep : deepest (map item_depth others) ≤ 128

run-left : (state : State) (xs : List Item) (rest : State) → IsRun state xs rest → (ys : List Item) → AreItems state ys → deepest (map item_depth ys) ≤ 128 → Left rest
run-left state xs rest NoRun ys are deep = record { others = ys; are = are; deep = deep }
run-left state xs rest (LongerRun first others a is behind) ys NoItems deep = let less = item-shorter [] first a is in absurd (omega arith)
run-left state xs rest (LongerRun first others a is behind) ys (MoreItems y more b is_too left) deep =
    let same = item-one state first a y b is is_too in
    run-left a others rest behind more (subst (λ s. AreItems s more) (sym same.1) left) (second-within (item_depth y) (deepest (map item_depth more)) 128 deep)

none-left : (rest : State) (ys : List Item) → NoneTo (ItemTo rest) → AreItems rest ys → deepest (map item_depth ys) ≤ 128 → rest ≡ []
none-left rest ys none NoItems deep = refl
none-left rest ys none (MoreItems y more b is left) deep = absurd (none b (y, is, first-within (item_depth y) (deepest (map item_depth more)) 128 deep))

-- where no item stands behind a run, and something does, there is no tree
pub run-refused : (state : State) (xs : List Item) (rest : State) → IsRun state xs rest → NoneTo (ItemTo rest) → (ys : List Item) → AreItems state ys → deepest (map item_depth ys) ≤ 128 → rest ≡ []
run-refused state xs rest run none ys are deep = let l = run-left state xs rest run ys are deep in none-left rest l.others none l.are l.deep

-- Attributes of the file.

pub inner-one : (state : State) (x y : InnerAttribute) (rest after : State) → Stands (inner_row x) state rest → IsInner x → Stands (inner_row y) state after → IsInner y → (x ≡ y) × (rest ≡ after)
inner-one state x y rest after h good h_too good_too =
    let same : ◌≡◌ {A = InnerAttribute × State} (x, rest) (y, after) =
    some_is (x, rest) (y, after) (sym (inner-complete state x rest good h) ∙ inner-complete state y after good_too h_too) in
    (ap (λ z. z.0) same, ap (λ z. z.1) same)

pub inner-shorter : (state : State) (x : InnerAttribute) (rest : State) → Stands (inner_row x) state rest → length rest < length state
inner-shorter state x rest h =
    let first = pound-shorter x.pound state h.0 h.1 in
    let others = stands-shrinks (punct Not x.bang ∷ punct OpenBracket x.opening ∷ (word_list (codes "allow") x.allow ++ punct CloseBracket x.closing ∷ [])) h.0 rest h.2 in
    omega arith

pub inner-begins : (state : State) (x : InnerAttribute) (rest : State) → Stands (inner_row x) state rest → has_inner state ≡ true
unfolding has_inner
inner-begins state x rest h =
    let m : Mark = record { span = x.pound; glued = false } in
    let bang : Mark = record { span = x.bang; glued = false } in
    let read : mark_at Pound state ≡ Some (m, h.0) = mark-complete Pound state m h.0 h.1 in
    ap begins_bang read ∙ begins-has Not bang h.0 h.2.0 h.2.1

pub inner-run-more : (state : State) (xs : List InnerAttribute) (middle : State) (x : InnerAttribute) (rest : State) → IsInnerRun state xs middle → Stands (inner_row x) middle rest → IsInner x → IsInnerRun state (xs ++ x ∷ []) rest
inner-run-more state xs middle x rest NoInnerRun h good = LongerInnerRun x [] rest h good NoInnerRun
inner-run-more state xs middle x rest (LongerInnerRun first others a before fine behind) h good = LongerInnerRun first (others ++ x ∷ []) a before fine (inner-run-more a others middle x rest behind h good)

pub record InnersStand (state : State) (xs : List InnerAttribute) (rest : State) : Type 0 where
  pub stands : Stands (in_order (map inner_row xs)) state rest
  pub good : AllByRecursion IsInner xs

pub inner-run-stands : (state : State) (xs : List InnerAttribute) (rest : State) → IsInnerRun state xs rest → InnersStand state xs rest
inner-run-stands state xs rest NoInnerRun = record { stands = refl; good = tt }
inner-run-stands state xs rest (LongerInnerRun first others a h fine behind) =
    let more = inner-run-stands a others rest behind in
    record { stands = stands-then (inner_row first) (in_order (map inner_row others)) state a rest h more.stands; good = (fine, more.good) }

not-both : (b : Bool) → b ≡ true → b ≡ false → ⊥
not-both true e f = absurd cc
not-both false e f = absurd cc

-- the attributes of a tree are all that stand there
pub inner-run-left : (state : State) (xs : List InnerAttribute) (middle : State) → IsInnerRun state xs middle → NoneTo (InnerTo middle)
    → (ys : List InnerAttribute) (rest : State) → Stands (in_order (map inner_row ys)) state rest → AllByRecursion IsInner ys → has_inner rest ≡ false → middle ≡ rest
inner-run-left state xs middle NoInnerRun none [] rest h good stop = h
inner-run-left state xs middle NoInnerRun none (y ∷ ys) rest h good stop =
    let s = stands-split (inner_row y) (in_order (map inner_row ys)) state rest h in
    absurd (none s.0 (y, s.1, good.0))
inner-run-left state xs middle (LongerInnerRun first others a before fine behind) none [] rest h good stop =
    let here : has_inner rest ≡ true = subst (λ s. has_inner s ≡ true) h (inner-begins state first a before) in
    absurd (not-both (has_inner rest) here stop)
inner-run-left state xs middle (LongerInnerRun first others a before fine behind) none (y ∷ ys) rest h good stop =
    let s = stands-split (inner_row y) (in_order (map inner_row ys)) state rest h in
    let same = inner-one state first y a s.0 before fine s.1 good.0 in
    inner-run-left a others middle behind none ys rest (subst (λ z. Stands (in_order (map inner_row ys)) z rest) (sym same.1) s.2) good.1 stop

-- no tokens have two trees
pub record SameFile (xs ys : List InnerAttribute) (items others : List Item) : Type 0 where
  pub same_inners : xs ≡ ys
  pub same_items : items ≡ others

pub file-one : (state : State) (xs ys : List InnerAttribute) (items others : List Item) → IsFile state xs items → IsFile state ys others → SameFile xs ys items others
file-one state xs ys items others file other =
    let first = inners-complete state xs file.middle file.are_inner file.no_more file.stands in
    let second = inners-complete state ys other.middle other.are_inner other.no_more other.stands in
    let same : ◌≡◌ {A = List InnerAttribute × State} (xs, file.middle) (ys, other.middle) = some_is (xs, file.middle) (ys, other.middle) (sym first ∙ second) in
    let middle : file.middle ≡ other.middle = ap (λ z. z.1) same in
    record { same_inners = ap (λ z. z.0) same; same_items = items-one file.middle items others file.are_items (subst (λ s. AreItems s others) (sym middle) other.are_items) }

-- The loops, over tokens.

pub no-inner-here : (rest : List Token) → rest ≡ [] → NoneTo (InnerTo (map piece_of rest))
no-inner-here rest e after x =
    let less = inner-shorter (map piece_of rest) x.0 after x.1 in
    let none : length (map piece_of rest) ≡ 0 = ap (λ (ts : List Token). length (map piece_of ts)) e in
    absurd (omega arith)

pub no-item-here : (rest : List Token) → rest ≡ [] → NoneTo (ItemTo (map piece_of rest))
no-item-here rest e after y =
    let less = item-shorter (map piece_of rest) y.0 after y.1 in
    let none : length (map piece_of rest) ≡ 0 = ap (λ (ts : List Token). length (map piece_of ts)) e in
    absurd (omega arith)

pub inner-run-start : (state : State) → IsInnerRun state [] state
inner-run-start state = NoInnerRun

pub run-start : (state : State) → IsRun state [] state
run-start state = NoRun

pub ruleset inner_runs = (inner-run-start, inner-run-more, no-inner-here)

pub ruleset runs = (run-start, run-more, deepest-more, no-item-here)
