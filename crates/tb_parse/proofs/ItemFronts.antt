-- Items and attributes of the file: how far they go, and a function that does not end.
use Rattle.std.proofs.Common.{◌≡◌, ◌⊎◌, ℕ, ◌+◌, ◌≤◌, max, Bool, true, false, List, [], ◌∷◌, map, length, Option, Some, None, refl, sym, ap, subst, ◌∙◌, inl, inr, arith}
use Rattle.std.specs.Option.{option_map}
use Rattle.std.proofs.lemmas.List.{length-map}
use Rattle.tb_lex.specs.declared.token.Token.{Token}
use Rattle.tb_perm.specs.declared.span.Span.{Span}
use Rattle.tb_lex.specs.declared.keyword.Keyword.TheVariants as keyword_of
use Rattle.tb_lex.specs.declared.punctuation.Punctuation.TheVariants.{Pound, Not, OpenBrace, OpenBracket, CloseBrace}
use Rattle.tb_ast.specs.declared.leaf.Mark.{Mark}
use Rattle.tb_ast.specs.declared.expression.Expr.{Expr}
use Rattle.tb_ast.specs.declared.expression.Block.{Block}
use Rattle.tb_ast.specs.declared.expression.Stmt.{Stmt}
use Rattle.tb_ast.specs.declared.item.InnerAttribute.{InnerAttribute}
use Rattle.tb_ast.specs.declared.item.Attribute.{Attribute}
use Rattle.tb_ast.specs.declared.item.Item.{Item}
use Rattle.tb_ast.specs.declared.item.ItemKind.{ItemKind}
use Rattle.tb_ast.specs.declared.item.ItemKind.TheVariants as item
use Rattle.tb_ast.specs.Pieces.{punct, in_order}
use Rattle.tb_ast.specs.Files.{inner_row, attribute_row}
use Rattle.tb_ast.specs.Depth.{deepest, or_none, expr_depth, stmt_depth, block_depth, item_depth, parameter_depth, result_depth}
use Rattle.tb_syntax.specs.declared.heads.FunctionHead.{FunctionHead}
use Rattle.tb_syntax.specs.State.{State, Begins, Stands, piece_of}
use Rattle.tb_syntax.specs.Marks.{has_mark, mark_at, punct_at}
use Rattle.tb_syntax.specs.Leaves.{has_keyword}
use Rattle.tb_syntax.specs.Notes.{ResultEnds}
use Rattle.tb_syntax.specs.Attributes.{has_inner, begins_bang, attributes_at, IsInner}
use Rattle.tb_syntax.specs.Items.{head_at, head_row, IsHead}
use Rattle.tb_syntax.proofs.Options.{bind_some, some_is}
use Rattle.tb_syntax.proofs.Chains.{stands-split, stands-shrinks, begins-shrinks}
use Rattle.tb_syntax.proofs.Marks.{mark-complete, mark-has, other-mark, punct-sound, punct-complete}
use Rattle.tb_syntax.proofs.Attributed.{attributes-take, attributes-complete}
use Rattle.tb_syntax.proofs.Headed.{head-sound, head-complete}
use Rattle.tb_expr.specs.Exprs.{block_in}
use Rattle.tb_expr.specs.Grammar.{IsBlockAt, Braced, AreLinesAt}
use Rattle.tb_expr.proofs.CompleteDepths.{block-roll}
use Rattle.tb_parse.specs.Files.{function_of, item_of, begins_extern}
use Rattle.tb_parse.specs.Trees.{IsKindAt, AUse, AStruct, AnExtern, AFunction, IsItemAt, AnItem, IsRun, NoRun, LongerRun, IsInnerRun, NoInnerRun, LongerInnerRun}
use Rattle.tb_parse.specs.Fronts.{IsSuffix, NoneTo, IsLongest, InnerTo, ItemTo, OpenedTo, opened_at, StatementsTo, ItemsTo, NoItem, NextItem, InBody, FrontTo, Items, NextInner, Unfinished}
use Rattle.tb_parse.proofs.Within.{first-within, second-within, head-within}
use Rattle.tb_parse.proofs.Firsts.{keyword-has, front-no-pound, front-no-word, begins-extern, begins-no-extern}
use Rattle.tb_parse.proofs.HeadDepths.{head-deep}
use Rattle.tb_parse.proofs.ItemKinds.{extern_behind, head_behind, kind-no-pound}
use Rattle.tb_parse.proofs.Whole.{item-one, item-shorter}
use Rattle.tb_parse.proofs.OneFile.{inner-one, inner-shorter, inner-begins}
use Rattle.tb_parse.proofs.Aligned.{opened-suffix, whole-tail}
use Rattle.tb_parse.proofs.Past.{Past, past-here, past-then, past-longest}
use Rattle.tb_parse.proofs.BodyFronts.{body-over-front, statements-less}

not-both : (b : Bool) → b ≡ true → b ≡ false → ⊥
not-both true e f = absurd cc
not-both false e f = absurd cc

-- Attributes, a head and `{`: what is read stands there, and what stands there is read.

pub opened-sound : (state rest : State) → opened_at state ≡ Some rest → OpenedTo state rest
unfolding opened_at
opened-sound state rest e =
    let attributes = bind_some (attributes_at state) _ rest e in
    let head = bind_some (head_at 128 attributes.0.1) _ rest attributes.2 in
    let opening = bind_some (punct_at OpenBrace head.0.1) _ rest head.2 in
    let run = attributes-take state attributes.0.0 attributes.0.1 attributes.1 in
    let taken = head-sound 128 attributes.0.1 head.0 head.1 in
    let last : opening.0.1 ≡ rest = some_is opening.0.1 rest opening.2 in
    record {
      attributes = attributes.0.0;
      head = head.0.0;
      opening = opening.0.0;
      a = attributes.0.1;
      b = head.0.1;
      noted = run.stands;
      are = run.good;
      stands = taken.0;
      is = taken.1;
      ends = taken.2;
      opens = subst (λ s. Begins (punct OpenBrace opening.0.0) head.0.1 s) last (punct-sound OpenBrace head.0.1 opening.0.0 opening.0.1 opening.1);
    }

head-no-pound : (head : FunctionHead) (state rest : State) → Stands (head_row head) state rest → has_mark Pound state ≡ false
head-no-pound head state rest h = front-no-pound keyword_of.Fn (head_behind head) head.fn_keyword head.unsafe_keyword state rest h

opened-attributes : (state rest : State) (o : OpenedTo state rest) → attributes_at state ≡ Some (o.attributes, o.a)
opened-attributes state rest o = attributes-complete state o.attributes o.a o.are (head-no-pound o.head o.a o.b o.stands) o.noted

pub opened-complete : (state rest : State) → OpenedTo state rest → opened_at state ≡ Some rest
unfolding opened_at
opened-complete state rest o =
    let a = opened-attributes state rest o in
    let h = head-complete 128 o.a o.head o.b o.is o.ends o.stands in
    let p = punct-complete OpenBrace o.b o.opening rest o.opens in
    rw a (rw h (rw p refl))

none-some : (r : Option State) (s : State) → r ≡ None → r ≡ Some s → ⊥
none-some None s a b = absurd cc
none-some (Some x) s a b = absurd cc

pub not-opened : (state : State) → opened_at state ≡ None → NoneTo (OpenedTo state)
not-opened state e rest o = none-some (opened_at state) rest e (opened-complete state rest o)

opened-one : (state rest after : State) → OpenedTo state rest → OpenedTo state after → rest ≡ after
opened-one state rest after x y = some_is rest after (sym (opened-complete state rest x) ∙ opened-complete state after y)

-- what stands behind it is shorter
opened-shrinks : (state rest : State) → OpenedTo state rest → length rest ≤ length state
opened-shrinks state rest o =
    let x = stands-shrinks (in_order (map attribute_row o.attributes)) state o.a o.noted in
    let y = stands-shrinks (head_row o.head) o.a o.b o.stands in
    let z = begins-shrinks (punct OpenBrace o.opening) o.b rest o.opens in
    omega arith

-- Where an item stands, no function that does not end goes further.

-- the pieces of two heads at one place
head-one : (state : State) (n m : ℕ) (x y : FunctionHead) (rest after : State) → Stands (head_row x) state rest → IsHead n x → ResultEnds x.result rest
    → Stands (head_row y) state after → IsHead m y → ResultEnds y.result after → rest ≡ after
head-one state n m x y rest after stands is ends stands_too is_too ends_too =
    let first = head-deep n x is in
    let second = head-deep m y is_too in
    let d = max n m in
    let one = head-within n d x is (omega arith) (omega arith) in
    let two = head-within m d y is_too (omega arith) (omega arith) in
    let same : ◌≡◌ {A = FunctionHead × State} (x, rest) (y, after) = some_is (x, rest) (y, after) (sym (head-complete d state x rest one ends stands) ∙ head-complete d state y after two ends_too stands_too) in
    ap (λ z. z.1) same

one-brace : (state : State) (x y : Span) (rest after : State) → Begins (punct OpenBrace x) state rest → Begins (punct OpenBrace y) state after → rest ≡ after
one-brace state x y rest after h k =
    let same : ◌≡◌ {A = Span × State} (x, rest) (y, after) = some_is (x, rest) (y, after) (sym (punct-complete OpenBrace state x rest h) ∙ punct-complete OpenBrace state y after k) in
    ap (λ z. z.1) same

-- a body and statements behind the same `{`
block-over-front : (state : State) (body : Block) (rest : State) (opening : Span) (c after : State) → IsBlockAt state body rest → Begins (punct OpenBrace opening) state c → StatementsTo c after → length rest ≤ length after
block-over-front state body rest opening c after (Braced first statements last closing a b opens lines close) begins f =
    let same = one-brace state first opening a c opens begins in
    let less = body-over-front c statements last b after (subst (λ s. AreLinesAt s statements last b) same lines) f in
    let shrinks = begins-shrinks (punct CloseBrace closing) b rest close in
    omega arith

kind-over-front : (state : State) (k : ItemKind) (rest : State) → IsKindAt state k rest → (head : FunctionHead) (opening : Span) (b c after : State) → Stands (head_row head) state b → IsHead 128 head → ResultEnds head.result b
    → Begins (punct OpenBrace opening) b c → StatementsTo c after → length rest ≤ length after
kind-over-front state k rest (AUse u stands is) head opening b c after h good ends begins f =
    absurd (not-both (has_keyword keyword_of.Use state) (keyword-has keyword_of.Use keyword_of.Use u.use_keyword state stands.0 stands.1)
    (front-no-word keyword_of.Fn (head_behind head) head.fn_keyword head.unsafe_keyword keyword_of.Use state b h refl refl))
kind-over-front state k rest (AStruct s depth stands is) head opening b c after h good ends begins f =
    absurd (not-both (has_keyword keyword_of.Struct state) (keyword-has keyword_of.Struct keyword_of.Struct s.struct_keyword state stands.0 stands.1)
    (front-no-word keyword_of.Fn (head_behind head) head.fn_keyword head.unsafe_keyword keyword_of.Struct state b h refl refl))
kind-over-front state k rest (AnExtern block depth stands is) head opening b c after h good ends begins f =
    absurd (not-both (begins_extern state) (begins-extern (extern_behind block) block.extern_keyword block.unsafe_keyword state rest stands)
    (begins-no-extern (head_behind head) head.fn_keyword head.unsafe_keyword state b h))
kind-over-front state k rest (AFunction first depth body a stands is stops inside) head opening b c after h good ends begins f =
    let same = head-one state depth 128 first head a b stands is stops h good ends in
    block-over-front b body rest opening c after (subst (λ s. IsBlockAt s body rest) same inside) begins f

item-over-front : (state : State) (x : Item) (rest : State) → IsItemAt state x rest → (c after : State) → OpenedTo state c → StatementsTo c after → length rest ≤ length after
item-over-front state x rest (AnItem attributes k a stands are is) c after o f =
    let first = attributes-complete state attributes a are (kind-no-pound a k rest is) stands in
    let same : ◌≡◌ {A = List Attribute × State} (attributes, a) (o.attributes, o.a) = some_is (attributes, a) (o.attributes, o.a) (sym first ∙ opened-attributes state c o) in
    kind-over-front o.a k rest (subst (λ s. IsKindAt s k rest) (ap (λ z. z.1) same) is) o.head o.opening o.b c after o.stands o.is o.ends o.opens f

-- Where no item stands, the body of a function that stands there does not end.

block-deep : (opening : Span) (statements : List Stmt) (last : Option Expr) (closing : Span) → block_depth (block_in opening statements last closing) ≡ max (deepest (map stmt_depth statements)) (or_none (option_map expr_depth last)) + 1
block-deep opening statements None closing = block-roll _
block-deep opening statements (Some e) closing = block-roll _

pub opened-unfinished : (state c : State) → OpenedTo state c → NoneTo (ItemTo state) → Unfinished c
opened-unfinished state c o none statements last closing rest after lines close deep value =
    let body = block_in o.opening statements last closing in
    let inside : IsBlockAt o.b body after = Braced o.opening statements last closing c rest o.opens lines close in
    let kind = AFunction {state = o.a} {rest = after} o.head 128 body o.b o.stands o.is o.ends inside in
    let heads = head-deep 128 o.head o.is in
    let bodies = block-deep o.opening statements last closing in
    let bound : max (max (deepest (map parameter_depth o.head.parameters)) (result_depth o.head.result)) (block_depth body) ≤ 128 = let p = heads.0 in let r = heads.1 in omega arith in
    none after (item_of o.attributes (item.Function (function_of o.head body)), AnItem o.attributes (item.Function (function_of o.head body)) o.a o.noted o.are kind, bound)

-- The longest front where no item stands.

pub function-front : (state c rest : State) → OpenedTo state c → StatementsTo c rest → ItemsTo state rest
function-front state c rest o f = InBody c o f

pub function-longest : (state c end : State) → NoneTo (ItemTo state) → OpenedTo state c → StatementsTo c end → IsLongest (StatementsTo c) (length end) → IsLongest (ItemsTo state) (length end)
function-longest state c end none o f longest after NoItem =
    let x = opened-shrinks state c o in
    let y = statements-less c end f in
    omega arith
function-longest state c end none o f longest after (NextItem a is g) = absurd (none a is)
function-longest state c end none o f longest after (InBody d p g) = longest after (subst (λ s. StatementsTo s after) (opened-one state d c p o) g)

pub nothing-longest : (state : State) → NoneTo (ItemTo state) → NoneTo (OpenedTo state) → IsLongest (ItemsTo state) (length state)
nothing-longest state none closed after NoItem = omega arith
nothing-longest state none closed after (NextItem a is g) = absurd (none a is)
nothing-longest state none closed after (InBody d p g) = absurd (closed d p)

-- Behind a run of items.

item-on : (state a : State) (x : Item) → IsItemAt state x a → (after : State) → ItemsTo state after → (length a ≤ length after) ⊎ ItemsTo a after
item-on state a x is after NoItem = let less = item-shorter state x a is in inl (omega arith)
item-on state a x is after (NextItem b y g) =
    let same = item-one state y.0 b x a y.1 is in
    inr (subst (λ s. ItemsTo s after) same.1 g)
item-on state a x is after (InBody c o f) = inl (item-over-front state x a is c after o f)

item-past : (state a : State) (x : Item) → IsItemAt state x a → item_depth x ≤ 128 → Past ItemsTo state a
item-past state a x is deep = record { back = λ rest f. NextItem a (x, is, deep) f; on = λ rest f. item-on state a x is rest f }

run-shrinks : (state : State) (xs : List Item) (rest : State) → IsRun state xs rest → length rest ≤ length state
run-shrinks state xs rest NoRun = omega arith
run-shrinks state xs rest (LongerRun first others a is behind) =
    let x = item-shorter state first a is in
    let y = run-shrinks a others rest behind in
    omega arith

pub run-past : (state : State) (xs : List Item) (rest : State) → IsRun state xs rest → deepest (map item_depth xs) ≤ 128 → Past ItemsTo state rest
run-past state xs rest NoRun deep = past-here ItemsTo rest
run-past state xs rest (LongerRun first others a is behind) deep =
    past-then ItemsTo state a rest (run-shrinks a others rest behind) (item-past state a first is (first-within (item_depth first) (deepest (map item_depth others)) 128 deep))
    (run-past a others rest behind (second-within (item_depth first) (deepest (map item_depth others)) 128 deep))

pub items-longest : (state : State) (xs : List Item) (rest end : State) → IsRun state xs rest → deepest (map item_depth xs) ≤ 128 → ItemsTo rest end → IsLongest (ItemsTo rest) (length end) → IsLongest (ItemsTo state) (length end)
items-longest state xs rest end run deep f longest = past-longest ItemsTo state rest (length end) (longest rest NoItem) (run-past state xs rest run deep) longest

pub items-front : (state : State) (xs : List Item) (rest end : State) → IsRun state xs rest → deepest (map item_depth xs) ≤ 128 → ItemsTo rest end → ItemsTo state end
items-front state xs rest end run deep f = (run-past state xs rest run deep).back end f

-- Behind a run of attributes of the file: where such an attribute stands, no item begins.

no-pound-no-inner : (state : State) → has_mark Pound state ≡ false → has_inner state ≡ false
unfolding has_inner
no-pound-no-inner state e = read-no-inner (mark_at Pound state) refl where
  read-no-inner : (r : Option (Mark × State)) → mark_at Pound state ≡ r → begins_bang (mark_at Pound state) ≡ false
  read-no-inner None q = ap begins_bang q
  read-no-inner (Some y) q = absurd (not-both (has_mark Pound state) (mark-has Pound state y q) e)

attributed-no-inner : (state : State) (attributes : List Attribute) (a : State) → Stands (in_order (map attribute_row attributes)) state a → has_mark Pound a ≡ false → has_inner state ≡ false
unfolding has_inner
attributed-no-inner state [] a h e = subst (λ s. has_inner s ≡ false) (sym h) (no-pound-no-inner a e)
attributed-no-inner state (x ∷ xs) a h e =
    let s = stands-split (attribute_row x) (in_order (map attribute_row xs)) state a h in
    let row = s.1 in
    let m : Mark = record { span = x.pound; glued = false } in
    let bracket : Mark = record { span = x.opening; glued = false } in
    let read : mark_at Pound state ≡ Some (m, row.0) = mark-complete Pound state m row.0 row.1 in
    ap begins_bang read ∙ other-mark OpenBracket Not bracket row.0 row.2.0 refl row.2.1

item-no-inner : (state : State) (x : Item) (rest : State) → IsItemAt state x rest → has_inner state ≡ false
item-no-inner state x rest (AnItem attributes k a stands are is) = attributed-no-inner state attributes a stands (kind-no-pound a k rest is)

opened-no-inner : (state rest : State) → OpenedTo state rest → has_inner state ≡ false
opened-no-inner state rest o = attributed-no-inner state o.attributes o.a o.noted (head-no-pound o.head o.a o.b o.stands)

inner-over-items : (state a : State) (x : InnerAttribute) → Stands (inner_row x) state a → (after : State) → ItemsTo state after → length a ≤ length after
inner-over-items state a x h after NoItem = let less = inner-shorter state x a h in omega arith
inner-over-items state a x h after (NextItem b y g) = absurd (not-both (has_inner state) (inner-begins state x a h) (item-no-inner state y.0 b y.1))
inner-over-items state a x h after (InBody c o f) = absurd (not-both (has_inner state) (inner-begins state x a h) (opened-no-inner state c o))

inner-on : (state a : State) (x : InnerAttribute) → Stands (inner_row x) state a → IsInner x → (after : State) → FrontTo state after → (length a ≤ length after) ⊎ FrontTo a after
inner-on state a x h good after (Items f) = inl (inner-over-items state a x h after f)
inner-on state a x h good after (NextInner b y g) =
    let same = inner-one state y.0 x b a y.1 y.2 h good in
    inr (subst (λ s. FrontTo s after) same.1 g)

inner-past : (state a : State) (x : InnerAttribute) → Stands (inner_row x) state a → IsInner x → Past FrontTo state a
inner-past state a x h good = record { back = λ rest f. NextInner a (x, h, good) f; on = λ rest f. inner-on state a x h good rest f }

inner-run-shrinks : (state : State) (xs : List InnerAttribute) (rest : State) → IsInnerRun state xs rest → length rest ≤ length state
inner-run-shrinks state xs rest NoInnerRun = omega arith
inner-run-shrinks state xs rest (LongerInnerRun first others a h good behind) =
    let x = inner-shorter state first a h in
    let y = inner-run-shrinks a others rest behind in
    omega arith

inner-run-past : (state : State) (xs : List InnerAttribute) (rest : State) → IsInnerRun state xs rest → Past FrontTo state rest
inner-run-past state xs rest NoInnerRun = past-here FrontTo rest
inner-run-past state xs rest (LongerInnerRun first others a h good behind) =
    past-then FrontTo state a rest (inner-run-shrinks a others rest behind) (inner-past state a first h good) (inner-run-past a others rest behind)

no-inner-longest : (state : State) (left : ℕ) → NoneTo (InnerTo state) → IsLongest (ItemsTo state) left → IsLongest (FrontTo state) left
no-inner-longest state left none longest after (Items f) = longest after f
no-inner-longest state left none longest after (NextInner a x g) = absurd (none a x)

-- the longest front, by the runs before it
pub record LongestFront (start end : State) : Type 0 where
  pub front : FrontTo start end
  pub longest : IsLongest (FrontTo start) (length end)

pub longest-front : (start : State) (inners : List InnerAttribute) (middle : State) (items : List Item) (rest end : State) → IsInnerRun start inners middle → NoneTo (InnerTo middle)
    → IsRun middle items rest → deepest (map item_depth items) ≤ 128 → ItemsTo rest end → IsLongest (ItemsTo rest) (length end) → LongestFront start end
longest-front start inners middle items rest end before none run deep f longest =
    let here = items-front middle items rest end run deep f in
    let further = items-longest middle items rest end run deep f longest in
    record {
      front = (inner-run-past start inners middle before).back end (Items here);
      longest = past-longest FrontTo start middle (length end) (further middle NoItem) (inner-run-past start inners middle before) (no-inner-longest middle (length end) none further);
    }

-- where the runs reach the end, no attribute of the file stands behind the first
pub items-no-inner : (state : State) (xs : List Item) (rest : State) → IsRun state xs rest → rest ≡ [] → has_inner state ≡ false
unfolding has_inner mark_at
items-no-inner state xs rest NoRun e = subst (λ s. has_inner s ≡ false) (sym e) refl
items-no-inner state xs rest (LongerRun first others a is behind) e = item-no-inner state first a is

-- A function that does not end, over tokens.

pub function-tokens : (state c : State) (inside left : List Token) → opened_at state ≡ Some c → map piece_of inside ≡ c → StatementsTo (map piece_of inside) (map piece_of left) → ItemsTo state (map piece_of left)
function-tokens state c inside left read same f = InBody c (opened-sound state c read) (subst (λ s. StatementsTo s (map piece_of left)) same f)

pub function-left : (state c : State) (inside left : List Token) → NoneTo (ItemTo state) → opened_at state ≡ Some c → map piece_of inside ≡ c → StatementsTo (map piece_of inside) (map piece_of left)
    → IsLongest (StatementsTo (map piece_of inside)) (length left) → IsLongest (ItemsTo state) (length left)
function-left state c inside left none read same f longest after g =
    let l : length (map piece_of left) ≡ length left = length-map left piece_of in
    let there : StatementsTo c (map piece_of left) = subst (λ s. StatementsTo s (map piece_of left)) same f in
    let far : IsLongest (StatementsTo c) (length (map piece_of left)) =
    λ other h. let less = longest other (subst (λ s. StatementsTo s other) (sym same) h) in omega arith in
    let less = function-longest state c (map piece_of left) none (opened-sound state c read) there far after g in
    omega arith

pub function-whole : (state c : State) → opened_at state ≡ Some c → IsSuffix state c
function-whole state c read = opened-suffix state state c (opened-sound state c read) (whole-tail state)

pub function-unfinished : (state c : State) (inside : List Token) → NoneTo (ItemTo state) → opened_at state ≡ Some c → map piece_of inside ≡ c → Unfinished (map piece_of inside)
function-unfinished state c inside none read same = subst (λ s. Unfinished s) (sym same) (opened-unfinished state c (opened-sound state c read) none)

pub function-none : (tokens : List Token) → NoneTo (ItemTo (map piece_of tokens)) → opened_at (map piece_of tokens) ≡ None → IsLongest (ItemsTo (map piece_of tokens)) (length tokens)
function-none tokens none closed after f =
    let l : length (map piece_of tokens) ≡ length tokens = length-map tokens piece_of in
    let less = nothing-longest (map piece_of tokens) none (not-opened (map piece_of tokens) closed) after f in
    omega arith

pub no-function : (state : State) → ItemsTo state state
no-function state = NoItem

pub ruleset functions = (function-tokens, function-left, function-whole, function-unfinished, function-none, no-function)
