-- The refused token: where the longest front ends.
use Rattle.std.proofs.Common.{◌≡◌, ℕ, ◌-◌, ◌≤◌, List, [], ◌∷◌, map, length, drop, refl, sym, ap, subst, ◌∙◌, arith}
use Rattle.std.proofs.lemmas.List.{length-map, length-drop, drop-map}
use Rattle.tb_lex.specs.declared.token.Token.{Token}
use Rattle.tb_lex.specs.declared.token.Tokens.{Tokens}
use Rattle.tb_ast.specs.declared.item.InnerAttribute.{InnerAttribute}
use Rattle.tb_ast.specs.declared.item.Item.{Item}
use Rattle.tb_ast.specs.declared.item.Tree.{Tree}
use Rattle.tb_ast.specs.Depth.{deepest, item_depth, depth_of}
use Rattle.tb_ast.specs.Joined.{token_of, tokens_of}
use Rattle.tb_syntax.specs.State.{State, piece_of}
use Rattle.tb_parse.specs.declared.error.ParseError.TheVariants as errors
use Rattle.tb_parse.specs.Trees.{AreItems, IsRun, IsInnerRun, IsTreeOf}
use Rattle.tb_parse.specs.Fronts.{IsSuffix, NoneTo, IsLongest, InnerTo, ItemTo, StatementsTo, NoStatement, NextStatement, BeforeBrace, BeforeElse, ItemsTo, NoItem, NextItem, InBody, FrontTo, Items, NextInner, IsRefusedAt, code_of, place_of, RefusesAs}
use Rattle.tb_parse.proofs.Aligned.{stmt-suffix, blocky-suffix, cut-suffix, item-suffix, inner-suffix, opened-suffix, suffix-length, suffix-tail}
use Rattle.tb_parse.proofs.Spelled.{back, tree-spelled}
use Rattle.tb_parse.proofs.One.{one-tree}
use Rattle.tb_parse.proofs.OneFile.{inner-run-stands, inner-run-left, run-whole, run-refused}
use Rattle.tb_parse.proofs.ItemFronts.{longest-front, items-no-inner}

-- Fronts end on whole tokens.

statements-suffix : (source state rest : State) → StatementsTo state rest → IsSuffix source state → IsSuffix source rest
statements-suffix source state rest NoStatement s = s
statements-suffix source state rest (NextStatement a x f) s = statements-suffix source a rest f (stmt-suffix source state x.0 a x.1 (suffix-tail source state s))
statements-suffix source state rest (BeforeBrace e closing after h close d) s = blocky-suffix source state e rest h (suffix-tail source state s)
statements-suffix source state rest (BeforeElse e h d) s = cut-suffix source state e rest h (suffix-tail source state s)

items-suffix : (source state rest : State) → ItemsTo state rest → IsSuffix source state → IsSuffix source rest
items-suffix source state rest NoItem s = s
items-suffix source state rest (NextItem a x f) s = items-suffix source a rest f (item-suffix source state x.0 a x.1 (suffix-tail source state s))
items-suffix source state rest (InBody c o f) s = statements-suffix source c rest f (opened-suffix source state c o (suffix-tail source state s))

front-suffix : (source state rest : State) → FrontTo state rest → IsSuffix source state → IsSuffix source rest
front-suffix source state rest (Items f) s = items-suffix source state rest f s
front-suffix source state rest (NextInner a x f) s = front-suffix source a rest f (inner-suffix source state x.0 a x.1 (suffix-tail source state s))

-- tokens are told by their pieces
same-tokens : (xs ys : List Token) → map piece_of xs ≡ map piece_of ys → xs ≡ ys
same-tokens xs ys e = sym (back xs) ∙ ap (map token_of) e ∙ back ys

-- the place of the longest front
pub record RefusedAt (tokens left : List Token) : Type 0 where
  pub place : ℕ
  pub is : IsRefusedAt tokens place
  pub same : drop place tokens ≡ left

pub refused-at : (tokens left : List Token) → FrontTo (map piece_of tokens) (map piece_of left) → IsLongest (FrontTo (map piece_of tokens)) (length left) → RefusedAt tokens left
refused-at tokens left front longest =
    let source = map piece_of tokens in
    let s = suffix-length source (map piece_of left) (front-suffix source source (map piece_of left) front (0, refl)) in
    let l : length source ≡ length tokens = length-map tokens piece_of in
    let m : length (map piece_of left) ≡ length left = length-map left piece_of in
    let place : ℕ = length tokens - length left in
    let n : length source - length (map piece_of left) ≡ place = omega arith in
    let dropped : drop place source ≡ map piece_of left = ap (λ k. drop k source) (sym n) ∙ s.1 in
    let same : drop place tokens ≡ left = same-tokens (drop place tokens) left (sym (drop-map piece_of place tokens) ∙ dropped) in
    record {
      place = place;
      is = record {
        front = (omega arith, subst (λ ts. FrontTo source (map piece_of ts)) (sym same) front);
        longest = λ count f. is-longest count f.0 (longest (map piece_of (drop count tokens)) f.1);
      };
      same = same;
    } where
      is-longest : (count : ℕ) → count ≤ length tokens → length left ≤ length (map piece_of (drop count tokens)) → count ≤ length tokens - length left
      is-longest count within less =
          let a : length (map piece_of (drop count tokens)) ≡ length (drop count tokens) = length-map (drop count tokens) piece_of in
          let b : length (drop count tokens) ≡ length tokens - count = length-drop count tokens in
          omega arith

pub one-refused : (tokens : List Token) (place other : ℕ) → IsRefusedAt tokens place → IsRefusedAt tokens other → place ≡ other
one-refused tokens place other x y =
    let a = y.longest place x.front in
    let b = x.longest other y.front in
    omega arith

-- What `parse` promises.

abbrev pub tree_with : List InnerAttribute → List Item → ℕ → Tree
tree_with attributes items end = record { attributes = attributes; items = items; end = end }

-- by the runs up to the end
pub parsed-tree : (tokens : Tokens) (attributes : List InnerAttribute) (middle rest : List Token) (items : List Item) → IsInnerRun (map piece_of tokens.list) attributes (map piece_of middle)
    → IsRun (map piece_of middle) items (map piece_of rest) → rest ≡ [] → IsTreeOf tokens (tree_with attributes items tokens.end)
parsed-tree tokens attributes middle rest items before run e =
    let stand = inner-run-stands (map piece_of tokens.list) attributes (map piece_of middle) before in
    let ended : map piece_of rest ≡ [] = ap (map piece_of) e in (
      record {
        middle = map piece_of middle;
        stands = stand.stands;
        are_inner = stand.good;
        no_more = items-no-inner (map piece_of middle) items (map piece_of rest) run ended;
        are_items = run-whole (map piece_of middle) items (map piece_of rest) run ended;
      },
      refl,
    )

-- and by those that end before it

no-pieces : (rest : List Token) → map piece_of rest ≡ [] → rest ≡ []
no-pieces [] e = refl
no-pieces (token ∷ rest) e = absurd cc

pub parsed-none : (tokens : Tokens) (attributes : List InnerAttribute) (middle rest : List Token) (items : List Item) → IsInnerRun (map piece_of tokens.list) attributes (map piece_of middle)
    → NoneTo (InnerTo (map piece_of middle)) → IsRun (map piece_of middle) items (map piece_of rest) → NoneTo (ItemTo (map piece_of rest)) → (rest ≡ [] → ⊥)
    → (tree : Tree) → IsTreeOf tokens tree → depth_of tree ≤ 128 → ⊥
parsed-none tokens attributes middle rest items before none run stop more tree is deep =
    let file = is.0 in
    let same = inner-run-left (map piece_of tokens.list) attributes (map piece_of middle) before none tree.attributes file.middle file.stands file.are_inner file.no_more in
    let left = run-refused (map piece_of middle) items (map piece_of rest) run stop tree.items (subst (λ s. AreItems s tree.items) (sym same) file.are_items) deep in
    more (no-pieces rest left)

pub parsed-refusal : (tokens : Tokens) (attributes : List InnerAttribute) (middle rest left : List Token) (items : List Item) → IsInnerRun (map piece_of tokens.list) attributes (map piece_of middle)
    → NoneTo (InnerTo (map piece_of middle)) → IsRun (map piece_of middle) items (map piece_of rest) → deepest (map item_depth items) ≤ 128
    → ItemsTo (map piece_of rest) (map piece_of left) → IsLongest (ItemsTo (map piece_of rest)) (length left)
    → RefusesAs tokens (errors.Refused (code_of left) (place_of left tokens.end))
parsed-refusal tokens attributes middle rest left items before none run deep front longest =
    let m : length (map piece_of left) ≡ length left = length-map left piece_of in
    let pieces : IsLongest (ItemsTo (map piece_of rest)) (length (map piece_of left)) = λ other f. let l = longest other f in omega arith in
    let far = longest-front (map piece_of tokens.list) attributes (map piece_of middle) items (map piece_of rest) (map piece_of left) before none run deep front pieces in
    let tokens_far : IsLongest (FrontTo (map piece_of tokens.list)) (length left) = λ other f. let l = far.longest other f in omega arith in
    let at = refused-at tokens.list left far.front tokens_far in
    (at.place, at.is, ap (λ ts. errors.Refused (code_of ts) (place_of ts tokens.end)) (sym at.same))

pub parsed-deep : (tokens : Tokens) (attributes : List InnerAttribute) (items : List Item) → deepest (map item_depth items) ≤ 128 → depth_of (tree_with attributes items tokens.end) ≤ 128
parsed-deep tokens attributes items deep = deep

pub parsed-tokens : (tokens : Tokens) (attributes : List InnerAttribute) (middle rest : List Token) (items : List Item) → IsInnerRun (map piece_of tokens.list) attributes (map piece_of middle)
    → IsRun (map piece_of middle) items (map piece_of rest) → rest ≡ [] → tokens_of (tree_with attributes items tokens.end) ≡ tokens
parsed-tokens tokens attributes middle rest items before run e = tree-spelled tokens (tree_with attributes items tokens.end) (parsed-tree tokens attributes middle rest items before run e)

pub parsed-only : (tokens : Tokens) (attributes : List InnerAttribute) (middle rest : List Token) (items : List Item) → IsInnerRun (map piece_of tokens.list) attributes (map piece_of middle)
    → IsRun (map piece_of middle) items (map piece_of rest) → rest ≡ [] → (other : Tree) → IsTreeOf tokens other → other ≡ tree_with attributes items tokens.end
parsed-only tokens attributes middle rest items before run e other is = one-tree tokens other (tree_with attributes items tokens.end) is (parsed-tree tokens attributes middle rest items before run e)

pub ruleset parses = (parsed-tree, parsed-none, parsed-refusal, parsed-deep, parsed-tokens, parsed-only)
