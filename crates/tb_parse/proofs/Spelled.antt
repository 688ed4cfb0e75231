-- The tokens of a tree that the grammar relates to tokens are these.
use Rattle.std.proofs.Common.{◌≡◌, ℕ, List, [], ◌∷◌, ◌++◌, map, refl, sym, ap, ◌∙◌}
use Rattle.std.specs.List.{AllByRecursion}
use Rattle.tb_lex.specs.declared.token.Token.{Token}
use Rattle.tb_lex.specs.declared.token.Tokens.{Tokens}
use Rattle.tb_lex.specs.declared.keyword.Keyword.TheVariants as keyword_of
use Rattle.tb_lex.specs.declared.punctuation.Punctuation.TheVariants.{OpenParen, CloseParen, Comma}
use Rattle.tb_ast.specs.declared.piece.Piece.{Piece}
use Rattle.tb_ast.specs.declared.item.Item.{Item}
use Rattle.tb_ast.specs.declared.item.ItemKind.{ItemKind}
use Rattle.tb_ast.specs.declared.item.Tree.{Tree}
use Rattle.tb_ast.specs.declared.expression.Block.{Block}
use Rattle.tb_ast.specs.Pieces.{punct, keyword, ident, optional_keyword, separated, in_order}
use Rattle.tb_ast.specs.Expressions.{block_pieces}
use Rattle.tb_ast.specs.Files.{inner_row, attribute_row, generics_row, parameter_row, optional_result, function_row, kind_row, item_row, tree_pieces}
use Rattle.tb_ast.specs.Joined.{joined, token_of, tokens_of, IsApart}
use Rattle.tb_syntax.specs.declared.heads.FunctionHead.{FunctionHead}
use Rattle.tb_syntax.specs.State.{State, IsState, piece_of, Stands}
use Rattle.tb_syntax.specs.Items.{head_row}
use Rattle.tb_syntax.proofs.Chains.{stands-then, stands-split}
use Rattle.tb_syntax.proofs.Joining.{stands-joined}
use Rattle.tb_parse.specs.Files.{function_of}
use Rattle.tb_parse.specs.Trees.{IsKindAt, AUse, AStruct, AnExtern, AFunction, IsItemAt, AnItem, AreItems, NoItems, MoreItems, IsFile, IsTreeOf}
use Rattle.tb_expr.proofs.Spelled.{block-spelled}

-- the pieces of a head and of a body are those of the function
function-spelled : (head : FunctionHead) (body : Block) (state middle rest : State) → Stands (head_row head) state middle → Stands (block_pieces body) middle rest
    → Stands (function_row (function_of head body)) state rest
function-spelled head body state middle rest h b =
    let generics = generics_row head.generics in
    let list = separated Comma (map parameter_row head.parameters) head.commas in
    let output = optional_result head.result in
    let first = optional_keyword keyword_of.Unsafe head.unsafe_keyword in
    let word = keyword keyword_of.Fn head.fn_keyword in
    let name = ident head.name in
    let opening = punct OpenParen head.opening in
    let closing = punct CloseParen head.closing in
    let a = stands-split first (word ∷ name ∷ (generics ++ (opening ∷ (list ++ (closing ∷ output))))) state middle h in
    let c = stands-split generics (opening ∷ (list ++ (closing ∷ output))) a.2.2.0 middle a.2.2.2 in
    let d = stands-split list (closing ∷ output) c.2.0 middle c.2.2 in
    let names : Stands (first ++ (word ∷ name ∷ generics)) state c.0 = stands-then first (word ∷ name ∷ generics) state a.0 c.0 a.1 (a.2.0, a.2.1, (a.2.2.0, a.2.2.1, c.1)) in
    let end : Stands (closing ∷ []) d.0 d.2.0 = (d.2.0, d.2.1, refl) in
    let parameters : Stands (opening ∷ (list ++ closing ∷ [])) c.0 d.2.0 = (c.2.0, c.2.1, stands-then list (closing ∷ []) c.2.0 d.0 d.2.0 d.1 end) in
    let behind : Stands (output ++ block_pieces body) d.2.0 rest = stands-then output (block_pieces body) d.2.0 middle rest d.2.2 b in
    stands-then (first ++ (word ∷ name ∷ generics)) ((opening ∷ (list ++ closing ∷ [])) ++ (output ++ block_pieces body)) state c.0 rest names
    (stands-then (opening ∷ (list ++ closing ∷ [])) (output ++ block_pieces body) c.0 d.2.0 rest parameters behind)

kind-spelled : (state : State) (k : ItemKind) (rest : State) → IsKindAt state k rest → Stands (kind_row k) state rest
kind-spelled state k rest (AUse u stands is) = stands
kind-spelled state k rest (AStruct s depth stands is) = stands
kind-spelled state k rest (AnExtern block depth stands is) = stands
kind-spelled state k rest (AFunction head depth body a stands is ends b) = function-spelled head body state a rest stands (block-spelled a body rest b)

item-spelled : (state : State) (x : Item) (rest : State) → IsItemAt state x rest → Stands (item_row x) state rest
item-spelled state x rest (AnItem attributes kind a stands are is) = stands-then (in_order (map attribute_row attributes)) (kind_row kind) state a rest stands (kind-spelled a kind rest is)

items-spelled : (state : State) (items : List Item) → AreItems state items → Stands (in_order (map item_row items)) state []
items-spelled state items NoItems = refl
items-spelled state items (MoreItems first others a is behind) =
    stands-then (item_row first) (in_order (map item_row others)) state a [] (item-spelled state first a is) (items-spelled a others behind)

pub file-spelled : (state : State) (tree : Tree) → IsFile state tree.attributes tree.items → Stands (tree_pieces tree) state []
file-spelled state tree file =
    stands-then (in_order (map inner_row tree.attributes)) (in_order (map item_row tree.items)) state file.middle [] file.stands (items-spelled file.middle tree.items file.are_items)

-- Tokens as pieces, and back.

all-apart : (tokens : List Token) → AllByRecursion IsApart (map piece_of tokens)
all-apart [] = tt
all-apart (token ∷ tokens) = (refl, all-apart tokens)

is-state : (tokens : List Token) → IsState (map piece_of tokens)
is-state [] = tt
is-state (token ∷ tokens) = all-apart tokens

pub back : (tokens : List Token) → map token_of (map piece_of tokens) ≡ tokens
back [] = refl
back (token ∷ tokens) = ap (λ (ts : List Token). token ∷ ts) (back tokens)

abbrev with_end : ℕ → List Token → Tokens
with_end end list = record { list = list; end = end }

pub tree-spelled : (tokens : Tokens) (tree : Tree) → IsTreeOf tokens tree → tokens_of tree ≡ tokens
tree-spelled tokens tree is =
    let j = stands-joined (tree_pieces tree) (map piece_of tokens.list) [] (is-state tokens.list) (file-spelled (map piece_of tokens.list) tree is.0) in
    let same : map token_of (joined (tree_pieces tree)) ≡ tokens.list = ap (λ (ps : List Piece). map token_of ps) (sym j.0) ∙ back tokens.list in
    ap (with_end tree.end) same ∙ ap (λ end. with_end end tokens.list) is.1
