-- No tokens have two trees.
use Rattle.std.proofs.Common.{◌≡◌, ℕ, List, map, sym, ap, ◌∙◌}
use Rattle.tb_lex.specs.declared.token.Tokens.{Tokens}
use Rattle.tb_ast.specs.declared.item.InnerAttribute.{InnerAttribute}
use Rattle.tb_ast.specs.declared.item.Item.{Item}
use Rattle.tb_ast.specs.declared.item.Tree.{Tree}
use Rattle.tb_syntax.specs.State.{piece_of}
use Rattle.tb_parse.specs.Trees.{IsTreeOf}
use Rattle.tb_parse.proofs.OneFile.{file-one}

abbrev tree_with : List InnerAttribute → List Item → ℕ → Tree
tree_with attributes items end = record { attributes = attributes; items = items; end = end }

pub one-tree : (tokens : Tokens) (tree other : Tree) → IsTreeOf tokens tree → IsTreeOf tokens other → tree ≡ other
one-tree tokens tree other is is_too =
    let same = file-one (map piece_of tokens.list) tree.attributes other.attributes tree.items other.items is.0 is_too.0 in
    ap (λ xs. tree_with xs tree.items tree.end) same.same_inners ∙ ap (λ items. tree_with other.attributes items tree.end) same.same_items
    ∙ ap (λ end. tree_with other.attributes other.items end) (is.1 ∙ sym is_too.1)
