-- Reading items and files.
use Rattle.std.specs.Prelude.{ℕ, suc, Bool, false, ◌||◌, if◌then◌else◌, List, [], ◌∷◌, Option, None, Some}
use Rattle.tb_perm.specs.declared.span.Span.{Span}
use Rattle.tb_lex.specs.declared.keyword.Keyword.TheVariants as keyword_of
use Rattle.tb_ast.specs.declared.item.Attribute.{Attribute}
use Rattle.tb_ast.specs.declared.item.Item.{Item}
use Rattle.tb_ast.specs.declared.item.ItemKind.{ItemKind}
use Rattle.tb_ast.specs.declared.item.ItemKind.TheVariants as item
use Rattle.tb_ast.specs.declared.item.Function.{Function}
use Rattle.tb_ast.specs.declared.expression.Block.{Block}
use Rattle.tb_ast.specs.Spans.{block_span}
use Rattle.tb_syntax.specs.declared.heads.FunctionHead.{FunctionHead}
use Rattle.tb_syntax.specs.Reading.{◌>>=◌}
use Rattle.tb_syntax.specs.State.{State}
use Rattle.tb_syntax.specs.Leaves.{has_keyword, keyword_at}
use Rattle.tb_syntax.specs.Paths.{from_to}
use Rattle.tb_syntax.specs.Attributes.{attributes_at}
use Rattle.tb_syntax.specs.Items.{use_at, struct_at, head_at, extern_at}
use Rattle.tb_expr.specs.Exprs.{block_at}

-- Trees by their parts.

-- the first of these places that stands there
abbrev pub or_at : Option Span → Span → Span
or_at None span = span
or_at (Some first) span = first

-- from `unsafe` or `fn` to the end of the body
abbrev pub function_of : FunctionHead → Block → Function
function_of head body = record {
  span = from_to (or_at head.unsafe_keyword head.fn_keyword) (block_span body);
  unsafe_keyword = head.unsafe_keyword;
  fn_keyword = head.fn_keyword;
  name = head.name;
  generics = head.generics;
  opening = head.opening;
  parameters = head.parameters;
  commas = head.commas;
  closing = head.closing;
  result = head.result;
  body = body;
}

abbrev pub kind_span : ItemKind → Span
kind_span (item.Use use_item) = from_to use_item.use_keyword use_item.semicolon
kind_span (item.Struct struct_item) = from_to struct_item.struct_keyword struct_item.closing
kind_span (item.Function function) = function.span
kind_span (item.Extern block) = from_to (or_at block.unsafe_keyword block.extern_keyword) block.closing

-- with the attributes
abbrev pub item_span : List Attribute → Span → Span
item_span [] kind = kind
item_span (first ∷ attributes) kind = from_to first.span kind

abbrev pub item_of : List Attribute → ItemKind → Item
item_of attributes kind = record { span = item_span attributes (kind_span kind); attributes = attributes; kind = kind }

-- Reading, with expressions of at most this depth in the blocks, and types of at most one more.

unfoldable pub function_at : ℕ → State → Option (Function × State)
function_at depth state = head_at (suc depth) state >>= λ head. block_at depth head.1 >>= λ body. Some (function_of head.0 body.0, body.1)

-- `extern` comes next, with or without `unsafe`
abbrev pub is_extern : Option (Span × State) → Bool
is_extern None = false
is_extern (Some x) = has_keyword keyword_of.Extern x.1

unfoldable pub begins_extern : State → Bool
begins_extern state = has_keyword keyword_of.Extern state || is_extern (keyword_at keyword_of.Unsafe state)

unfoldable pub kind_at : ℕ → State → Option (ItemKind × State)
kind_at depth state =
    if has_keyword keyword_of.Use state then (use_at state >>= λ x. Some (item.Use x.0, x.1))
    else (if has_keyword keyword_of.Struct state then (struct_at (suc depth) state >>= λ x. Some (item.Struct x.0, x.1))
    else (if begins_extern state then (extern_at (suc depth) state >>= λ x. Some (item.Extern x.0, x.1))
    else (function_at depth state >>= λ x. Some (item.Function x.0, x.1))))

unfoldable pub item_at : ℕ → State → Option (Item × State)
item_at depth state = attributes_at state >>= λ attributes. kind_at depth attributes.1 >>= λ kind. Some (item_of attributes.0 kind.0, kind.1)
