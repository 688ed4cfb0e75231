-- Which tokens a tree stands for: the items and the whole file.
use Rattle.std.specs.Prelude.{◌≡◌, ℕ, false, List, [], ◌∷◌, map, Result, Err}
use Rattle.std.specs.List.{AllByRecursion}
use Rattle.tb_lex.specs.declared.token.Tokens.{Tokens}
use Rattle.tb_ast.specs.declared.item.InnerAttribute.{InnerAttribute}
use Rattle.tb_ast.specs.declared.item.Attribute.{Attribute}
use Rattle.tb_ast.specs.declared.item.Item.{Item}
use Rattle.tb_ast.specs.declared.item.ItemKind.{ItemKind}
use Rattle.tb_ast.specs.declared.item.ItemKind.TheVariants as item
use Rattle.tb_ast.specs.declared.item.Use.{Use}
use Rattle.tb_ast.specs.declared.item.Struct.{Struct}
use Rattle.tb_ast.specs.declared.item.ExternBlock.{ExternBlock}
use Rattle.tb_ast.specs.declared.item.Tree.{Tree}
use Rattle.tb_ast.specs.declared.expression.Block.{Block}
use Rattle.tb_ast.specs.Pieces.{in_order}
use Rattle.tb_ast.specs.Files.{inner_row, attribute_row, use_row, struct_row, extern_row}
use Rattle.tb_syntax.specs.declared.heads.FunctionHead.{FunctionHead}
use Rattle.tb_syntax.specs.State.{State, Stands, piece_of}
use Rattle.tb_syntax.specs.Attributes.{has_inner, IsInner, IsAttribute}
use Rattle.tb_syntax.specs.Notes.{ResultEnds}
use Rattle.tb_syntax.specs.Items.{IsUse, IsStruct, IsExtern, head_row, IsHead}
use Rattle.tb_expr.specs.Grammar.{IsBlockAt}
use Rattle.tb_parse.specs.declared.error.ParseError.{ParseError}
use Rattle.tb_parse.specs.declared.error.ParseError.TheVariants as errors
use Rattle.tb_parse.specs.Files.{function_of, item_of}

-- an item without its attributes
pub data IsKindAt : State → ItemKind → State → Type 0 where
  AUse : {state rest : State} (use_item : Use) → Stands (use_row use_item) state rest → IsUse use_item → IsKindAt state (item.Use use_item) rest
  AStruct : {state rest : State} (struct_item : Struct) (depth : ℕ) → Stands (struct_row struct_item) state rest → IsStruct depth struct_item → IsKindAt state (item.Struct struct_item) rest
  AnExtern : {state rest : State} (block : ExternBlock) (depth : ℕ) → Stands (extern_row block) state rest → IsExtern depth block → IsKindAt state (item.Extern block) rest
  AFunction : {state rest : State} (head : FunctionHead) (depth : ℕ) (body : Block) (a : State)
      → Stands (head_row head) state a → IsHead depth head → ResultEnds head.result a → IsBlockAt a body rest → IsKindAt state (item.Function (function_of head body)) rest

-- an item with its attributes
pub data IsItemAt : State → Item → State → Type 0 where
  AnItem : {state rest : State} (attributes : List Attribute) (kind : ItemKind) (a : State)
      → Stands (in_order (map attribute_row attributes)) state a → AllByRecursion IsAttribute attributes → IsKindAt a kind rest → IsItemAt state (item_of attributes kind) rest

-- items one behind another, up to this rest, and attributes of the file so
pub data IsRun : State → List Item → State → Type 0 where
  NoRun : {state : State} → IsRun state [] state
  LongerRun : {state rest : State} (first : Item) (others : List Item) (a : State) → IsItemAt state first a → IsRun a others rest → IsRun state (first ∷ others) rest

pub data IsInnerRun : State → List InnerAttribute → State → Type 0 where
  NoInnerRun : {state : State} → IsInnerRun state [] state
  LongerInnerRun : {state rest : State} (first : InnerAttribute) (others : List InnerAttribute) (a : State)
      → Stands (inner_row first) state a → IsInner first → IsInnerRun a others rest → IsInnerRun state (first ∷ others) rest

-- items one behind another, and nothing behind them
pub data AreItems : State → List Item → Type 0 where
  NoItems : AreItems [] []
  MoreItems : {state : State} (first : Item) (others : List Item) (a : State) → IsItemAt state first a → AreItems a others → AreItems state (first ∷ others)

-- attributes of the file, as many as there are, and then items
pub record IsFile (state : State) (inners : List InnerAttribute) (items : List Item) : Type 0 where
  pub middle : State
  pub stands : Stands (in_order (map inner_row inners)) state middle
  pub are_inner : AllByRecursion IsInner inners
  pub no_more : has_inner middle ≡ false
  pub are_items : AreItems middle items

-- the tree of these tokens
abbrev pub IsTreeOf : Tokens → Tree → Type 0
IsTreeOf tokens tree = IsFile (map piece_of tokens.list) tree.attributes tree.items × (tree.end ≡ tokens.end)

-- the tokens are refused
abbrev pub IsRefusal : Result Tree ParseError → Type 0
IsRefusal (Err (errors.Refused code span)) = Unit {0}
IsRefusal other = ⊥
