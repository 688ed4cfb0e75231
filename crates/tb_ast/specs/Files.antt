-- How items, attributes and whole files are written.
use Rattle.std.specs.Prelude.{ℕ, List, [], ◌∷◌, ◌++◌, map, Option, None, Some, codes}
use Rattle.tb_lex.specs.declared.keyword.Keyword.TheVariants as keyword_of
use Rattle.tb_lex.specs.declared.punctuation.Punctuation.TheVariants.{OpenParen, CloseParen, OpenBracket, CloseBracket, OpenBrace, CloseBrace, Comma, Semicolon, Colon, PathSep, Lt, Gt, Plus, Pound, Not, Arrow}
use Rattle.tb_ast.specs.declared.item.InnerAttribute.{InnerAttribute}
use Rattle.tb_ast.specs.declared.item.Attribute.{Attribute}
use Rattle.tb_ast.specs.declared.item.Meta.{Meta}
use Rattle.tb_ast.specs.declared.item.Meta.TheVariants.{Allow, Derive, Repr as Represents}
use Rattle.tb_ast.specs.declared.item.Repr.{Repr}
use Rattle.tb_ast.specs.declared.item.WordList.{WordList}
use Rattle.tb_ast.specs.declared.item.Item.{Item}
use Rattle.tb_ast.specs.declared.item.ItemKind.{ItemKind}
use Rattle.tb_ast.specs.declared.item.ItemKind.TheVariants as item
use Rattle.tb_ast.specs.declared.item.Use.{Use}
use Rattle.tb_ast.specs.declared.item.UseGroup.{UseGroup}
use Rattle.tb_ast.specs.declared.item.Struct.{Struct}
use Rattle.tb_ast.specs.declared.item.Lifetimes.{Lifetimes}
use Rattle.tb_ast.specs.declared.item.Field.{Field}
use Rattle.tb_ast.specs.declared.item.Function.{Function}
use Rattle.tb_ast.specs.declared.item.Generics.{Generics}
use Rattle.tb_ast.specs.declared.item.GenericParameter.{GenericParameter}
use Rattle.tb_ast.specs.declared.item.GenericParameter.TheVariants as generic
use Rattle.tb_ast.specs.declared.item.Bounds.{Bounds}
use Rattle.tb_ast.specs.declared.item.Parameter.{Parameter}
use Rattle.tb_ast.specs.declared.item.ResultType.{ResultType}
use Rattle.tb_ast.specs.declared.item.ExternBlock.{ExternBlock}
use Rattle.tb_ast.specs.declared.item.ForeignFunction.{ForeignFunction}
use Rattle.tb_ast.specs.declared.item.Tree.{Tree}
use Rattle.tb_ast.specs.declared.leaf.Lifetime.{Lifetime}
use Rattle.tb_ast.specs.Pieces.{punct, keyword, word, ident, lifetime, text_piece, optional_keyword, separated, in_order, named, path_pieces}
use Rattle.tb_ast.specs.Types.{Row, type_pieces}
use Rattle.tb_ast.specs.Expressions.{block_pieces}

-- Attributes.

abbrev pub word_list : List ℕ → WordList → Row
word_list name list = word name list.word ∷ punct OpenParen list.opening ∷ (named Comma list.names list.commas ++ punct CloseParen list.closing ∷ [])

abbrev pub inner_row : InnerAttribute → Row
inner_row inner = punct Pound inner.pound ∷ punct Not inner.bang ∷ punct OpenBracket inner.opening ∷ (word_list (codes "allow") inner.allow ++ punct CloseBracket inner.closing ∷ [])

abbrev pub repr_row : Repr → Row
repr_row repr = word (codes "repr") repr.word ∷ punct OpenParen repr.opening ∷ ident repr.name ∷ punct CloseParen repr.closing ∷ []

abbrev pub meta_row : Meta → Row
meta_row (Allow list) = word_list (codes "allow") list
meta_row (Derive list) = word_list (codes "derive") list
meta_row (Represents repr) = repr_row repr

abbrev pub attribute_row : Attribute → Row
attribute_row attribute = punct Pound attribute.pound ∷ punct OpenBracket attribute.opening ∷ (meta_row attribute.meta ++ punct CloseBracket attribute.closing ∷ [])

-- `use` items.

abbrev pub group_row : Option UseGroup → Row
group_row None = []
group_row (Some group) = punct PathSep group.separator ∷ punct OpenBrace group.opening ∷ (named Comma group.names group.commas ++ punct CloseBrace group.closing ∷ [])

abbrev pub use_row : Use → Row
use_row use_item = keyword keyword_of.Use use_item.use_keyword ∷ (path_pieces use_item.path ++ (group_row use_item.group ++ punct Semicolon use_item.semicolon ∷ []))

-- Structs.

abbrev pub lifetime_row : Lifetime → Row
lifetime_row name = lifetime name ∷ []

abbrev pub lifetimes_row : Option Lifetimes → Row
lifetimes_row None = []
lifetimes_row (Some list) = punct Lt list.opening ∷ (separated Comma (map lifetime_row list.lifetimes) list.commas ++ punct Gt list.closing ∷ [])

abbrev pub member_row : Field → Row
member_row field = ident field.name ∷ punct Colon field.colon ∷ type_pieces field.ty

abbrev pub struct_row : Struct → Row
struct_row item = keyword keyword_of.Struct item.struct_keyword ∷ ident item.name ∷ (lifetimes_row item.lifetimes ++ (punct OpenBrace item.opening ∷ (separated Comma (map member_row item.fields) item.commas ++ punct CloseBrace item.closing ∷ [])))

-- Functions.

abbrev pub bounds_row : Option Bounds → Row
bounds_row None = []
bounds_row (Some bounds) = punct Colon bounds.colon ∷ named Plus bounds.names bounds.pluses

abbrev pub generic_row : GenericParameter → Row
generic_row (generic.Lifetime name) = lifetime name ∷ []
generic_row (generic.Named name bounds) = ident name ∷ bounds_row bounds

abbrev pub generics_row : Option Generics → Row
generics_row None = []
generics_row (Some generics) = punct Lt generics.opening ∷ (separated Comma (map generic_row generics.parameters) generics.commas ++ punct Gt generics.closing ∷ [])

abbrev pub parameter_row : Parameter → Row
parameter_row parameter = optional_keyword keyword_of.Mut parameter.mut_keyword ++ (ident parameter.name ∷ punct Colon parameter.colon ∷ type_pieces parameter.ty)

abbrev pub result_row : ResultType → Row
result_row output = punct Arrow output.arrow ∷ type_pieces output.ty

abbrev pub optional_result : Option ResultType → Row
optional_result None = []
optional_result (Some output) = result_row output

abbrev pub name_row : Function → Row
name_row function = optional_keyword keyword_of.Unsafe function.unsafe_keyword ++ (keyword keyword_of.Fn function.fn_keyword ∷ ident function.name ∷ generics_row function.generics)

abbrev pub parameters_row : Function → Row
parameters_row function = punct OpenParen function.opening ∷ (separated Comma (map parameter_row function.parameters) function.commas ++ punct CloseParen function.closing ∷ [])

abbrev pub function_row : Function → Row
function_row function = name_row function ++ (parameters_row function ++ (optional_result function.result ++ block_pieces function.body))

-- External functions.

abbrev pub foreign_row : ForeignFunction → Row
foreign_row function = keyword keyword_of.Fn function.fn_keyword ∷ ident function.name ∷ punct OpenParen function.opening ∷ punct CloseParen function.closing ∷ (result_row function.result ++ punct Semicolon function.semicolon ∷ [])

abbrev pub extern_row : ExternBlock → Row
extern_row block = optional_keyword keyword_of.Unsafe block.unsafe_keyword ++ (keyword keyword_of.Extern block.extern_keyword ∷ text_piece block.abi ∷ punct OpenBrace block.opening ∷ (in_order (map foreign_row block.functions) ++ punct CloseBrace block.closing ∷ []))

-- Whole files.

abbrev pub kind_row : ItemKind → Row
kind_row (item.Use use_item) = use_row use_item
kind_row (item.Struct struct_item) = struct_row struct_item
kind_row (item.Function function) = function_row function
kind_row (item.Extern block) = extern_row block

abbrev pub item_row : Item → Row
item_row item = in_order (map attribute_row item.attributes) ++ kind_row item.kind

abbrev pub tree_pieces : Tree → Row
tree_pieces tree = in_order (map inner_row tree.attributes) ++ in_order (map item_row tree.items)
