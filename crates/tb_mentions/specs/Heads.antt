-- The names of an item that are no mentions: the words of attributes, the bounds of type parameters, the path of a `use`, and what lies outside. Those that are unknown.
use Rattle.std.specs.Prelude.{ℕ, Bool, true, false, ◌&&◌, if◌then◌else◌, List, [], ◌∷◌, ◌++◌, Option, Some, None, codes}
use Rattle.std.specs.List.{list_all}
use Rattle.std.specs.Str.{bytes_eq}
use Rattle.tb_perm.specs.declared.span.Span.{Span}
use Rattle.tb_ast.specs.declared.leaf.Ident.{Ident}
use Rattle.tb_ast.specs.declared.leaf.Path.{Path}
use Rattle.tb_ast.specs.declared.written.TypeExpr.{TypeExpr, out-TypeExpr}
use Rattle.tb_ast.specs.declared.written.TypeArgument.{TypeArgument, out-TypeArgument}
use Rattle.tb_ast.specs.declared.written.TypeArguments.{TypeArguments, out-TypeArguments}
use Rattle.tb_ast.specs.declared.written.TypeArgument.TheOpen.{TypeExpr-F, TypeArgument-F}
use Rattle.tb_ast.specs.declared.item.Item.{Item}
use Rattle.tb_ast.specs.declared.item.ItemKind.{ItemKind}
use Rattle.tb_ast.specs.declared.item.ItemKind.TheVariants as item
use Rattle.tb_ast.specs.declared.item.Attribute.{Attribute}
use Rattle.tb_ast.specs.declared.item.Meta.{Meta}
use Rattle.tb_ast.specs.declared.item.Meta.TheVariants as meta
use Rattle.tb_ast.specs.declared.item.Bounds.{Bounds}
use Rattle.tb_ast.specs.declared.item.Generics.{Generics}
use Rattle.tb_ast.specs.declared.item.GenericParameter.{GenericParameter}
use Rattle.tb_ast.specs.declared.item.GenericParameter.TheVariants as generic
use Rattle.tb_ast.specs.declared.item.Use.{Use}
use Rattle.tb_ast.specs.declared.item.ForeignFunction.{ForeignFunction}
use Rattle.tb_ast.specs.declared.item.ExternBlock.{ExternBlock}
use Rattle.tb_names.specs.Names.{name_of, is_among}
use Rattle.tb_lookup.specs.Lookups.{is_import}

-- the identifiers that are none of these words
abbrev pub strangers : List (List ℕ) → List Ident → List Span
strangers words [] = []
strangers words (ident ∷ idents) = if is_among words (name_of ident) then strangers words idents else ident.span ∷ strangers words idents

-- `allow` takes any words
abbrev pub derives : List (List ℕ)
derives = codes "Clone" ∷ codes "Copy" ∷ codes "Debug" ∷ []

abbrev pub reprs : List (List ℕ)
reprs = codes "C" ∷ []

abbrev pub meta_strangers : Meta → List Span
meta_strangers (meta.Allow list) = []
meta_strangers (meta.Derive list) = strangers derives list.names
meta_strangers (meta.Repr repr) = if is_among reprs (name_of repr.name) then [] else repr.name.span ∷ []

abbrev pub attribute_strangers : List Attribute → List Span
attribute_strangers [] = []
attribute_strangers (attribute ∷ attributes) = meta_strangers attribute.meta ++ attribute_strangers attributes

-- the bounds that a type parameter may have
abbrev pub bounds : List (List ℕ)
bounds = codes "Copy" ∷ codes "Clone" ∷ []

abbrev pub bounds_strangers : Option Bounds → List Span
bounds_strangers None = []
bounds_strangers (Some given) = strangers bounds given.names

abbrev pub bound_strangers : GenericParameter → List Span
bound_strangers (generic.Lifetime name) = []
bound_strangers (generic.Named name given) = bounds_strangers given

abbrev pub generic_strangers : List GenericParameter → List Span
generic_strangers [] = []
generic_strangers (parameter ∷ parameters) = bound_strangers parameter ++ generic_strangers parameters

abbrev pub generics_strangers : Option Generics → List Span
generics_strangers None = []
generics_strangers (Some generics) = generic_strangers generics.parameters

abbrev pub use_strangers : Use → List Span
use_strangers use_item = if is_import use_item then [] else use_item.span ∷ []

-- Outside there is `fn getchar() -> i32` alone, in an `extern "C"`.

abbrev pub is_lifetime_row : {A B C : Type 0} → TypeArgument-F A B C → Bool
is_lifetime_row (TypeArgument-F.Lifetime name) = true
is_lifetime_row (TypeArgument-F.TypeExpr ty) = false

abbrev pub is_lifetime : TypeArgument → Bool
is_lifetime argument = is_lifetime_row (out-TypeArgument argument)

abbrev pub are_lifetimes : List TypeArgument → Bool
are_lifetimes arguments = list_all is_lifetime arguments

abbrev pub has_no_types : Option TypeArguments → Bool
has_no_types None = true
has_no_types (Some arguments) = are_lifetimes (out-TypeArguments arguments).arguments

abbrev pub is_word_in : List Ident → List ℕ → Bool
is_word_in (ident ∷ []) word = bytes_eq (name_of ident) word
is_word_in idents word = false

abbrev pub is_word : Path → List ℕ → Bool
is_word path word = is_word_in path.segments word

abbrev pub is_i32_row : TypeExpr-F TypeArgument TypeExpr TypeArguments → Bool
is_i32_row (TypeExpr-F.Path span path arguments) = is_word path (codes "i32") && has_no_types arguments
is_i32_row row = false

abbrev pub is_i32 : TypeExpr → Bool
is_i32 ty = is_i32_row (out-TypeExpr ty)

abbrev pub is_known_outside : ForeignFunction → Bool
is_known_outside function = bytes_eq (name_of function.name) (codes "getchar") && is_i32 function.result.ty

abbrev pub outside_strangers : List ForeignFunction → List Span
outside_strangers [] = []
outside_strangers (function ∷ functions) = if is_known_outside function then outside_strangers functions else function.name.span ∷ outside_strangers functions

abbrev pub extern_strangers : ExternBlock → List Span
extern_strangers block = if bytes_eq block.abi.text.source (codes "C") then outside_strangers block.functions else block.abi.span ∷ outside_strangers block.functions

abbrev pub kind_strangers : ItemKind → List Span
kind_strangers (item.Use use_item) = use_strangers use_item
kind_strangers (item.Struct struct_item) = []
kind_strangers (item.Function function) = generics_strangers function.generics
kind_strangers (item.Extern block) = extern_strangers block

-- the unknown ones in the order of the text
abbrev pub head_strangers : Item → List Span
head_strangers item = attribute_strangers item.attributes ++ kind_strangers item.kind
