-- An item from its beginning to its end: all its meanings, or the first name that is unknown.
use Rattle.std.specs.Prelude.{◌≡◌, List, [], ◌++◌, Some, Result, Ok, Err, ⊤}
use Rattle.std.specs.List.{AllByRecursion}
use Rattle.tb_perm.specs.declared.span.Span.{Span}
use Rattle.tb_types.specs.Table.{TypeTable}
use Rattle.tb_ast.specs.declared.item.Item.{Item}
use Rattle.tb_ast.specs.declared.item.ItemKind.{ItemKind}
use Rattle.tb_ast.specs.declared.item.ItemKind.TheVariants as item
use Rattle.tb_names.specs.Names.{names_of, first_of}
use Rattle.tb_names.specs.Limits.{type_parameters_of}
use Rattle.tb_outline.specs.Outlines.{item_outline}
use Rattle.tb_lookup.specs.declared.file.Entry.{Entry}
use Rattle.tb_lookup.specs.Paths.{Words}
use Rattle.tb_written.specs.Kept.{Keeps}
use Rattle.tb_mentions.specs.declared.error.MentionError.{MentionError}
use Rattle.tb_mentions.specs.declared.error.MentionError.TheVariants.{Unknown, Memory}
use Rattle.tb_mentions.specs.declared.meaning.Meaning.{Meaning}
use Rattle.tb_mentions.specs.Heads.{head_strangers}
use Rattle.tb_mentions.specs.Variables.{no_variables}
use Rattle.tb_mentions.specs.Meanings.{MeaningOf, told_meanings, IsMeant, meanings, unknowns}

-- the type parameters of an item
abbrev pub parameters_of : ItemKind → Words
parameters_of (item.Function function) = names_of (type_parameters_of function.generics)
parameters_of kind = []

-- what the mentions of an item mean, and the names in it that are unknown, in the order of the text
abbrev pub item_meanings : List Entry → Item → List MeaningOf
item_meanings file one = meanings file (parameters_of one.kind) no_variables (item_outline one)

abbrev pub item_unknowns : List Entry → Item → List Span
item_unknowns file one = head_strangers one ++ unknowns file (parameters_of one.kind) no_variables (item_outline one)

-- meanings, and then these
pub record IsNoted (old new : TypeTable) (before after : List Meaning) (more : List MeaningOf) : Type 0 where
  pub kept : Keeps old new
  pub meant : AllByRecursion (IsMeant new) after
  pub means : told_meanings new after ≡ told_meanings old before ++ more

-- nothing is unknown, or the first that is
abbrev pub Gives : {A : Type 0} → Result A MentionError → List Span → (A → Type 0) → Type 0
Gives (Ok x) unknown P = (unknown ≡ []) × P x
Gives (Err (Unknown span)) unknown P = first_of unknown ≡ Some span
Gives (Err Memory) unknown P = ⊤

-- the meanings so far, and those and the unknown names that are still to come, are all of these
pub record IsOnTheWay (old new : TypeTable) (list : List Meaning) (mean all : List MeaningOf) (unknown every : List Span) : Type 0 where
  pub kept : Keeps old new
  pub meant : AllByRecursion (IsMeant new) list
  pub means : told_meanings new list ++ mean ≡ all
  pub known : unknown ≡ every
