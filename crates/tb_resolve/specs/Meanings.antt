-- What the mentions of a whole file mean, item by item, and which of its names are unknown.
use Rattle.std.specs.Prelude.{◌≡◌, List, [], ◌∷◌, ◌++◌, map}
use Rattle.std.specs.List.{AllByRecursion}
use Rattle.tb_perm.specs.declared.span.Span.{Span}
use Rattle.tb_types.specs.Table.{TypeTable}
use Rattle.tb_ast.specs.declared.item.Item.{Item}
use Rattle.tb_lookup.specs.declared.file.Entry.{Entry}
use Rattle.tb_lookup.specs.Files.{file_names}
use Rattle.tb_written.specs.Kept.{Keeps}
use Rattle.tb_mentions.specs.declared.meaning.Meaning.{Meaning}
use Rattle.tb_mentions.specs.Meanings.{MeaningOf, told_meanings, IsMeant}
use Rattle.tb_mentions.specs.Walks.{item_meanings, item_unknowns}

-- what the mentions of each item mean
abbrev pub meanings_in : List Entry → List Item → List (List MeaningOf)
meanings_in file items = map (item_meanings file) items

-- the unknown names of items, in the order of the text, and those of a file
abbrev pub unknowns_in : List Entry → List Item → List Span
unknowns_in file [] = []
unknowns_in file (one ∷ items) = item_unknowns file one ++ unknowns_in file items

abbrev pub unknown_faults : List Item → List Span
unknown_faults items = unknowns_in (file_names items) items

-- the meanings that are told, item by item
abbrev pub AreMeant : TypeTable → List Meaning → Type 0
AreMeant types list = AllByRecursion (IsMeant types) list

abbrev pub told_lists : TypeTable → List (List Meaning) → List (List MeaningOf)
told_lists types lists = map (told_meanings types) lists

-- lists of meanings, and then these
pub record IsListed (old new : TypeTable) (before after : List (List Meaning)) (more : List (List MeaningOf)) : Type 0 where
  pub kept : Keeps old new
  pub meant : AllByRecursion (AreMeant new) after
  pub means : told_lists new after ≡ told_lists old before ++ more

-- the lists so far, and those and the unknown names that are still to come, are all of these
pub record IsListedBefore (old new : TypeTable) (lists : List (List Meaning)) (mean all : List (List MeaningOf)) (unknown every : List Span) : Type 0 where
  pub kept : Keeps old new
  pub meant : AllByRecursion (AreMeant new) lists
  pub means : told_lists new lists ++ mean ≡ all
  pub known : unknown ≡ every
