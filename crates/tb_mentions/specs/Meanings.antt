-- What the mentions of an item mean, and which names in it are unknown.
use Rattle.std.specs.Prelude.{◌≡◌, ℕ, List, [], ◌∷◌, ◌++◌, map, Option, Some, None, IfSome, ⊤}
use Rattle.std.specs.Option.{option_map}
use Rattle.tb_perm.specs.declared.span.Span.{Span}
use Rattle.tb_types.specs.Table.{TypeTable}
use Rattle.tb_ast.specs.Mentions.{MentionOf}
use Rattle.tb_ast.specs.Spans.{type_span}
use Rattle.tb_names.specs.Names.{name_of}
use Rattle.tb_outline.specs.Outlines.{StepOf, Outline}
use Rattle.tb_lookup.specs.declared.file.Entry.{Entry}
use Rattle.tb_lookup.specs.declared.callee.Callee.{Callee}
use Rattle.tb_lookup.specs.Paths.{Words, words_of}
use Rattle.tb_lookup.specs.Lookups.{type_name, literal_struct, called}
use Rattle.tb_written.specs.Written.{Tree, written}
use Rattle.tb_written.specs.Kept.{Keeps, IsTypeIf, tree_if}
use Rattle.tb_mentions.specs.declared.meaning.Meaning.{Meaning}
use Rattle.tb_mentions.specs.declared.meaning.Meaning.TheVariants as meaning
use Rattle.tb_mentions.specs.Variables.{VariablesOf, last_named, after}

-- a variable of the function; what is called; the struct of a literal; a type, none where it depends on a type parameter
pub data MeaningOf : Type 0 where
  Variable : ℕ → MeaningOf
  Called : Callee → MeaningOf
  Struct : ℕ → MeaningOf
  Written : Tree → MeaningOf

-- the meaning that is told, among these types
abbrev pub told_meaning : TypeTable → Meaning → MeaningOf
told_meaning types (meaning.Variable number) = MeaningOf.Variable number
told_meaning types (meaning.Called call) = MeaningOf.Called call
told_meaning types (meaning.Struct number) = MeaningOf.Struct number
told_meaning types (meaning.Written found) = MeaningOf.Written (tree_if types found)

abbrev pub told_meanings : TypeTable → List Meaning → List MeaningOf
told_meanings types list = map (told_meaning types) list

-- its type is one of the table
abbrev pub IsMeant : TypeTable → Meaning → Type 0
IsMeant types (meaning.Written found) = IsTypeIf types found
IsMeant types other = ⊤

-- A variable is a path of one word.
abbrev pub variable_of : VariablesOf → Words → Option ℕ
variable_of variables (word ∷ []) = last_named variables.known word
variable_of variables words = None

-- where the name of a mention stands
abbrev pub mention_place : MentionOf → Span
mention_place (MentionOf.Value path) = path.path.span
mention_place (MentionOf.Callee path) = path.path.span
mention_place (MentionOf.Struct path) = path.span
mention_place (MentionOf.Short ident) = ident.span
mention_place (MentionOf.Written ty) = type_span ty

abbrev pub place_unless : {A : Type 0} → Option A → Span → List Span
place_unless None span = span ∷ []
place_unless (Some found) span = []

abbrev pub listed : {A : Type 0} → Option A → List A
listed None = []
listed (Some x) = x ∷ []

module _ (file : List Entry) (parameters : Words) where
  -- what a mention means where these variables are known
  abbrev pub meaning_of : VariablesOf → MentionOf → Option MeaningOf
  meaning_of variables (MentionOf.Value path) = option_map MeaningOf.Variable (variable_of variables (words_of path.path.segments))
  meaning_of variables (MentionOf.Callee path) = option_map MeaningOf.Called (called file parameters (words_of path.path.segments))
  meaning_of variables (MentionOf.Struct path) = option_map MeaningOf.Struct (literal_struct file parameters (words_of path.segments))
  meaning_of variables (MentionOf.Short ident) = option_map MeaningOf.Variable (last_named variables.known (name_of ident))
  meaning_of variables (MentionOf.Written ty) = Some (MeaningOf.Written (written file parameters ty))

  -- the meaning of a step, if it is a mention
  abbrev pub meaning_at : VariablesOf → StepOf → List MeaningOf
  meaning_at variables (StepOf.Mentioned mention) = listed (meaning_of variables mention)
  meaning_at variables step = []

  -- the name of a step that is unknown
  abbrev pub unknown_at : VariablesOf → StepOf → List Span
  unknown_at variables (StepOf.Mentioned mention) = place_unless (meaning_of variables mention) (mention_place mention)
  unknown_at variables (StepOf.Named path) = place_unless (type_name file parameters (words_of path.segments)) path.span
  unknown_at variables step = []

  -- of an item, from where these variables are known
  abbrev pub meanings : VariablesOf → Outline → List MeaningOf
  meanings variables [] = []
  meanings variables (step ∷ steps) = meaning_at variables step ++ meanings (after variables step) steps

  abbrev pub unknowns : VariablesOf → Outline → List Span
  unknowns variables [] = []
  unknowns variables (step ∷ steps) = unknown_at variables step ++ unknowns (after variables step) steps

-- the meaning that was found is this one
pub record IsMeaning (old new : TypeTable) (found : Option Meaning) (right : Option MeaningOf) : Type 0 where
  pub kept : Keeps old new
  pub meant : IfSome found (IsMeant new)
  pub means : option_map (told_meaning new) found ≡ right
