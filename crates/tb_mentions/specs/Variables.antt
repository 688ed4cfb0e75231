-- The variables that are known at a place of a function.
use Rattle.std.specs.Prelude.{ℕ, ◌+◌, ◌-◌, if◌then◌else◌, List, [], ◌∷◌, ◌++◌, length, take, map, Option, Some, None, slice_get}
use Rattle.std.specs.Str.{bytes_eq}
use Rattle.tb_names.specs.Names.{name_of}
use Rattle.tb_outline.specs.Outlines.{StepOf}
use Rattle.tb_mentions.specs.declared.variables.Variable.{Variable}
use Rattle.tb_mentions.specs.declared.variables.Variables.{Variables}

-- a variable: its name, and its number in the function
pub record Known : Type 0 where
  pub name : List ℕ
  pub number : ℕ

-- the variables in the order of their declarations, how many were known where each open block began, and how many the function has so far
pub record VariablesOf : Type 0 where
  pub known : List Known
  pub marks : List ℕ
  pub count : ℕ

abbrev pub told_variable : Variable → Known
told_variable variable = record { name = name_of variable.ident.now; number = variable.number }

abbrev pub told_known : List Variable → List Known
told_known variables = map told_variable variables

abbrev pub told_variables : Variables → VariablesOf
told_variables variables = record { known = told_known variables.known.items; marks = variables.marks.items; count = variables.count }

-- a name means the last variable that has it
abbrev pub or_number : Option ℕ → Option ℕ → Option ℕ
or_number None other = other
or_number (Some number) other = Some number

abbrev pub last_named : List Known → List ℕ → Option ℕ
last_named [] name = None
last_named (variable ∷ variables) name = or_number (last_named variables name) (if bytes_eq variable.name name then Some variable.number else None)

abbrev pub no_variables : VariablesOf
no_variables = record { known = []; marks = []; count = 0 }

-- a block begins
abbrev pub opened : VariablesOf → VariablesOf
opened variables = record variables { marks = variables.marks ++ length variables.known ∷ [] }

-- the block that began last ends, and with it its variables
abbrev pub cut : Option ℕ → VariablesOf → VariablesOf
cut None variables = variables
cut (Some mark) variables = record variables { known = take mark variables.known; marks = take (length variables.marks - 1) variables.marks }

abbrev pub closed : VariablesOf → VariablesOf
closed variables = cut (slice_get variables.marks (length variables.marks - 1)) variables

-- a variable is declared, with the next number
abbrev pub declared : VariablesOf → List ℕ → VariablesOf
declared variables name = record variables { known = variables.known ++ record { name = name; number = variables.count } ∷ []; count = variables.count + 1 }

-- the variables that are known after a step of an item
abbrev pub after : VariablesOf → StepOf → VariablesOf
after variables StepOf.Opened = opened variables
after variables StepOf.Closed = closed variables
after variables (StepOf.Declared ident) = declared variables (name_of ident)
after variables step = variables
