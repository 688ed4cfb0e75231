-- Expressions with a list of parts, other than calls.
use Rattle.std.specs.Prelude.{ℕ, Bool, List, [], ◌∷◌, length, Result}
use Rattle.tb_perm.specs.declared.span.Span.{Span}
use Rattle.tb_lex.specs.declared.decoded.TextCharacter.{TextCharacter}
use Rattle.tb_types.specs.Table.{TypeTable}
use Rattle.tb_thir.specs.declared.node.Node.{Node}
use Rattle.tb_rules.specs.declared.want.Want.{Want}
use Rattle.tb_rules.specs.declared.want.Want.TheVariants.{Free}
use Rattle.tb_rules.specs.Answers.{Fault}
use Rattle.tb_rules.specs.Fits.{with_types}
use Rattle.tb_rules.specs.Nodes.{type_of}
use Rattle.tb_aggregates.specs.Tuples.{tuple, tuple_want}
use Rattle.tb_aggregates.specs.Arrays.{array, element_want, part_want}
use Rattle.tb_control.specs.Prints.{print_of}
use Rattle.tb_compose.specs.declared.many_parts.ListOfParts.{ListOfParts}
use Rattle.tb_compose.specs.declared.many_parts.ListOfParts.TheVariants as form
use Rattle.tb_compose.specs.declared.setting.Setting.{Setting}
use Rattle.tb_compose.specs.Settling.{settled}

pub data ListOf : Type 0 where
  Tuple : ListOf
  Array : ListOf
  Print : Bool → List ℕ → List TextCharacter → ListOf

-- the form that is told
abbrev pub told_list : ListOfParts → ListOf
told_list form.Tuple = ListOf.Tuple
told_list form.Array = ListOf.Array
told_list (form.Print newline text characters) = ListOf.Print newline text.now characters.now

abbrev pub after_first : TypeTable → Want → List Node → Want
after_first types want [] = element_want types want
after_first types want (first ∷ done) = part_want types want (type_of first)

-- of the next part, after these; nothing is expected of what is printed
abbrev pub list_want : TypeTable → ListOf → Want → List Node → Want
list_want types ListOf.Tuple want done = tuple_want types want (length done)
list_want types ListOf.Array want done = after_first types want done
list_want types (ListOf.Print newline text characters) want done = Free

abbrev pub list_made : TypeTable → Setting → ListOf → Want → List Node → Span → Result (Node × TypeTable) Fault
list_made types setting ListOf.Tuple want parts span = tuple types want parts span
list_made types setting ListOf.Array want parts span = array types want parts span
list_made types setting (ListOf.Print newline text characters) want parts span = with_types types (print_of types setting.scalars newline text characters parts span)

abbrev pub list : TypeTable → Setting → ListOf → Want → List Node → Span → Result (Node × TypeTable) Fault
list types setting row want parts span = settled want (list_made types setting row want parts span)
