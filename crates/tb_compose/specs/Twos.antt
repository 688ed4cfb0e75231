-- Expressions with two parts.
use Rattle.std.specs.Prelude.{Some, None, Result}
use Rattle.tb_perm.specs.declared.span.Span.{Span}
use Rattle.tb_types.specs.declared.shape.Ty.{Ty}
use Rattle.tb_types.specs.Table.{TypeTable}
use Rattle.tb_thir.specs.declared.node.Node.{Node}
use Rattle.tb_rules.specs.declared.want.Want.{Want}
use Rattle.tb_rules.specs.declared.want.Want.TheVariants.{Free, Into}
use Rattle.tb_rules.specs.Answers.{Fault}
use Rattle.tb_rules.specs.Fits.{with_types}
use Rattle.tb_operators.specs.Operators.{binary, logic}
use Rattle.tb_operators.specs.Sides.{left_want, right_want}
use Rattle.tb_places.specs.Assignments.{assign, assign_with}
use Rattle.tb_places.specs.Elements.{index, index_want}
use Rattle.tb_compose.specs.declared.two_parts.TwoParts.{TwoParts}
use Rattle.tb_compose.specs.declared.two_parts.TwoParts.TheVariants as form
use Rattle.tb_compose.specs.declared.setting.Setting.{Setting}
use Rattle.tb_compose.specs.Settling.{settled}

-- of the first part; nothing is expected of a target, of what is indexed, and of the sides of `&&` and `||`
abbrev pub first_want : TwoParts → Want → Want
first_want (form.Binary operator) want = left_want operator want None
first_want row want = Free

-- of the second part, after a first of this type: an assigned value is expected at the type of the target
abbrev pub second_want : TypeTable → Setting → TwoParts → Want → Ty → Want
second_want types setting form.Index want first = index_want types setting.scalars first
second_want types setting (form.Binary operator) want first = right_want operator want (Some first)
second_want types setting (form.Logic operator) want first = Free
second_want types setting form.Assign want first = Into first
second_want types setting (form.AssignWith operator) want first = right_want operator Free (Some first)

-- where the second part is typed first, as the right side of an operator is after an open left side
abbrev pub right_before : TwoParts → Want → Want
right_before (form.Binary operator) want = right_want operator want None
right_before row want = Free

abbrev pub left_after : TwoParts → Want → Ty → Want
left_after (form.Binary operator) want right = left_want operator want (Some right)
left_after row want right = Free

abbrev pub two_made : TypeTable → Setting → TwoParts → Node → Node → Span → Result Node Fault
two_made types setting form.Index first second span = index types first second span
two_made types setting (form.Binary operator) first second span = binary types setting.scalars operator first second span
two_made types setting (form.Logic operator) first second span = logic types setting.scalars operator first second span
two_made types setting form.Assign first second span = assign types setting.scalars first second span
two_made types setting (form.AssignWith operator) first second span = assign_with types setting.scalars operator first second span

abbrev pub two : TypeTable → Setting → TwoParts → Want → Node → Node → Span → Result (Node × TypeTable) Fault
two types setting row want first second span = settled want (with_types types (two_made types setting row first second span))
