-- Expressions without parts.
use Rattle.std.specs.Prelude.{ℕ, None, Result, Ok}
use Rattle.tb_perm.specs.declared.span.Span.{Span}
use Rattle.tb_types.specs.Table.{TypeTable}
use Rattle.tb_thir.specs.declared.program.Variable.{Variable}
use Rattle.tb_thir.specs.declared.node.Node.{Node, roll-Node}
use Rattle.tb_thir.specs.declared.node.Node.TheOpen.{Node-F}
use Rattle.tb_rules.specs.declared.want.Want.{Want}
use Rattle.tb_rules.specs.Answers.{Fault}
use Rattle.tb_rules.specs.Fits.{with_types}
use Rattle.tb_rules.specs.Nodes.{head}
use Rattle.tb_operators.specs.Literals.{integer, character, byte, boolean, unit}
use Rattle.tb_control.specs.Jumps.{return_of, break_of, continue_of, panic_of}
use Rattle.tb_compose.specs.declared.no_parts.NoParts.{NoParts}
use Rattle.tb_compose.specs.declared.no_parts.NoParts.TheVariants as form
use Rattle.tb_compose.specs.declared.setting.Setting.{Setting}
use Rattle.tb_compose.specs.Settling.{settled}

abbrev pub variable_of : ℕ → Variable → Span → Node
variable_of number variable span = roll-Node (Node-F.Variable (head variable.ty span) number variable.mutable)

abbrev pub leaf_of : TypeTable → Setting → NoParts → Want → Span → Result Node Fault
leaf_of types setting (form.Int negative value suffix) want span = integer types setting.scalars want negative value suffix span
leaf_of types setting (form.Char value) want span = Ok (character setting.scalars value span)
leaf_of types setting (form.Byte value) want span = Ok (byte setting.scalars value span)
leaf_of types setting (form.Bool value) want span = Ok (boolean setting.scalars value span)
leaf_of types setting form.Unit want span = Ok (unit setting.scalars span)
leaf_of types setting (form.Variable number variable) want span = Ok (variable_of number variable span)
leaf_of types setting form.Return want span = return_of setting.scalars setting.output want None span
leaf_of types setting form.Break want span = break_of setting.scalars setting.in_loop want span
leaf_of types setting form.Continue want span = continue_of setting.scalars setting.in_loop want span
leaf_of types setting form.Panic want span = Ok (panic_of setting.scalars want span)

abbrev pub leaf : TypeTable → Setting → NoParts → Want → Span → Result (Node × TypeTable) Fault
leaf types setting row want span = settled want (with_types types (leaf_of types setting row want span))
