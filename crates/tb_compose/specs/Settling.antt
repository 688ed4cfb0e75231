-- A typed expression where something is expected.
use Rattle.std.specs.Prelude.{Option, Some, None, Result, Err}
use Rattle.tb_perm.specs.declared.span.Span.{Span}
use Rattle.tb_perm.specs.declared.code.Code.{Code}
use Rattle.tb_types.specs.Table.{TypeTable}
use Rattle.tb_thir.specs.declared.node.Node.{Node}
use Rattle.tb_rules.specs.declared.want.Want.{Want}
use Rattle.tb_rules.specs.Answers.{Fault, ◌>>=◌}
use Rattle.tb_rules.specs.Allowed.{type_fault}
use Rattle.tb_rules.specs.Fits.{fit}
use Rattle.tb_rules.specs.Nodes.{type_of, span_of}

abbrev pub unless : {A : Type 0} → Option Code → Span → Result A Fault → Result A Fault
unless None span found = found
unless (Some code) span found = Err (code, span)

-- its type may stand there, and it fits what is expected
abbrev pub settle : TypeTable → Want → Node → Result (Node × TypeTable) Fault
settle types want node = unless (type_fault types (type_of node)) (span_of node) (fit types want node)

-- what a rule makes, settled
abbrev pub settled : Want → Result (Node × TypeTable) Fault → Result (Node × TypeTable) Fault
settled want found = found >>= λ x. settle x.1 want x.0
