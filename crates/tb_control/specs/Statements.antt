-- Statements.
use Rattle.std.specs.Prelude.{ℕ, if◌then◌else◌, Option, Some, None, Result, Ok, Err}
use Rattle.tb_perm.specs.declared.span.Span.{Span}
use Rattle.tb_perm.specs.declared.code.Code.{Code}
use Rattle.tb_perm.specs.declared.code.Code.TheVariants.{TypeNotKnown, TypeNotAllowedHere}
use Rattle.tb_types.specs.declared.shape.Ty.{Ty}
use Rattle.tb_types.specs.Table.{TypeTable}
use Rattle.tb_thir.specs.declared.node.Node.{Node, roll-Node}
use Rattle.tb_thir.specs.declared.node.Node.TheOpen.{Node-F}
use Rattle.tb_rules.specs.declared.scalars.Scalars.{Scalars}
use Rattle.tb_rules.specs.Answers.{Fault}
use Rattle.tb_rules.specs.Kinds.{kind_at, is_slice}
use Rattle.tb_rules.specs.Nodes.{type_of, head}

-- the type that is written, or else that of the value
abbrev pub known_type : Option Ty → Option Node → Option Ty
known_type (Some ty) value = Some ty
known_type None None = None
known_type None (Some value) = Some (type_of value)

-- a variable has a type, and that is no slice
abbrev pub variable_type : TypeTable → Option Ty → Result Ty Code
variable_type types None = Err TypeNotKnown
variable_type types (Some ty) = if is_slice (kind_at types ty) then Err TypeNotAllowedHere else Ok ty

abbrev pub at_place : Result Ty Code → Span → Result Ty Fault
at_place (Ok ty) span = Ok ty
at_place (Err code) span = Err (code, span)

abbrev pub let_type : TypeTable → Option Ty → Option Node → Span → Result Ty Fault
let_type types written value span = at_place (variable_type types (known_type written value)) span

abbrev pub let_of : Scalars → ℕ → Option Node → Span → Node
let_of scalars variable value span = roll-Node (Node-F.Let (head scalars.unit span) variable value)

abbrev pub statement : Scalars → Node → Span → Node
statement scalars expression span = roll-Node (Node-F.Statement (head scalars.unit span) expression)
