-- What a typed tree does with variables, in the order of evaluation: one equation for each form.
use Rattle.std.specs.Prelude.{true, false, List, [], ◌∷◌, Option, None, Some, if◌then◌else◌}
use Rattle.tb_types.specs.Table.{TypeTable}
use Rattle.tb_types.specs.Facts.{is_copy}
use Rattle.tb_thir.specs.declared.node.Head.{Head}
use Rattle.tb_thir.specs.declared.node.Node.{Node, out-Node}
use Rattle.tb_thir.specs.declared.node.Node.TheOpen.{Node-F}
use Rattle.tb_thir.specs.declared.node.Node.TheFolds.{fold-Node, map-Node}
use Rattle.tb_thir.specs.declared.program.Function.{Function}
use Rattle.tb_flow.specs.Flows.{Flow, Nothing, Does, Uses, Part, Then, Either, Loop, Break, Continue, Stop, Moved, Given, Declared}

-- a node where its value is read, where it is a place, and where it is the whole target of `=`
pub record Flows : Type 0 where
  pub value : Flow
  pub place : Flow
  pub target : Flow

abbrev pub same : Flow → Flows
same flow = record { value = flow; place = flow; target = flow }

-- one after the other
abbrev pub then_all : Flow → List Flows → Flow
then_all done [] = done
then_all done (piece ∷ pieces) = then_all (Then done piece.value) pieces

abbrev pub in_order : List Flows → Flow
in_order pieces = then_all Nothing pieces

abbrev pub if_there : Option Flows → Flow
if_there None = Nothing
if_there (Some piece) = piece.value

-- a read moves the value out, unless it copies it
abbrev pub moved_out : TypeTable → Head → Flow → Flow
moved_out types head flow = if is_copy types head.ty then Nothing else flow

-- a place that is a part of another
abbrev pub part_of : TypeTable → Head → Flow → Flows
part_of types head place = record { value = Then place (moved_out types head (Part head.span)); place = place; target = place }

-- what evaluates its parts in the order of the text; a borrow and a length evaluate a place
abbrev pub operand_in : Node-F Flows → Flow
operand_in (Node-F.Borrow head kind operand) = operand.place
operand_in (Node-F.Length head operand) = operand.place
operand_in (Node-F.Unary head operator operand) = operand.value
operand_in (Node-F.Cast head operand) = operand.value
operand_in (Node-F.Unsize head operand length) = operand.value
operand_in (Node-F.Repeat head element length) = element.value
operand_in (Node-F.DropValue head operand) = operand.value
operand_in (Node-F.Assert head condition) = condition.value
operand_in (Node-F.Statement head expression) = expression.value
operand_in (Node-F.Binary head operator left right) = Then left.value right.value
operand_in (Node-F.Make head parts order) = in_order parts
operand_in (Node-F.Call head function arguments) = in_order arguments
operand_in (Node-F.Builtin head builtin about arguments) = in_order arguments
operand_in (Node-F.Print head newline text arguments) = in_order arguments
operand_in row = Nothing

-- where ways turn back and end
abbrev pub jump_in : Node-F Flows → Flow
jump_in (Node-F.While head condition body) = Loop condition.value true body.value
jump_in (Node-F.Loop head body breaks) = Loop Nothing false body.value
jump_in (Node-F.Return head value) = Then (if_there value) Stop
jump_in (Node-F.Break head) = Break
jump_in (Node-F.Continue head) = Continue
jump_in (Node-F.Panic head) = Stop
jump_in row = operand_in row

-- where ways part and meet, and what gives a variable a value; an assignment evaluates its value before its target
abbrev pub control_in : Node-F Flows → Flow
control_in (Node-F.Logic head operator left right) = Then left.value (Either right.value Nothing)
control_in (Node-F.Assign head target value) = Then value.value target.target
control_in (Node-F.AssignOperator head operator target value) = Then value.value target.place
control_in (Node-F.Block head statements last ends) = Then (in_order statements) (if_there last)
control_in (Node-F.If head condition body otherwise ends) = Then condition.value (Either body.value (if_there otherwise))
control_in (Node-F.Let head variable (Some value)) = Then value.value (Does (Given variable))
control_in (Node-F.Let head variable None) = Does (Declared variable)
control_in row = jump_in row

-- the places; a variable that is the whole target of `=` is given a value and is not used
abbrev pub flows_in : TypeTable → Node-F Flows → Flows
flows_in types (Node-F.Variable head variable mutable) = record {
  value = Then (Uses variable head.span) (moved_out types head (Does (Moved variable)));
  place = Uses variable head.span;
  target = Does (Given variable);
}
flows_in types (Node-F.Field head base field mutable) = part_of types head base.place
flows_in types (Node-F.Index head base index mutable) = part_of types head (Then base.place index.value)
flows_in types (Node-F.Deref head pointer mutable) = part_of types head pointer.place
flows_in types row = same (control_in row)

abbrev pub flows_of : TypeTable → Node → Flows
flows_of types = fold-Node Flows (flows_in types)

-- a node, with what they do in the place of the nodes in it
abbrev pub pieces_of : TypeTable → Node → Node-F Flows
pieces_of types node = map-Node Node Flows (flows_of types) (out-Node node)

-- the body of a function, whose value is read
abbrev pub body_of : TypeTable → Function → Flow
body_of types function = (flows_of types function.body).value
