-- What lies in a node, in the order of the text, whatever stands for it.
use Rattle.std.specs.Prelude.{List, Option, None, Some}
use Rattle.std.specs.Option.{option_map}
use Rattle.tb_thir.specs.declared.parts.Parts.{Parts}
use Rattle.tb_thir.specs.declared.parts.Parts.TheVariants as parts
use Rattle.tb_thir.specs.declared.node.Node.{Node, out-Node}
use Rattle.tb_thir.specs.declared.node.Node.TheOpen.{Node-F}

pub data PartsOf (A : Type 0) : Type 0 where
  Nothing : PartsOf A
  One : A → PartsOf A
  Two : A → A → PartsOf A
  Three : A → A → A → PartsOf A
  Listed : List A → PartsOf A
  Body : List A → Option A → PartsOf A

abbrev pub one_or_none : {A : Type 0} → Option A → PartsOf A
one_or_none None = PartsOf.Nothing
one_or_none (Some part) = PartsOf.One part

abbrev pub two_or_three : {A : Type 0} → A → A → Option A → PartsOf A
two_or_three first second None = PartsOf.Two first second
two_or_three first second (Some third) = PartsOf.Three first second third

abbrev pub parts_in : {A : Type 0} → Node-F A → PartsOf A
parts_in (Node-F.Literal head value) = PartsOf.Nothing
parts_in (Node-F.Variable head variable mutable) = PartsOf.Nothing
parts_in (Node-F.Field head base field mutable) = PartsOf.One base
parts_in (Node-F.Index head base index mutable) = PartsOf.Two base index
parts_in (Node-F.Deref head pointer mutable) = PartsOf.One pointer
parts_in (Node-F.Borrow head kind operand) = PartsOf.One operand
parts_in (Node-F.Unary head operator operand) = PartsOf.One operand
parts_in (Node-F.Binary head operator left right) = PartsOf.Two left right
parts_in (Node-F.Logic head operator left right) = PartsOf.Two left right
parts_in (Node-F.Cast head operand) = PartsOf.One operand
parts_in (Node-F.Unsize head operand length) = PartsOf.One operand
parts_in (Node-F.Make head parts order) = PartsOf.Listed parts
parts_in (Node-F.Repeat head element length) = PartsOf.One element
parts_in (Node-F.Call head function arguments) = PartsOf.Listed arguments
parts_in (Node-F.Builtin head builtin about arguments) = PartsOf.Listed arguments
parts_in (Node-F.Length head operand) = PartsOf.One operand
parts_in (Node-F.DropValue head operand) = PartsOf.One operand
parts_in (Node-F.Assign head target value) = PartsOf.Two target value
parts_in (Node-F.AssignOperator head operator target value) = PartsOf.Two target value
parts_in (Node-F.Block head statements last ends) = PartsOf.Body statements last
parts_in (Node-F.If head condition body otherwise ends) = two_or_three condition body otherwise
parts_in (Node-F.While head condition body) = PartsOf.Two condition body
parts_in (Node-F.Loop head body breaks) = PartsOf.One body
parts_in (Node-F.Return head value) = one_or_none value
parts_in (Node-F.Break head) = PartsOf.Nothing
parts_in (Node-F.Continue head) = PartsOf.Nothing
parts_in (Node-F.Print head newline text arguments) = PartsOf.Listed arguments
parts_in (Node-F.Panic head) = PartsOf.Nothing
parts_in (Node-F.Assert head condition) = PartsOf.One condition
parts_in (Node-F.Let head variable value) = one_or_none value
parts_in (Node-F.Statement head expression) = PartsOf.One expression

abbrev pub parts_of : Node → PartsOf Node
parts_of node = parts_in (out-Node node)

-- the parts that are told
abbrev pub told : Parts → PartsOf Node
told parts.Nothing = PartsOf.Nothing
told (parts.One part) = PartsOf.One part.now
told (parts.Two first second) = PartsOf.Two first.now second.now
told (parts.Three first second third) = PartsOf.Three first.now second.now third.now
told (parts.Listed list) = PartsOf.Listed list.now
told (parts.Body statements last) = PartsOf.Body statements.now (option_map (λ part. part.now) last)
