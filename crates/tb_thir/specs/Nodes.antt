-- What a node is by itself, whatever stands for the nodes in it.
use Rattle.std.specs.Prelude.{Bool, true, false, not}
use Rattle.tb_thir.specs.declared.node.Head.{Head}
use Rattle.tb_thir.specs.declared.node.Node.{Node, out-Node}
use Rattle.tb_thir.specs.declared.node.Node.TheOpen.{Node-F}

-- its type, and where it stands
abbrev pub head_in : {A : Type 0} → Node-F A → Head
head_in (Node-F.Literal head value) = head
head_in (Node-F.Variable head variable mutable) = head
head_in (Node-F.Field head base field mutable) = head
head_in (Node-F.Index head base index mutable) = head
head_in (Node-F.Deref head pointer mutable) = head
head_in (Node-F.Borrow head kind operand) = head
head_in (Node-F.Unary head operator operand) = head
head_in (Node-F.Binary head operator left right) = head
head_in (Node-F.Logic head operator left right) = head
head_in (Node-F.Cast head operand) = head
head_in (Node-F.Unsize head operand length) = head
head_in (Node-F.Make head parts order) = head
head_in (Node-F.Repeat head element length) = head
head_in (Node-F.Call head function arguments) = head
head_in (Node-F.Builtin head builtin about arguments) = head
head_in (Node-F.Length head operand) = head
head_in (Node-F.DropValue head operand) = head
head_in (Node-F.Assign head target value) = head
head_in (Node-F.AssignOperator head operator target value) = head
head_in (Node-F.Block head statements last ends) = head
head_in (Node-F.If head condition body otherwise ends) = head
head_in (Node-F.While head condition body) = head
head_in (Node-F.Loop head body breaks) = head
head_in (Node-F.Return head value) = head
head_in (Node-F.Break head) = head
head_in (Node-F.Continue head) = head
head_in (Node-F.Print head newline text arguments) = head
head_in (Node-F.Panic head) = head
head_in (Node-F.Assert head condition) = head
head_in (Node-F.Let head variable value) = head
head_in (Node-F.Statement head expression) = head

abbrev pub head_of : Node → Head
head_of node = head_in (out-Node node)

-- a variable, a field, an element, and what a pointer points to are places (Rust Reference, "Place expressions and value expressions")
abbrev pub is_place_in : {A : Type 0} → Node-F A → Bool
is_place_in (Node-F.Variable head variable mutable) = true
is_place_in (Node-F.Field head base field mutable) = true
is_place_in (Node-F.Index head base index mutable) = true
is_place_in (Node-F.Deref head pointer mutable) = true
is_place_in row = false

abbrev pub is_place : Node → Bool
is_place node = is_place_in (out-Node node)

-- a place says whether it may be assigned to and borrowed with `mut`; a value may be borrowed
abbrev pub is_mutable_in : {A : Type 0} → Node-F A → Bool
is_mutable_in (Node-F.Variable head variable mutable) = mutable
is_mutable_in (Node-F.Field head base field mutable) = mutable
is_mutable_in (Node-F.Index head base index mutable) = mutable
is_mutable_in (Node-F.Deref head pointer mutable) = mutable
is_mutable_in row = true

abbrev pub is_mutable : Node → Bool
is_mutable node = is_mutable_in (out-Node node)

-- a jump, a panic, a loop that no `break` leaves, and a block or an `if` that says so: nothing comes after it
abbrev pub diverges_in : {A : Type 0} → Node-F A → Bool
diverges_in (Node-F.Block head statements last ends) = ends
diverges_in (Node-F.If head condition body otherwise ends) = ends
diverges_in (Node-F.Loop head body breaks) = not breaks
diverges_in (Node-F.Return head value) = true
diverges_in (Node-F.Break head) = true
diverges_in (Node-F.Continue head) = true
diverges_in (Node-F.Panic head) = true
diverges_in row = false

abbrev pub diverges : Node → Bool
diverges node = diverges_in (out-Node node)
