-- What a node holds beside its head and the nodes in it.
use Rattle.std.specs.Prelude.{Bool, ℕ, List}
use Rattle.tb_types.specs.declared.builtin.Builtin.{Builtin as AnyBuiltin}
use Rattle.tb_types.specs.declared.shape.Ty.{Ty}
use Rattle.tb_thir.specs.declared.operator.Constant.{Constant}
use Rattle.tb_thir.specs.declared.operator.BorrowKind.{BorrowKind}
use Rattle.tb_thir.specs.declared.operator.UnaryOperator.{UnaryOperator}
use Rattle.tb_thir.specs.declared.operator.BinaryOperator.{BinaryOperator}
use Rattle.tb_thir.specs.declared.operator.LogicOperator.{LogicOperator}
use Rattle.tb_thir.specs.declared.form.Form.{Form}
use Rattle.tb_thir.specs.declared.form.Form.TheVariants as form
use Rattle.tb_thir.specs.declared.node.Node.{Node, out-Node}
use Rattle.tb_thir.specs.declared.node.Node.TheOpen.{Node-F}

pub data FormOf : Type 0 where
  Literal : Constant → FormOf
  Variable : ℕ → Bool → FormOf
  Field : ℕ → Bool → FormOf
  Index : Bool → FormOf
  Deref : Bool → FormOf
  Borrow : BorrowKind → FormOf
  Unary : UnaryOperator → FormOf
  Binary : BinaryOperator → FormOf
  Logic : LogicOperator → FormOf
  Cast : FormOf
  Unsize : ℕ → FormOf
  Make : List ℕ → FormOf
  Repeat : ℕ → FormOf
  Call : ℕ → FormOf
  Builtin : AnyBuiltin → Ty → FormOf
  Length : FormOf
  DropValue : FormOf
  Assign : FormOf
  AssignOperator : BinaryOperator → FormOf
  Block : Bool → FormOf
  If : Bool → FormOf
  While : FormOf
  Loop : Bool → FormOf
  Return : FormOf
  Break : FormOf
  Continue : FormOf
  Print : Bool → List ℕ → FormOf
  Panic : FormOf
  Assert : FormOf
  Let : ℕ → FormOf
  Statement : FormOf

abbrev pub form_in : {A : Type 0} → Node-F A → FormOf
form_in (Node-F.Literal head value) = FormOf.Literal value
form_in (Node-F.Variable head variable mutable) = FormOf.Variable variable mutable
form_in (Node-F.Field head base field mutable) = FormOf.Field field mutable
form_in (Node-F.Index head base index mutable) = FormOf.Index mutable
form_in (Node-F.Deref head pointer mutable) = FormOf.Deref mutable
form_in (Node-F.Borrow head kind operand) = FormOf.Borrow kind
form_in (Node-F.Unary head operator operand) = FormOf.Unary operator
form_in (Node-F.Binary head operator left right) = FormOf.Binary operator
form_in (Node-F.Logic head operator left right) = FormOf.Logic operator
form_in (Node-F.Cast head operand) = FormOf.Cast
form_in (Node-F.Unsize head operand length) = FormOf.Unsize length
form_in (Node-F.Make head parts order) = FormOf.Make order
form_in (Node-F.Repeat head element length) = FormOf.Repeat length
form_in (Node-F.Call head function arguments) = FormOf.Call function
form_in (Node-F.Builtin head builtin about arguments) = FormOf.Builtin builtin about
form_in (Node-F.Length head operand) = FormOf.Length
form_in (Node-F.DropValue head operand) = FormOf.DropValue
form_in (Node-F.Assign head target value) = FormOf.Assign
form_in (Node-F.AssignOperator head operator target value) = FormOf.AssignOperator operator
form_in (Node-F.Block head statements last ends) = FormOf.Block ends
form_in (Node-F.If head condition body otherwise ends) = FormOf.If ends
form_in (Node-F.While head condition body) = FormOf.While
form_in (Node-F.Loop head body breaks) = FormOf.Loop breaks
form_in (Node-F.Return head value) = FormOf.Return
form_in (Node-F.Break head) = FormOf.Break
form_in (Node-F.Continue head) = FormOf.Continue
form_in (Node-F.Print head newline text arguments) = FormOf.Print newline text
form_in (Node-F.Panic head) = FormOf.Panic
form_in (Node-F.Assert head condition) = FormOf.Assert
form_in (Node-F.Let head variable value) = FormOf.Let variable
form_in (Node-F.Statement head expression) = FormOf.Statement

abbrev pub form_of : Node → FormOf
form_of node = form_in (out-Node node)

-- the form that is told
abbrev pub told_form : Form → FormOf
told_form (form.Literal value) = FormOf.Literal value
told_form (form.Variable variable mutable) = FormOf.Variable variable mutable
told_form (form.Field field mutable) = FormOf.Field field mutable
told_form (form.Index mutable) = FormOf.Index mutable
told_form (form.Deref mutable) = FormOf.Deref mutable
told_form (form.Borrow kind) = FormOf.Borrow kind
told_form (form.Unary operator) = FormOf.Unary operator
told_form (form.Binary operator) = FormOf.Binary operator
told_form (form.Logic operator) = FormOf.Logic operator
told_form form.Cast = FormOf.Cast
told_form (form.Unsize length) = FormOf.Unsize length
told_form (form.Make order) = FormOf.Make order.now
told_form (form.Repeat length) = FormOf.Repeat length
told_form (form.Call function) = FormOf.Call function
told_form (form.Builtin builtin about) = FormOf.Builtin builtin about
told_form form.Length = FormOf.Length
told_form form.DropValue = FormOf.DropValue
told_form form.Assign = FormOf.Assign
told_form (form.AssignOperator operator) = FormOf.AssignOperator operator
told_form (form.Block ends) = FormOf.Block ends
told_form (form.If ends) = FormOf.If ends
told_form form.While = FormOf.While
told_form (form.Loop breaks) = FormOf.Loop breaks
told_form form.Return = FormOf.Return
told_form form.Break = FormOf.Break
told_form form.Continue = FormOf.Continue
told_form (form.Print newline text) = FormOf.Print newline text.now
told_form form.Panic = FormOf.Panic
told_form form.Assert = FormOf.Assert
told_form (form.Let variable) = FormOf.Let variable
told_form form.Statement = FormOf.Statement
