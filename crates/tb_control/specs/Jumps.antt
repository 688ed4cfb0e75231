-- What diverges by itself: it has the type that is expected, or `()`.
use Rattle.std.specs.Prelude.{Bool, true, if◌then◌else◌, Option, Some, None, Result, Ok, Err}
use Rattle.tb_perm.specs.declared.span.Span.{Span}
use Rattle.tb_perm.specs.declared.code.Code.TheVariants.{OutsideALoop}
use Rattle.tb_types.specs.declared.shape.Ty.{Ty}
use Rattle.tb_types.specs.Same.{ty_eq}
use Rattle.tb_thir.specs.declared.node.Head.{Head}
use Rattle.tb_thir.specs.declared.node.Node.{Node, roll-Node}
use Rattle.tb_thir.specs.declared.node.Node.TheOpen.{Node-F}
use Rattle.tb_rules.specs.declared.scalars.Scalars.{Scalars}
use Rattle.tb_rules.specs.declared.want.Want.{Want}
use Rattle.tb_rules.specs.Answers.{Fault}
use Rattle.tb_rules.specs.Fits.{diverging_type, wrong}
use Rattle.tb_rules.specs.Nodes.{head}

abbrev pub head_for : Scalars → Want → Span → Head
head_for scalars want span = head (diverging_type want scalars.unit) span

-- a `return` without a value is for functions with the result `()`
abbrev pub gives_value : Scalars → Ty → Option Node → Bool
gives_value scalars output None = ty_eq output scalars.unit
gives_value scalars output (Some value) = true

abbrev pub return_of : Scalars → Ty → Want → Option Node → Span → Result Node Fault
return_of scalars output want value span = if gives_value scalars output value then Ok (roll-Node (Node-F.Return (head_for scalars want span) value)) else wrong span

-- `break` and `continue` stand in a loop
abbrev pub break_of : Scalars → Bool → Want → Span → Result Node Fault
break_of scalars inside want span = if inside then Ok (roll-Node (Node-F.Break (head_for scalars want span))) else Err (OutsideALoop, span)

abbrev pub continue_of : Scalars → Bool → Want → Span → Result Node Fault
continue_of scalars inside want span = if inside then Ok (roll-Node (Node-F.Continue (head_for scalars want span))) else Err (OutsideALoop, span)

abbrev pub panic_of : Scalars → Want → Span → Node
panic_of scalars want span = roll-Node (Node-F.Panic (head_for scalars want span))
