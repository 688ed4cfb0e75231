-- Calls of functions of the program.
use Rattle.std.specs.Prelude.{ℕ, Bool, not, ◌&&◌, if◌then◌else◌, nat_eq, List, length, slice_get, Option, Some, None, Result, Ok, Err}
use Rattle.tb_perm.specs.declared.span.Span.{Span}
use Rattle.tb_perm.specs.declared.code.Code.{Code}
use Rattle.tb_perm.specs.declared.code.Code.TheVariants.{WrongNumber, NeedsUnsafe}
use Rattle.tb_types.specs.declared.shape.Ty.{Ty}
use Rattle.tb_thir.specs.declared.node.Node.{Node, roll-Node}
use Rattle.tb_thir.specs.declared.node.Node.TheOpen.{Node-F}
use Rattle.tb_rules.specs.declared.want.Want.{Want}
use Rattle.tb_rules.specs.Answers.{Fault}
use Rattle.tb_rules.specs.Fits.{into_or_free}
use Rattle.tb_rules.specs.Nodes.{head}
use Rattle.tb_calls.specs.declared.functions.Callee.{Callee}

-- what is made, unless a code forbids it at a place
abbrev pub unless_fault : {A : Type 0} → Option Code → Span → Result A Fault → Result A Fault
unless_fault None span made = made
unless_fault (Some code) span made = Err (code, span)

-- an argument is expected at the type of its parameter, with coercions
abbrev pub argument_want : List Ty → ℕ → Want
argument_want parameters at = into_or_free (slice_get parameters at)

-- what forbids a call with so many arguments: their number, or else that it needs `unsafe`
abbrev pub function_fault : Callee → ℕ → Bool → ℕ → Option Code
function_fault callee parameters is_unsafe arguments = if nat_eq arguments parameters then (if callee.needs_unsafe && not is_unsafe then Some NeedsUnsafe else None) else Some WrongNumber

abbrev pub call_function : Callee → List Ty → Bool → List Node → Span → Result Node Fault
call_function callee parameters is_unsafe arguments span = unless_fault (function_fault callee (length parameters) is_unsafe (length arguments)) span (Ok (roll-Node (Node-F.Call (head callee.result span) callee.function arguments)))
