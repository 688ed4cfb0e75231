-- What lies in an expression, in the order of the text, whatever stands for its expressions, blocks and fields.
use Rattle.std.specs.Prelude.{List, Option, None, Some}
use Rattle.tb_ast.specs.declared.expression.Expr.{Expr, out-Expr}
use Rattle.tb_ast.specs.declared.expression.Else.{Else}
use Rattle.tb_ast.specs.declared.expression.Block.{Block}
use Rattle.tb_ast.specs.declared.expression.FieldValue.{FieldValue}
use Rattle.tb_ast.specs.declared.expression.Else.TheOpen.{Expr-F}
use Rattle.tb_ast.specs.declared.parts.Parts.{Parts}
use Rattle.tb_ast.specs.declared.parts.Parts.TheVariants as parts

pub data PartsOf (A B C E : Type 0) : Type 0 where
  Nothing : PartsOf A B C E
  One : B → PartsOf A B C E
  Two : B → B → PartsOf A B C E
  Listed : List B → PartsOf A B C E
  Behind : B → List B → PartsOf A B C E
  Fields : List C → PartsOf A B C E
  Body : E → PartsOf A B C E
  Repeated : B → E → PartsOf A B C E
  Chosen : B → E → Option A → PartsOf A B C E

abbrev pub if_some : {A B C E : Type 0} → Option B → PartsOf A B C E
if_some None = PartsOf.Nothing
if_some (Some part) = PartsOf.One part

abbrev pub parts_in : {A B C D E F : Type 0} → Expr-F A B C D E F → PartsOf A B C E
parts_in (Expr-F.Literal value) = PartsOf.Nothing
parts_in (Expr-F.Path path) = PartsOf.Nothing
parts_in (Expr-F.StructLiteral span path opening fields commas closing) = PartsOf.Fields fields
parts_in (Expr-F.Unit span opening closing) = PartsOf.Nothing
parts_in (Expr-F.Paren span opening inner closing) = PartsOf.One inner
parts_in (Expr-F.Tuple span opening parts commas closing) = PartsOf.Listed parts
parts_in (Expr-F.Array span opening elements commas closing) = PartsOf.Listed elements
parts_in (Expr-F.Repeat span opening element semicolon length closing) = PartsOf.One element
parts_in (Expr-F.Block body) = PartsOf.Body body
parts_in (Expr-F.Unsafe span at body) = PartsOf.Body body
parts_in (Expr-F.While span at condition body) = PartsOf.Repeated condition body
parts_in (Expr-F.Loop span at body) = PartsOf.Body body
parts_in (Expr-F.If span at condition body otherwise) = PartsOf.Chosen condition body otherwise
parts_in (Expr-F.Return span at value) = if_some value
parts_in (Expr-F.Break span) = PartsOf.Nothing
parts_in (Expr-F.Continue span) = PartsOf.Nothing
parts_in (Expr-F.Print span name newline bang opening text arguments commas closing) = PartsOf.Listed arguments
parts_in (Expr-F.Panic span name bang opening text closing) = PartsOf.Nothing
parts_in (Expr-F.Assert span name bang opening condition comma closing) = PartsOf.One condition
parts_in (Expr-F.Field span base dot name) = PartsOf.One base
parts_in (Expr-F.TupleField span base dot index) = PartsOf.One base
parts_in (Expr-F.MethodCall span receiver dot name turbofish opening arguments commas closing) = PartsOf.Behind receiver arguments
parts_in (Expr-F.Call span callee opening arguments commas closing) = PartsOf.Listed arguments
parts_in (Expr-F.Index span base opening index closing) = PartsOf.Two base index
parts_in (Expr-F.Unary span operator at operand) = PartsOf.One operand
parts_in (Expr-F.Borrow span and kind operand) = PartsOf.One operand
parts_in (Expr-F.Cast span operand at ty) = PartsOf.One operand
parts_in (Expr-F.Binary span left operator at right) = PartsOf.Two left right
parts_in (Expr-F.Assign span target equals value) = PartsOf.Two target value
parts_in (Expr-F.AssignOp span target operator at value) = PartsOf.Two target value

-- the parts that are told
abbrev pub told : Parts → PartsOf Else Expr FieldValue Block
told parts.Nothing = PartsOf.Nothing
told (parts.One part) = PartsOf.One part.now
told (parts.Two first second) = PartsOf.Two first.now second.now
told (parts.Listed list) = PartsOf.Listed list.now
told (parts.Behind first rest) = PartsOf.Behind first.now rest.now
told (parts.Fields fields) = PartsOf.Fields fields.now
told (parts.Body body) = PartsOf.Body body.now
told (parts.Repeated condition body) = PartsOf.Repeated condition.now body.now
told (parts.Chosen condition body otherwise) = PartsOf.Chosen condition.now body.now otherwise.now

abbrev pub parts_of : Expr → PartsOf Else Expr FieldValue Block
parts_of e = parts_in (out-Expr e)
