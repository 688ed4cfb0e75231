-- What was read where something was wanted, by what was wanted.
use Rattle.std.proofs.Common.{◌≡◌, ℕ, List, Option, Some, None, subst}
use Rattle.tb_perm.specs.declared.span.Span.{Span}
use Rattle.tb_lex.specs.declared.punctuation.Punctuation.{Punctuation}
use Rattle.tb_lex.specs.declared.punctuation.Punctuation.TheVariants.{CloseBrace}
use Rattle.tb_ast.specs.declared.expression.Expr.{Expr}
use Rattle.tb_ast.specs.declared.expression.Else.{Else}
use Rattle.tb_ast.specs.declared.expression.Block.{Block}
use Rattle.tb_ast.specs.declared.expression.FieldValue.{FieldValue}
use Rattle.tb_syntax.specs.State.{State}
use Rattle.tb_syntax.specs.Lists.{listed_at}
use Rattle.tb_syntax.proofs.Options.{bind_some, some_is}
use Rattle.tb_forms.specs.declared.place.Where.TheVariants.{Anywhere}
use Rattle.tb_forms.specs.declared.place.Where.{Where}
use Rattle.tb_forms.specs.declared.wanted.Wanted.{Wanted}
use Rattle.tb_forms.specs.declared.wanted.Wanted.TheVariants as wanted
use Rattle.tb_forms.specs.declared.wanted.Got.{Got}
use Rattle.tb_forms.specs.declared.wanted.Got.TheVariants as got
use Rattle.tb_expr.specs.Exprs.{Reader, whole_at, field_at, block_in_at, tested_at, else_at, value_at, got_at}

pub data IsGot (depth : ℕ) (one : Reader) : Wanted → State → Got → State → Type 0 where
  GotNothing : {state : State} → IsGot depth one wanted.Nothing state got.Nothing state
  GotOne : {place : Where} {most : ℕ} {state rest : State} (e : Expr) → one place most state ≡ Some (e, rest) → IsGot depth one (wanted.One place most) state (got.One e) rest
  GotValues : {close : Punctuation} {state rest : State} (values : List Expr) (commas : List Span) → listed_at (whole_at depth one) close state ≡ Some ((values, commas), rest)
      → IsGot depth one (wanted.Values close) state (got.Values values commas) rest
  GotFields : {state rest : State} (fields : List FieldValue) (commas : List Span) → listed_at (field_at depth one) CloseBrace state ≡ Some ((fields, commas), rest)
      → IsGot depth one wanted.Fields state (got.Fields fields commas) rest
  GotBody : {state rest : State} (body : Block) → block_in_at depth one state ≡ Some (body, rest) → IsGot depth one wanted.Body state (got.Body body) rest
  GotRepeated : {state rest : State} (condition : Expr) (body : Block) → tested_at depth one state ≡ Some ((condition, body), rest)
      → IsGot depth one wanted.Repeated state (got.Repeated condition body) rest
  GotChosen : {state rest : State} (condition : Expr) (body : Block) (otherwise : Option Else) (a : State) → tested_at depth one state ≡ Some ((condition, body), a)
      → else_at depth one a ≡ Some (otherwise, rest) → IsGot depth one wanted.Chosen state (got.Chosen condition body otherwise) rest

-- what is read is such
pub got-is : (depth : ℕ) (one : Reader) (w : Wanted) (state : State) (y : Got × State) → got_at depth one w state ≡ Some y → IsGot depth one w state y.0 y.1
unfolding got_at
got-is depth one wanted.Nothing state y e =
    let is : Got × State → Type 0 = λ z. IsGot depth one wanted.Nothing state z.0 z.1 in
    subst is (some_is (got.Nothing, state) y e) GotNothing
got-is depth one (wanted.One place most) state y e =
    let is : Got × State → Type 0 = λ z. IsGot depth one (wanted.One place most) state z.0 z.1 in
    let x = bind_some (one place most state) _ y e in
    subst is (some_is (got.One x.0.0, x.0.1) y x.2) (GotOne x.0.0 x.1)
got-is depth one (wanted.Values close) state y e =
    let is : Got × State → Type 0 = λ z. IsGot depth one (wanted.Values close) state z.0 z.1 in
    let x = bind_some (listed_at (whole_at depth one) close state) _ y e in
    subst is (some_is (got.Values x.0.0.0 x.0.0.1, x.0.1) y x.2) (GotValues x.0.0.0 x.0.0.1 x.1)
got-is depth one wanted.Fields state y e =
    let is : Got × State → Type 0 = λ z. IsGot depth one wanted.Fields state z.0 z.1 in
    let x = bind_some (listed_at (field_at depth one) CloseBrace state) _ y e in
    subst is (some_is (got.Fields x.0.0.0 x.0.0.1, x.0.1) y x.2) (GotFields x.0.0.0 x.0.0.1 x.1)
got-is depth one wanted.Body state y e =
    let is : Got × State → Type 0 = λ z. IsGot depth one wanted.Body state z.0 z.1 in
    let x = bind_some (block_in_at depth one state) _ y e in
    subst is (some_is (got.Body x.0.0, x.0.1) y x.2) (GotBody x.0.0 x.1)
got-is depth one wanted.Repeated state y e =
    let is : Got × State → Type 0 = λ z. IsGot depth one wanted.Repeated state z.0 z.1 in
    let x = bind_some (tested_at depth one state) _ y e in
    subst is (some_is (got.Repeated x.0.0.0 x.0.0.1, x.0.1) y x.2) (GotRepeated x.0.0.0 x.0.0.1 x.1)
got-is depth one wanted.Chosen state y e =
    let is : Got × State → Type 0 = λ z. IsGot depth one wanted.Chosen state z.0 z.1 in
    let x = bind_some (tested_at depth one state) _ y e in
    let z = bind_some (else_at depth one x.0.1) _ y x.2 in
    subst is (some_is (got.Chosen x.0.0.0 x.0.0.1 z.0.0, z.0.1) y z.2) (GotChosen x.0.0.0 x.0.0.1 z.0.0 x.0.1 x.1 z.1)

-- an expression up to a level, or none
pub data IsValue (depth : ℕ) (one : Reader) : Option ℕ → State → Option Expr → State → Type 0 where
  NoValue : {state : State} → IsValue depth one None state None state
  AValue : {most : ℕ} {state rest : State} (e : Expr) → one Anywhere most state ≡ Some (e, rest) → IsValue depth one (Some most) state (Some e) rest

pub value-is : (depth : ℕ) (one : Reader) (level : Option ℕ) (state : State) (y : Option Expr × State) → value_at depth one level state ≡ Some y → IsValue depth one level state y.0 y.1
unfolding value_at
value-is depth one None state y e =
    let is : Option Expr × State → Type 0 = λ z. IsValue depth one None state z.0 z.1 in
    subst is (some_is (None, state) y e) NoValue
value-is depth one (Some most) state y e =
    let is : Option Expr × State → Type 0 = λ z. IsValue depth one (Some most) state z.0 z.1 in
    let x = bind_some (one Anywhere most state) _ y e in
    subst is (some_is (Some x.0.0, x.0.1) y x.2) (AValue x.0.0 x.1)
