-- Reading from left to right: what the private functions answer, apart from out of memory.
use Rattle.std.specs.Prelude.{◌≡◌, ℕ, zero, suc, ◌+◌, ◌-◌, Bool, true, false, ◌&&◌, ◌||◌, not, ◌==◌, nat_le, if◌then◌else◌, List, [], ◌∷◌, ◌++◌, length, take, Option, None, Some, Result, Ok, Err, codes}
use Rattle.std.specs.List.{flat_map}
use Rattle.std.specs.Str.{bytes_eq}
use Rattle.tb_perm.specs.declared.span.Span.{Span}
use Rattle.tb_small.specs.declared.error.SmallError.{SmallError}
use Rattle.tb_small.specs.declared.error.SmallError.TheVariants as errors
use Rattle.tb_small.specs.Scope.{Binding}
use Rattle.tb_small.specs.declared.tree.SmallTree.{SmallTree}
use Rattle.tb_small.specs.declared.tree.Text.{Text}
use Rattle.tb_small.specs.declared.tree.Variable.{Variable}
use Rattle.tb_small.specs.declared.tree.Int.{Int}
use Rattle.tb_small.specs.declared.tree.Atom.{Atom}
use Rattle.tb_small.specs.declared.tree.Atom.TheVariants as atom
use Rattle.tb_small.specs.declared.tree.Sum.{Sum}
use Rattle.tb_small.specs.declared.tree.RefKind.{RefKind}
use Rattle.tb_small.specs.declared.tree.RefKind.TheVariants as kind
use Rattle.tb_small.specs.declared.tree.Ty.{Ty}
use Rattle.tb_small.specs.declared.tree.Ty.TheVariants as ty
use Rattle.tb_small.specs.declared.tree.Deref.{Deref}
use Rattle.tb_small.specs.declared.tree.Spot.{Spot}
use Rattle.tb_small.specs.declared.tree.Spot.TheVariants as spot
use Rattle.tb_small.specs.declared.tree.Borrow.{Borrow}
use Rattle.tb_small.specs.declared.tree.Value.{Value}
use Rattle.tb_small.specs.declared.tree.Value.TheVariants as value
use Rattle.tb_small.specs.declared.tree.UnsafeRight.{UnsafeRight}
use Rattle.tb_small.specs.declared.tree.Right.{Right}
use Rattle.tb_small.specs.declared.tree.Right.TheVariants as right
use Rattle.tb_small.specs.declared.tree.Let.{Let}
use Rattle.tb_small.specs.declared.tree.Assign.{Assign}
use Rattle.tb_small.specs.declared.tree.Print.{Print}
use Rattle.tb_small.specs.declared.tree.Inner.{Inner}
use Rattle.tb_small.specs.declared.tree.Inner.TheVariants as inner
use Rattle.tb_small.specs.declared.tree.UnsafeBlock.{UnsafeBlock}
use Rattle.tb_small.specs.declared.tree.Statement.{Statement}
use Rattle.tb_small.specs.declared.tree.Statement.TheVariants as statement
use Rattle.tb_small.specs.Words.{after_space, begins_with, is_apart, is_word_byte, is_name, is_number, value_of}
use Rattle.tb_small.specs.Grammar.{is_plain, bindings, is_mutable, type_of, is_raw, may_deref, is_writable, is_assigned, needs_mutable, is_mutable_spot, spot_type, right_type, locals}

infixl 10 ◌>>=◌
abbrev pub ◌>>=◌ : {A B : Type 0} → Option A → (A → Option B) → Option B
None >>= next = None
(Some value) >>= next = next value

-- what a function returns with this error
abbrev pub Fails : {Y : Type 0} → SmallError → Option Y → Type 0
Fails errors.NotBuilt read = read ≡ None
Fails errors.Memory read = Unit {0}

-- what a function returns, seen by `view`, is what reading gives, unless memory ran out
abbrev pub Gives : {X Y : Type 0} → (X → Y) → Result X SmallError → Option Y → Type 0
Gives view (Ok value) read = read ≡ Some (view value)
Gives view (Err error) read = Fails error read

-- Words.

-- what follows this word at the front
abbrev pub strip : List ℕ → List ℕ → Option (List ℕ)
strip [] text = Some text
strip (expected ∷ word) [] = None
strip (expected ∷ word) (byte ∷ text) = if expected == byte then strip word text else None

-- what follows this word behind white space
unfoldable pub eat : List ℕ → List ℕ → Option (List ℕ)
eat word text = do
  rest ← strip word (after_space text)
  if is_apart word rest then Some rest else None

-- the bytes of identifiers at the front
abbrev pub word_of : List ℕ → List ℕ
word_of [] = []
word_of (byte ∷ text) = if is_word_byte byte then byte ∷ word_of text else []

-- what follows them
abbrev pub after_word : List ℕ → List ℕ
after_word [] = []
after_word (byte ∷ text) = if is_word_byte byte then after_word text else byte ∷ text

-- this word comes next
abbrev pub has_word : List ℕ → List ℕ → Bool
has_word word text = bytes_eq (word_of (after_space text)) word

-- this byte comes next
abbrev pub has_byte : ℕ → List ℕ → Bool
has_byte wanted text = begins_with wanted (after_space text)

-- from the next token on up to where the rest begins
abbrev pub span_of : ℕ → List ℕ → List ℕ → Span
span_of size text rest = record { lo = size - length (after_space text); hi = size - length rest }

-- Runs.

-- one item after the other, up to where they stop, as many as there is fuel for; what was read so
-- far is a state, which each item changes
unfoldable pub many_at : {S A : Type 0} → (List ℕ → Bool) → (S → List ℕ → Option (A × List ℕ)) → (S → A → S) → ℕ → S → List ℕ → Option (S × List ℕ)
many_at stops one update zero state text = if stops text then Some (state, text) else None
many_at stops one update (suc fuel) state text =
    if stops text then Some (state, text)
    else (one state text >>= λ x. many_at stops one update fuel (update state x.0) x.1)

-- a list of what was read so far
abbrev pub with_last : {A : Type 0} → List A → A → List A
with_last items item = items ++ item ∷ []

-- Texts.

-- how many arguments the piece at the front of a text takes
abbrev pub piece_at : List ℕ → Option (ℕ × List ℕ)
piece_at [] = None
piece_at (byte ∷ []) = if is_plain byte then Some (0, []) else None
piece_at (byte ∷ next ∷ text) =
    if is_plain byte then Some (0, next ∷ text)
    else (if byte == 92 && next == 110 then Some (0, text)
    else (if byte == 123 && next == 125 then Some (1, text) else None))

-- how many arguments the pieces up to a quote take
unfoldable pub holes_at : List ℕ → Option (ℕ × List ℕ)
holes_at text = many_at (begins_with 34) (λ _. piece_at) (λ taken more. taken + more) (length text) 0 text

-- a text in quotes, and how many arguments it takes
unfoldable pub text_at : ℕ → List ℕ → Option (Text × ℕ × List ℕ)
text_at size text = do
  inner ← eat (codes "\"") text
  holes ← holes_at inner
  rest ← eat (codes "\"") holes.1
  Some (record { span = span_of size text rest; source = take (length inner - length holes.1) inner }, holes.0, rest)

-- Sums.

-- the number that was found further on, or this one
abbrev pub later_or : Option ℕ → Bool → Option ℕ
later_or (Some number) here = Some (number + 1)
later_or None here = if here then Some 0 else None

-- the number of the last `let` of this name
abbrev pub last_named : List Binding → List ℕ → Option ℕ
last_named [] name = None
last_named (binding ∷ scope) name = later_or (last_named scope name) (bytes_eq binding.name name)

-- an identifier
unfoldable pub name_at : List ℕ → Option (List ℕ × List ℕ)
name_at text =
    if is_name (word_of (after_space text))
    then Some (word_of (after_space text), after_word (after_space text)) else None

-- a variable
unfoldable pub variable_at : List Binding → ℕ → List ℕ → Option (Variable × List ℕ)
variable_at scope size text = do
  name ← name_at text
  number ← last_named scope name.0
  Some (record { span = span_of size text name.1; number = number }, name.1)

-- the value of a literal, if it is in range
unfoldable pub literal_value : List ℕ → Option ℕ
literal_value word =
    if is_number word && nat_le (value_of word) 2147483647 then Some (value_of word) else None

-- a literal
unfoldable pub int_at : ℕ → List ℕ → Option (Int × List ℕ)
int_at size text = do
  value ← literal_value (word_of (after_space text))
  Some (record { span = span_of size text (after_word (after_space text)); value = value }, after_word (after_space text))

-- a number for each type
abbrev pub type_number : Ty → ℕ
type_number ty.Int32 = 0
type_number (ty.Pointer kind.Shared) = 1
type_number (ty.Pointer kind.Mut) = 2
type_number (ty.Pointer kind.RawConst) = 3
type_number (ty.Pointer kind.RawMut) = 4

-- the types are one
abbrev pub same_type : Ty → Ty → Bool
same_type a b = type_number a == type_number b

-- a variable of type `i32`
unfoldable pub int_variable_at : List Binding → ℕ → List ℕ → Option (Variable × List ℕ)
int_variable_at scope size text = do
  variable ← variable_at scope size text
  if same_type (type_of scope variable.0.number) ty.Int32 then Some variable else None

-- `*` and a pointer that it may stand before
unfoldable pub deref_at : List Binding → Bool → ℕ → List ℕ → Option (Deref × List ℕ)
deref_at scope inside size text = do
  star ← eat (codes "*") text
  variable ← variable_at scope size star
  if may_deref inside (type_of scope variable.0.number) then Some (record { span = span_of size text variable.1; variable = variable.0 }, variable.1) else None

-- a place of type `i32`
unfoldable pub spot_at : List Binding → Bool → ℕ → List ℕ → Option (Spot × List ℕ)
spot_at scope inside size text =
    if has_byte 42 text
    then (deref_at scope inside size text >>= λ x. Some (spot.Deref x.0, x.1))
    else (int_variable_at scope size text >>= λ x. Some (spot.Variable x.0, x.1))

-- a literal, or a place of type `i32`
unfoldable pub atom_at : List Binding → Bool → ℕ → List ℕ → Option (Atom × List ℕ)
atom_at scope inside size text =
    if has_byte 42 text
    then (deref_at scope inside size text >>= λ x. Some (atom.Deref x.0, x.1))
    else (if is_name (word_of (after_space text))
    then (int_variable_at scope size text >>= λ x. Some (atom.Variable x.0, x.1))
    else (int_at size text >>= λ x. Some (atom.Int x.0, x.1)))

-- `+` and an atom
unfoldable pub next_atom_at : List Binding → Bool → ℕ → List ℕ → Option (Atom × List ℕ)
next_atom_at scope inside size text = do
  rest ← eat (codes "+") text
  atom_at scope inside size rest

-- no `+` comes next
abbrev pub ends_sum : List ℕ → Bool
ends_sum text = not (has_byte 43 text)

-- the atoms behind the first
unfoldable pub atoms_at : List Binding → Bool → ℕ → List ℕ → Option (List Atom × List ℕ)
atoms_at scope inside size text = many_at ends_sum (λ _. next_atom_at scope inside size) with_last 63 [] text

-- a sum
unfoldable pub sum_at : List Binding → Bool → ℕ → List ℕ → Option (Sum × List ℕ)
sum_at scope inside size text = do
  first ← atom_at scope inside size text
  rest ← atoms_at scope inside size first.1
  Some (record { first = first.0; rest = rest.0 }, rest.1)

-- `,` and a sum
unfoldable pub next_argument_at : List Binding → Bool → ℕ → List ℕ → Option (Sum × List ℕ)
next_argument_at scope inside size text = do
  rest ← eat (codes ",") text
  sum_at scope inside size rest

-- no comma comes next
abbrev pub ends_arguments : List ℕ → Bool
ends_arguments text = not (has_byte 44 text)

-- the arguments behind the text
unfoldable pub arguments_at : List Binding → Bool → ℕ → List ℕ → Option (List Sum × List ℕ)
arguments_at scope inside size text =
    many_at ends_arguments (λ _. next_argument_at scope inside size) with_last (length text) [] text

-- Values.

-- `raw` with `const` or `mut` behind it: by itself it is an identifier (Rust Reference, Keywords)
abbrev pub has_raw : List ℕ → Bool
has_raw text =
    has_word (codes "raw") text
    && (has_word (codes "const") (after_word (after_space text)) || has_word (codes "mut") (after_word (after_space text)))

-- the kind of a raw borrow, from `raw` on
unfoldable pub raw_at : List ℕ → Option (RefKind × List ℕ)
raw_at text = do
  raw ← eat (codes "raw") text
  if has_word (codes "mut") raw then (eat (codes "mut") raw >>= λ rest. Some (kind.RawMut, rest)) else (eat (codes "const") raw >>= λ rest. Some (kind.RawConst, rest))

-- the kind of a borrow, from `&` on
unfoldable pub kind_at : List ℕ → Option (RefKind × List ℕ)
kind_at text = do
  behind ← eat (codes "&") text
  if has_word (codes "mut") behind then (eat (codes "mut") behind >>= λ rest. Some (kind.Mut, rest)) else (if has_raw behind then raw_at behind else Some (kind.Shared, behind))

-- a borrow, of a mutable place where it has to be
unfoldable pub borrow_at : List Binding → Bool → ℕ → List ℕ → Option (Borrow × List ℕ)
borrow_at scope inside size text = do
  front ← kind_at text
  operand ← spot_at scope inside size front.1
  if not (needs_mutable front.0) || is_mutable_spot scope operand.0 then Some (record { span = span_of size text operand.1; kind = front.0; operand = operand.0 }, operand.1) else None

-- a raw pointer has this number
abbrev pub is_raw_at : List Binding → Option ℕ → Bool
is_raw_at scope None = false
is_raw_at scope (Some number) = is_raw (type_of scope number)

-- the name of a raw pointer comes next
abbrev pub has_pointer : List Binding → List ℕ → Bool
has_pointer scope text =
    is_name (word_of (after_space text)) && is_raw_at scope (last_named scope (word_of (after_space text)))

-- a borrow, a raw pointer or a sum
unfoldable pub value_at : List Binding → Bool → ℕ → List ℕ → Option (Value × List ℕ)
value_at scope inside size text =
    if has_byte 38 text
    then (borrow_at scope inside size text >>= λ x. Some (value.Borrow x.0, x.1))
    else (if has_pointer scope text
    then (variable_at scope size text >>= λ x. Some (value.Pointer x.0, x.1))
    else (sum_at scope inside size text >>= λ x. Some (value.Sum x.0, x.1)))

-- a value in `unsafe { .. }`
unfoldable pub unsafe_right_at : List Binding → ℕ → List ℕ → Option (UnsafeRight × List ℕ)
unsafe_right_at scope size text = do
  keyword ← eat (codes "unsafe") text
  brace ← eat (codes "{") keyword
  value ← value_at scope true size brace
  rest ← eat (codes "}") value.1
  Some (record { span = span_of size text rest; value = value.0 }, rest)

-- a right side
unfoldable pub right_at : List Binding → Bool → ℕ → List ℕ → Option (Right × List ℕ)
right_at scope inside size text =
    if has_word (codes "unsafe") text
    then (unsafe_right_at scope size text >>= λ x. Some (right.Unsafe x.0, x.1))
    else (value_at scope inside size text >>= λ x. Some (right.Plain x.0, x.1))

-- Statements.

-- whether `mut` comes next, and what follows it
unfoldable pub mut_at : List ℕ → Option (Bool × List ℕ)
mut_at text =
    if has_word (codes "mut") text then (eat (codes "mut") text >>= λ rest. Some (true, rest))
    else Some (false, text)

-- a `let`
unfoldable pub let_at : List Binding → ℕ → List ℕ → Option (Let × List ℕ)
let_at scope size text = do
  keyword ← eat (codes "let") text
  mutable ← mut_at keyword
  name ← name_at mutable.1
  equals ← eat (codes "=") name.1
  value ← right_at scope false size equals
  rest ← eat (codes ";") value.1
  Some (record { span = span_of size text rest; mutable = mutable.0; name = record { span = span_of size mutable.1 name.1; bytes = name.0 }; ty = right_type scope value.0; value = value.0 }, rest)

-- a variable that is assigned
unfoldable pub assigned_at : List Binding → ℕ → List ℕ → Option (Variable × List ℕ)
assigned_at scope size text = do
  variable ← variable_at scope size text
  if is_assigned (type_of scope variable.0.number) && is_mutable scope variable.0.number then Some variable else None

-- `*` and a pointer that is written through
unfoldable pub written_at : List Binding → Bool → ℕ → List ℕ → Option (Deref × List ℕ)
written_at scope inside size text = do
  deref ← deref_at scope inside size text
  if is_writable (type_of scope deref.0.variable.number) then Some deref else None

-- a place that is assigned
unfoldable pub target_at : List Binding → Bool → ℕ → List ℕ → Option (Spot × List ℕ)
target_at scope inside size text =
    if has_byte 42 text
    then (written_at scope inside size text >>= λ x. Some (spot.Deref x.0, x.1))
    else (assigned_at scope size text >>= λ x. Some (spot.Variable x.0, x.1))

-- an assignment of a value that has the type of its place
unfoldable pub assign_at : List Binding → Bool → ℕ → List ℕ → Option (Assign × List ℕ)
assign_at scope inside size text = do
  target ← target_at scope inside size text
  equals ← eat (codes "=") target.1
  value ← right_at scope inside size equals
  rest ← eat (codes ";") value.1
  if same_type (right_type scope value.0) (spot_type scope target.0) then Some (record { span = span_of size text rest; target = target.0; value = value.0 }, rest) else None

-- whether it is `println`, and what follows the name of the macro
unfoldable pub macro_at : List ℕ → Option (Bool × List ℕ)
macro_at text =
    if has_word (codes "println") text then (eat (codes "println") text >>= λ rest. Some (true, rest))
    else (eat (codes "print") text >>= λ rest. Some (false, rest))

-- a call of `print!` or `println!`, with as many arguments as its text takes
unfoldable pub print_at : List Binding → Bool → ℕ → List ℕ → Option (Print × List ℕ)
print_at scope inside size text = do
  name ← macro_at text
  bang ← eat (codes "!") name.1
  paren ← eat (codes "(") bang
  literal ← text_at size paren
  arguments ← arguments_at scope inside size literal.2
  close ← eat (codes ")") arguments.1
  rest ← eat (codes ";") close
  if length arguments.0 == literal.1 then Some (record { span = span_of size text rest; call = span_of size text close; newline = name.0; text = literal.0; arguments = arguments.0 }, rest) else None

-- a word with `!` behind it
abbrev pub is_call : List ℕ → Bool
is_call text = has_byte 33 (after_word (after_space text))

-- a statement of an `unsafe` block
unfoldable pub inner_at : List Binding → ℕ → List ℕ → Option (Inner × List ℕ)
inner_at scope size text =
    if is_call text
    then (print_at scope true size text >>= λ x. Some (inner.Print x.0, x.1))
    else (assign_at scope true size text >>= λ x. Some (inner.Assign x.0, x.1))

-- a brace that closes is next
abbrev pub closes : List ℕ → Bool
closes text = has_byte 125 text

-- the statements of an `unsafe` block
unfoldable pub inners_at : List Binding → ℕ → List ℕ → Option (List Inner × List ℕ)
inners_at scope size text = many_at closes (λ _. inner_at scope size) with_last (length text) [] text

-- an `unsafe` block
unfoldable pub unsafe_at : List Binding → ℕ → List ℕ → Option (UnsafeBlock × List ℕ)
unsafe_at scope size text = do
  keyword ← eat (codes "unsafe") text
  brace ← eat (codes "{") keyword
  statements ← inners_at scope size brace
  rest ← eat (codes "}") statements.1
  Some (record { span = span_of size text rest; statements = statements.0 }, rest)

-- a statement
unfoldable pub statement_at : List Binding → ℕ → List ℕ → Option (Statement × List ℕ)
statement_at scope size text =
    if has_word (codes "let") text
    then (let_at scope size text >>= λ x. Some (statement.Let x.0, x.1))
    else (if has_word (codes "unsafe") text
    then (unsafe_at scope size text >>= λ x. Some (statement.Unsafe x.0, x.1))
    else (if is_call text
    then (print_at scope false size text >>= λ x. Some (statement.Print x.0, x.1))
    else (assign_at scope false size text >>= λ x. Some (statement.Assign x.0, x.1))))

-- so many locals, if a function may have them
abbrev pub within : ℕ → Option ℕ
within total = if nat_le total 4096 then Some total else None

-- a statement behind others, if there are not too many locals with it
unfoldable pub next_statement_at : ℕ → List Statement → List ℕ → Option (Statement × List ℕ)
next_statement_at size before text = do
  next ← statement_at (flat_map bindings before) size text
  if nat_le (locals (before ++ next.0 ∷ [])) 4096 then Some next else None

-- the statements up to the brace that closes
unfoldable pub statements_at : ℕ → List ℕ → Option (List Statement × List ℕ)
statements_at size text = many_at closes (next_statement_at size) with_last (length text) [] text

-- the whole source
unfoldable pub small_at : List ℕ → Option SmallTree
small_at text = do
  name ← eat (codes "fn") text
  paren ← eat (codes "main") name
  close ← eat (codes "(") paren
  block ← eat (codes ")") close
  inner ← eat (codes "{") block
  statements ← statements_at (length text) inner
  rest ← eat (codes "}") statements.1
  if length (after_space rest) == 0 then Some (record { function = span_of (length text) text rest; body = record { span = span_of (length text) block rest; statements = statements.0 } }) else None
