-- The sources that are read so far: a function `main` with variables, sums, pointers, `unsafe` and prints.
-- A tree has a list of tokens, and a text has the tree where it is those tokens with white space between,
-- each variable means a `let` and has the type that its place asks for, and the tree is within the limits.
use Rattle.std.specs.Prelude.{◌≡◌, ◌≢◌, ℕ, ◌+◌, ◌<◌, ◌≤◌, Bool, ◌||◌, ◌&&◌, not, ◌==◌, nat_le, List, [], ◌∷◌, ◌++◌, length, map, sum_by, slice_index_or, None, Some, true, false, codes, ⊤}
use Rattle.std.specs.List.{flat_map, AllByRecursion}
use Rattle.tb_perm.specs.declared.span.Span.{Span}
use Rattle.tb_small.specs.Scope.{Binding}
use Rattle.tb_small.specs.declared.tree.SmallTree.{SmallTree}
use Rattle.tb_small.specs.declared.tree.Let.{Let}
use Rattle.tb_small.specs.declared.tree.Assign.{Assign}
use Rattle.tb_small.specs.declared.tree.Print.{Print}
use Rattle.tb_small.specs.declared.tree.Sum.{Sum}
use Rattle.tb_small.specs.declared.tree.Atom.{Atom}
use Rattle.tb_small.specs.declared.tree.Atom.TheVariants as atom
use Rattle.tb_small.specs.declared.tree.Statement.{Statement}
use Rattle.tb_small.specs.declared.tree.Statement.TheVariants as statement
use Rattle.tb_small.specs.declared.tree.UnsafeBlock.{UnsafeBlock}
use Rattle.tb_small.specs.declared.tree.Inner.{Inner}
use Rattle.tb_small.specs.declared.tree.Inner.TheVariants as inner
use Rattle.tb_small.specs.declared.tree.Right.{Right}
use Rattle.tb_small.specs.declared.tree.Right.TheVariants as right
use Rattle.tb_small.specs.declared.tree.Value.{Value}
use Rattle.tb_small.specs.declared.tree.Value.TheVariants as value
use Rattle.tb_small.specs.declared.tree.Borrow.{Borrow}
use Rattle.tb_small.specs.declared.tree.RefKind.{RefKind}
use Rattle.tb_small.specs.declared.tree.RefKind.TheVariants as kind
use Rattle.tb_small.specs.declared.tree.Ty.{Ty}
use Rattle.tb_small.specs.declared.tree.Ty.TheVariants as ty
use Rattle.tb_small.specs.declared.tree.Spot.{Spot}
use Rattle.tb_small.specs.declared.tree.Spot.TheVariants as spot
use Rattle.tb_small.specs.declared.tree.Deref.{Deref}
use Rattle.tb_small.specs.Words.{is_name, Spelling, Exactly, Number, Token, Reads, after_space}

-- a token whose place the tree does not name
abbrev pub token : List ℕ → Token
token word = record { spelling = Exactly word; lo = None; hi = None }

-- the first token of what begins at this place
abbrev pub opening : ℕ → List ℕ → Token
opening lo word = record { spelling = Exactly word; lo = Some lo; hi = None }

-- the last token of what ends at this place
abbrev pub closing : List ℕ → ℕ → Token
closing word hi = record { spelling = Exactly word; lo = None; hi = Some hi }

-- a token with a span of its own
abbrev pub spanned : Span → Spelling → Token
spanned span spelling = record { spelling = spelling; lo = Some span.lo; hi = Some span.hi }

-- A text.

-- a byte that stands for itself in a text: printable ASCII other than quotes, backslashes and braces
abbrev pub is_plain : ℕ → Bool
is_plain byte =
    nat_le 32 byte && nat_le byte 126 && not (byte == 34 || byte == 92 || byte == 123 || byte == 125)

-- a piece of a text: a plain byte, a line feed, or a place for an argument
pub data Piece : Type 0 where
  Plain : ℕ → Piece
  Feed : Piece
  Hole : Piece

-- a plain piece is a plain byte
abbrev pub IsPiece : Piece → Type 0
IsPiece (Plain byte) = is_plain byte ≡ true
IsPiece Feed = ⊤
IsPiece Hole = ⊤

-- a line feed is `\n`, and a place for an argument is `{}`
abbrev pub spelled : Piece → List ℕ
spelled (Plain byte) = byte ∷ []
spelled Feed = 92 ∷ 110 ∷ []
spelled Hole = 123 ∷ 125 ∷ []

-- how many arguments the piece takes
abbrev pub holes : Piece → ℕ
holes (Plain byte) = 0
holes Feed = 0
holes Hole = 1

-- these bytes are the pieces of a text that takes so many arguments
pub record IsFormat (source : List ℕ) (arguments : ℕ) : Type 0 where
  pub pieces : List Piece
  pub valid : AllByRecursion IsPiece pieces
  pub spelling : source ≡ flat_map spelled pieces
  pub count : sum_by holes pieces ≡ arguments

-- a text with its quotes
abbrev pub literal : List ℕ → Spelling
literal source = Exactly (34 ∷ (source ++ 34 ∷ []))

-- What a variable means.

-- the `let` of a statement, if it is one
abbrev pub bindings : Statement → List Binding
bindings (statement.Let binding) =
    record { name = binding.name.bytes; mutable = binding.mutable; ty = binding.ty } ∷ []
bindings (statement.Assign assign) = []
bindings (statement.Print print) = []
bindings (statement.Unsafe block) = []

-- the name of the `let` of this number
abbrev pub name_of : List Binding → ℕ → List ℕ
name_of scope number = slice_index_or (map (λ binding. binding.name) scope) number []

-- the `let` of this number has `mut`
abbrev pub is_mutable : List Binding → ℕ → Bool
is_mutable scope number = slice_index_or (map (λ binding. binding.mutable) scope) number false

-- the type of the variable of this number
abbrev pub type_of : List Binding → ℕ → Ty
type_of scope number = slice_index_or (map (λ binding. binding.ty) scope) number ty.Int32

-- of the `let`s in scope this one has its name last, so it is what the name stands for
pub record IsMeant (scope : List Binding) (number : ℕ) : Type 0 where
  pub is_there : number < length scope
  pub is_last : (later : ℕ) → number < later → later < length scope → name_of scope later ≢ name_of scope number

-- Types.

-- a raw pointer
abbrev pub is_raw : Ty → Bool
is_raw ty.Int32 = false
is_raw (ty.Pointer kind.Shared) = false
is_raw (ty.Pointer kind.Mut) = false
is_raw (ty.Pointer kind.RawConst) = true
is_raw (ty.Pointer kind.RawMut) = true

-- `*` may stand before a reference, and before a raw pointer inside `unsafe` alone (Rust Reference,
-- Unsafety)
abbrev pub may_deref : Bool → Ty → Bool
may_deref inside ty.Int32 = false
may_deref inside (ty.Pointer kind.Shared) = true
may_deref inside (ty.Pointer kind.Mut) = true
may_deref inside (ty.Pointer kind.RawConst) = inside
may_deref inside (ty.Pointer kind.RawMut) = inside

-- what a pointer of this type points to may be changed through it
abbrev pub is_writable : Ty → Bool
is_writable ty.Int32 = false
is_writable (ty.Pointer kind.Shared) = false
is_writable (ty.Pointer kind.Mut) = true
is_writable (ty.Pointer kind.RawConst) = false
is_writable (ty.Pointer kind.RawMut) = true

-- a borrow of this kind is of a mutable place
abbrev pub needs_mutable : RefKind → Bool
needs_mutable kind.Shared = false
needs_mutable kind.Mut = true
needs_mutable kind.RawConst = false
needs_mutable kind.RawMut = true

-- Places, behind the `let`s of a scope, and inside `unsafe` or not.

-- `* name`
abbrev pub deref_tokens : List Binding → Deref → List Token
deref_tokens scope deref =
    opening deref.span.lo (codes "*")
    ∷ spanned deref.variable.span (Exactly (name_of scope deref.variable.number)) ∷ []

-- a pointer that `*` may stand before; the place ends with its name
abbrev pub IsDeref : List Binding → Bool → Deref → Type 0
IsDeref scope inside deref =
    (deref.span.hi ≡ deref.variable.span.hi) × IsMeant scope deref.variable.number
    × (may_deref inside (type_of scope deref.variable.number) ≡ true)

-- a name, or `* name`
abbrev pub spot_tokens : List Binding → Spot → List Token
spot_tokens scope (spot.Variable variable) =
    spanned variable.span (Exactly (name_of scope variable.number)) ∷ []
spot_tokens scope (spot.Deref deref) = deref_tokens scope deref

-- where a place stands
abbrev pub spot_span : Spot → Span
spot_span (spot.Variable variable) = variable.span
spot_span (spot.Deref deref) = deref.span

-- the type of a place
abbrev pub spot_type : List Binding → Spot → Ty
spot_type scope (spot.Variable variable) = type_of scope variable.number
spot_type scope (spot.Deref deref) = ty.Int32

-- a place that may be changed
abbrev pub is_mutable_spot : List Binding → Spot → Bool
is_mutable_spot scope (spot.Variable variable) = is_mutable scope variable.number
is_mutable_spot scope (spot.Deref deref) = is_writable (type_of scope deref.variable.number)

-- a place of type `i32`: the operand of a borrow
abbrev pub IsSpot : List Binding → Bool → Spot → Type 0
IsSpot scope inside (spot.Variable variable) =
    IsMeant scope variable.number × (type_of scope variable.number ≡ ty.Int32)
IsSpot scope inside (spot.Deref deref) = IsDeref scope inside deref

-- a type whose variables are assigned: an `i32` or a raw pointer
abbrev pub is_assigned : Ty → Bool
is_assigned ty.Int32 = true
is_assigned (ty.Pointer kind) = is_raw (ty.Pointer kind)

-- a place that is assigned
abbrev pub IsTarget : List Binding → Bool → Spot → Type 0
IsTarget scope inside (spot.Variable variable) =
    IsMeant scope variable.number × (is_assigned (type_of scope variable.number) ≡ true)
    × (is_mutable scope variable.number ≡ true)
IsTarget scope inside (spot.Deref deref) =
    IsDeref scope inside deref × (is_writable (type_of scope deref.variable.number) ≡ true)

-- Sums.

-- the atoms of a sum, from left to right
abbrev pub atoms : Sum → List Atom
atoms sum = sum.first ∷ sum.rest

-- a literal is spelled by its digits, a variable by the name of its `let`
abbrev pub atom_tokens : List Binding → Atom → List Token
atom_tokens scope (atom.Int int) = spanned int.span (Number int.value) ∷ []
atom_tokens scope (atom.Variable variable) =
    spanned variable.span (Exactly (name_of scope variable.number)) ∷ []
atom_tokens scope (atom.Deref deref) = deref_tokens scope deref

-- `atom + atom + ..`
abbrev pub sum_tokens : List Binding → Sum → List Token
sum_tokens scope sum =
    atom_tokens scope sum.first
    ++ flat_map (λ atom. token (codes "+") ∷ atom_tokens scope atom) sum.rest

-- an atom is an `i32`
abbrev pub IsAtom : List Binding → Bool → Atom → Type 0
IsAtom scope inside (atom.Int int) = ⊤
IsAtom scope inside (atom.Variable variable) =
    IsMeant scope variable.number × (type_of scope variable.number ≡ ty.Int32)
IsAtom scope inside (atom.Deref deref) = IsDeref scope inside deref

-- and so are all of a sum
abbrev pub IsSum : List Binding → Bool → Sum → Type 0
IsSum scope inside sum = AllByRecursion (IsAtom scope inside) (atoms sum)

-- Values.

-- `&`, `& mut`, `& raw const` or `& raw mut`
abbrev pub kind_tokens : ℕ → RefKind → List Token
kind_tokens lo kind.Shared = opening lo (codes "&") ∷ []
kind_tokens lo kind.Mut = opening lo (codes "&") ∷ token (codes "mut") ∷ []
kind_tokens lo kind.RawConst = opening lo (codes "&") ∷ token (codes "raw") ∷ token (codes "const") ∷ []
kind_tokens lo kind.RawMut = opening lo (codes "&") ∷ token (codes "raw") ∷ token (codes "mut") ∷ []

-- a borrow and its operand
abbrev pub borrow_tokens : List Binding → Borrow → List Token
borrow_tokens scope borrow = kind_tokens borrow.span.lo borrow.kind ++ spot_tokens scope borrow.operand

-- a borrow of an `i32`, which is mutable where the pointer may change it; it ends with its operand
abbrev pub IsBorrow : List Binding → Bool → Borrow → Type 0
IsBorrow scope inside borrow =
    (borrow.span.hi ≡ (spot_span borrow.operand).hi) × IsSpot scope inside borrow.operand
    × ((not (needs_mutable borrow.kind) || is_mutable_spot scope borrow.operand) ≡ true)

abbrev pub value_tokens : List Binding → Value → List Token
value_tokens scope (value.Sum sum) = sum_tokens scope sum
value_tokens scope (value.Borrow borrow) = borrow_tokens scope borrow
value_tokens scope (value.Pointer variable) =
    spanned variable.span (Exactly (name_of scope variable.number)) ∷ []

-- a sum, a borrow, or a variable that is a raw pointer
abbrev pub IsValue : List Binding → Bool → Value → Type 0
IsValue scope inside (value.Sum sum) = IsSum scope inside sum
IsValue scope inside (value.Borrow borrow) = IsBorrow scope inside borrow
IsValue scope inside (value.Pointer variable) =
    IsMeant scope variable.number × (is_raw (type_of scope variable.number) ≡ true)

-- the type of a value
abbrev pub value_type : List Binding → Value → Ty
value_type scope (value.Sum sum) = ty.Int32
value_type scope (value.Borrow borrow) = ty.Pointer borrow.kind
value_type scope (value.Pointer variable) = type_of scope variable.number

-- a value, or `unsafe { value }`
abbrev pub right_tokens : List Binding → Right → List Token
right_tokens scope (right.Plain value) = value_tokens scope value
right_tokens scope (right.Unsafe block) =
    opening block.span.lo (codes "unsafe") ∷ token (codes "{")
    ∷ (value_tokens scope block.value ++ closing (codes "}") block.span.hi ∷ [])

-- the value of a right side
abbrev pub right_value : Right → Value
right_value (right.Plain value) = value
right_value (right.Unsafe block) = block.value

-- a right side is a value, which stands inside `unsafe` where that is written
abbrev pub IsRight : List Binding → Bool → Right → Type 0
IsRight scope inside (right.Plain value) = IsValue scope inside value
IsRight scope inside (right.Unsafe block) = IsValue scope true block.value

-- the type of a right side
abbrev pub right_type : List Binding → Right → Ty
right_type scope right = value_type scope (right_value right)

-- Statements.

-- `mut`, or nothing
abbrev pub mut_tokens : Bool → List Token
mut_tokens true = token (codes "mut") ∷ []
mut_tokens false = []

-- `let name = value ;` or `let mut name = value ;`
abbrev pub let_tokens : List Binding → Let → List Token
let_tokens scope binding =
    opening binding.span.lo (codes "let")
    ∷ (mut_tokens binding.mutable
    ++ (spanned binding.name.span (Exactly binding.name.bytes) ∷ token (codes "=")
    ∷ (right_tokens scope binding.value ++ closing (codes ";") binding.span.hi ∷ [])))

-- `target = value ;`
abbrev pub assign_tokens : List Binding → Assign → List Token
assign_tokens scope assign =
    spot_tokens scope assign.target
    ++ (token (codes "=") ∷ (right_tokens scope assign.value ++ closing (codes ";") assign.span.hi ∷ []))

-- the name of a macro that prints
abbrev pub macro_name : Bool → List ℕ
macro_name false = codes "print"
macro_name true = codes "println"

-- `print ! ( text , sum , .. ) ;` or the same with `println`
abbrev pub print_tokens : List Binding → Print → List Token
print_tokens scope print =
    opening print.span.lo (macro_name print.newline) ∷ token (codes "!") ∷ token (codes "(")
    ∷ spanned print.text.span (literal print.text.source)
    ∷ (flat_map (λ sum. token (codes ",") ∷ sum_tokens scope sum) print.arguments
    ++ (closing (codes ")") print.call.hi ∷ closing (codes ";") print.span.hi ∷ []))

-- a statement of an `unsafe` block
abbrev pub inner_tokens : List Binding → Inner → List Token
inner_tokens scope (inner.Assign assign) = assign_tokens scope assign
inner_tokens scope (inner.Print print) = print_tokens scope print

-- `unsafe { statement .. }`
abbrev pub unsafe_tokens : List Binding → UnsafeBlock → List Token
unsafe_tokens scope block =
    opening block.span.lo (codes "unsafe") ∷ token (codes "{")
    ∷ (flat_map (inner_tokens scope) block.statements ++ closing (codes "}") block.span.hi ∷ [])

-- a statement behind these `let`s
abbrev pub statement_tokens : List Binding → Statement → List Token
statement_tokens scope (statement.Let binding) = let_tokens scope binding
statement_tokens scope (statement.Assign assign) = assign_tokens scope assign
statement_tokens scope (statement.Print print) = print_tokens scope print
statement_tokens scope (statement.Unsafe block) = unsafe_tokens scope block

-- an assignment begins with its target, and the value has the target's type
abbrev pub IsAssign : List Binding → Bool → Assign → Type 0
IsAssign scope inside assign =
    (assign.span.lo ≡ (spot_span assign.target).lo) × IsTarget scope inside assign.target
    × IsRight scope inside assign.value × (right_type scope assign.value ≡ spot_type scope assign.target)

-- a print begins with its call, and its text takes as many arguments as there are
abbrev pub IsPrint : List Binding → Bool → Print → Type 0
IsPrint scope inside print =
    (print.call.lo ≡ print.span.lo) × IsFormat print.text.source (length print.arguments)
    × AllByRecursion (IsSum scope inside) print.arguments

abbrev pub IsInner : List Binding → Inner → Type 0
IsInner scope (inner.Assign assign) = IsAssign scope true assign
IsInner scope (inner.Print print) = IsPrint scope true print

-- a `let` has a name that is one, and the type of its value
abbrev pub IsStatement : List Binding → Statement → Type 0
IsStatement scope (statement.Let binding) =
    (is_name binding.name.bytes ≡ true) × IsRight scope false binding.value
    × (binding.ty ≡ right_type scope binding.value)
IsStatement scope (statement.Assign assign) = IsAssign scope false assign
IsStatement scope (statement.Print print) = IsPrint scope false print
IsStatement scope (statement.Unsafe block) = AllByRecursion (IsInner scope) block.statements

-- statements one after the other, each behind the `let`s of those before
abbrev pub statements_tokens : List Binding → List Statement → List Token
statements_tokens scope [] = []
statements_tokens scope (statement ∷ statements) =
    statement_tokens scope statement ++ statements_tokens (scope ++ bindings statement) statements

-- each of these statements is one, behind the `let`s of those before
abbrev pub AreStatements : List Binding → List Statement → Type 0
AreStatements scope [] = ⊤
AreStatements scope (statement ∷ statements) =
    IsStatement scope statement × AreStatements (scope ++ bindings statement) statements

-- The limits.

-- the sums of a right side
abbrev pub value_sums : Value → List Sum
value_sums (value.Sum sum) = sum ∷ []
value_sums (value.Borrow borrow) = []
value_sums (value.Pointer variable) = []

abbrev pub right_sums : Right → List Sum
right_sums right = value_sums (right_value right)

abbrev pub inner_sums : Inner → List Sum
inner_sums (inner.Assign assign) = right_sums assign.value
inner_sums (inner.Print print) = print.arguments

-- the sums of a statement
abbrev pub sums : Statement → List Sum
sums (statement.Let binding) = right_sums binding.value
sums (statement.Assign assign) = right_sums assign.value
sums (statement.Print print) = print.arguments
sums (statement.Unsafe block) = flat_map inner_sums block.statements

-- a literal is an `i32`
abbrev pub IsAtomWithin : Atom → Type 0
IsAtomWithin (atom.Int int) = int.value ≤ 2147483647
IsAtomWithin (atom.Variable variable) = ⊤
IsAtomWithin (atom.Deref deref) = ⊤

-- a sum has at most 64 atoms
abbrev pub IsSumWithin : Sum → Type 0
IsSumWithin sum = (length (atoms sum) ≤ 64) × AllByRecursion IsAtomWithin (atoms sum)

-- a variable is loaded into a temporary, what it points to into another behind its pointer's, and a
-- literal is used as it is
abbrev pub atom_locals : Atom → ℕ
atom_locals (atom.Int int) = 0
atom_locals (atom.Variable variable) = 1
atom_locals (atom.Deref deref) = 2

-- and each `+` has a temporary for its result
abbrev pub sum_locals : Sum → ℕ
sum_locals sum = atom_locals sum.first + sum_by (λ atom. atom_locals atom + 1) sum.rest

-- the pointer of a place has a temporary
abbrev pub spot_locals : Spot → ℕ
spot_locals (spot.Variable variable) = 0
spot_locals (spot.Deref deref) = 1

-- a new pointer and a copied one have one, too
abbrev pub value_locals : Value → ℕ
value_locals (value.Sum sum) = sum_locals sum
value_locals (value.Borrow borrow) = spot_locals borrow.operand + 1
value_locals (value.Pointer variable) = 1

abbrev pub right_locals : Right → ℕ
right_locals right = value_locals (right_value right)

abbrev pub assign_locals : Assign → ℕ
assign_locals assign = right_locals assign.value + spot_locals assign.target

abbrev pub print_locals : Print → ℕ
print_locals print = sum_by sum_locals print.arguments

abbrev pub inner_locals : Inner → ℕ
inner_locals (inner.Assign assign) = assign_locals assign
inner_locals (inner.Print print) = print_locals print

-- a `let` has a variable beside the temporaries of its value
abbrev pub statement_locals : Statement → ℕ
statement_locals (statement.Let binding) = right_locals binding.value + 1
statement_locals (statement.Assign assign) = assign_locals assign
statement_locals (statement.Print print) = print_locals print
statement_locals (statement.Unsafe block) = sum_by inner_locals block.statements

-- the locals of a function with these statements: its result, and those of the statements
abbrev pub locals : List Statement → ℕ
locals statements = 1 + sum_by statement_locals statements

-- the sums are short, the literals small, and the locals few
pub record IsWithinLimits (tree : SmallTree) : Type 0 where
  pub small_sums : AllByRecursion (λ statement. AllByRecursion IsSumWithin (sums statement)) tree.body.statements
  pub few_locals : locals tree.body.statements ≤ 4096

-- Sources.

-- `fn main ( ) {`, the statements, `}`
abbrev pub file_tokens : SmallTree → List Token
file_tokens tree =
    opening tree.function.lo (codes "fn") ∷ token (codes "main") ∷ token (codes "(")
    ∷ token (codes ")") ∷ opening tree.body.span.lo (codes "{")
    ∷ (statements_tokens [] tree.body.statements ++ closing (codes "}") tree.body.span.hi ∷ [])

-- the text has this tree: it is the tree's tokens, and nothing but white space follows; the names
-- and the limits are kept
pub record IsSmall (text : List ℕ) (tree : SmallTree) : Type 0 where
  pub rest : List ℕ
  pub tokens : Reads (length text) text (file_tokens tree) rest
  pub ends : after_space rest ≡ []
  pub closed : tree.function.hi ≡ tree.body.span.hi
  pub statements : AreStatements [] tree.body.statements
  pub limits : IsWithinLimits tree
