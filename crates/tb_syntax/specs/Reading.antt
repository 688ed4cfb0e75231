-- Reading from left to right: what a function answers, apart from want of memory.
use Rattle.std.specs.Prelude.{◌≡◌, Option, None, Some, Result, Ok, Err}
use Rattle.tb_syntax.specs.declared.error.ReadError.{ReadError}
use Rattle.tb_syntax.specs.declared.error.ReadError.TheVariants as errors

infixl 10 ◌>>=◌
abbrev pub ◌>>=◌ : {A B : Type 0} → Option A → (A → Option B) → Option B
None >>= next = None
(Some value) >>= next = next value

-- what a function answers with this error
abbrev pub Fails : {Y : Type 0} → ReadError → Option Y → Type 0
Fails errors.Unexpected read = read ≡ None
Fails errors.Memory read = Unit {0}

-- what a function answers, seen by `view`, is what reading gives, unless memory ran out
abbrev pub Gives : {X Y : Type 0} → (X → Y) → Result X ReadError → Option Y → Type 0
Gives view (Ok value) read = read ≡ Some (view value)
Gives view (Err error) read = Fails error read
