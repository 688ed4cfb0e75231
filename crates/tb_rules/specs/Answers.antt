-- What a rule gives: a value, or the fault that comes first.
use Rattle.std.specs.Prelude.{◌≡◌, Result, Ok, Err, ⊤}
use Rattle.tb_perm.specs.declared.span.Span.{Span}
use Rattle.tb_perm.specs.declared.code.Code.{Code}
use Rattle.tb_rules.specs.declared.error.TypeError.{TypeError}
use Rattle.tb_rules.specs.declared.error.TypeError.TheVariants.{Refused, Memory}

-- a code, and the place that it is named at
abbrev pub Fault : Type 0
Fault = Code × Span

-- The answer is the one of the definition, or it is out of memory.
abbrev pub Gives : {A B : Type 0} → Result A TypeError → (A → B) → Result B Fault → Type 0
Gives (Ok x) told right = right ≡ Ok (told x)
Gives (Err (Refused code span)) told right = right ≡ Err (code, span)
Gives (Err Memory) told right = ⊤

-- the next rule goes on with what the first gives
infixl 10 ◌>>=◌
abbrev pub ◌>>=◌ : {A B : Type 0} → Result A Fault → (A → Result B Fault) → Result B Fault
Ok x >>= next = next x
Err fault >>= next = Err fault
