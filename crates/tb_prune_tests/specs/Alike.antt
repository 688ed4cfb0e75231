-- The answers of two trees to one event.
use Rattle.std.specs.Prelude.{◌≡◌, ⊤, Result, Ok, Err}
use Rattle.tb_perm.specs.declared.report.TreeError.{TreeError}
use Rattle.tb_perm.specs.declared.report.TreeError.TheVariants.{Borrow, Memory}

-- both succeed, and then the fact holds; or both are refused with one report; or one had no memory
abbrev pub AreAlike : {T : Type 0} → Result T TreeError → Result T TreeError → Type 0 → Type 0
AreAlike (Ok mine) (Ok theirs) fact = fact
AreAlike (Err (Borrow mine)) (Err (Borrow theirs)) fact = mine ≡ theirs
AreAlike (Err Memory) theirs fact = ⊤
AreAlike (Ok mine) (Err Memory) fact = ⊤
AreAlike (Err (Borrow mine)) (Err Memory) fact = ⊤
AreAlike (Ok mine) (Err (Borrow theirs)) fact = ⊥
AreAlike (Err (Borrow mine)) (Ok theirs) fact = ⊥
