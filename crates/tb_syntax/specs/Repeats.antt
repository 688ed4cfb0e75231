-- Reading one after another.
use Rattle.std.specs.Prelude.{ℕ, zero, suc, Bool, if◌then◌else◌, List, [], ◌∷◌, ◌++◌, length, Option, None, Some}
use Rattle.tb_syntax.specs.Reading.{◌>>=◌}
use Rattle.tb_syntax.specs.State.{State}

-- these values, and then those
abbrev pub after_values : {A : Type 0} → List A → Option (List A × State) → Option (List A × State)
after_values values None = None
after_values values (Some x) = Some (values ++ x.0, x.1)

-- as many as begin one behind another
unfoldable pub many_at : {A : Type 0} → (State → Bool) → (State → Option (A × State)) → ℕ → State → Option (List A × State)
many_at begins one zero state = if begins state then None else Some ([], state)
many_at begins one (suc fuel) state =
    if begins state then (one state >>= λ x. after_values (x.0 ∷ []) (many_at begins one fuel x.1))
    else Some ([], state)

unfoldable pub repeated_at : {A : Type 0} → (State → Bool) → (State → Option (A × State)) → State → Option (List A × State)
repeated_at begins one state = many_at begins one (length state) state
