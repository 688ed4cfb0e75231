-- Reading values with a mark between them.
use Rattle.std.specs.Prelude.{◌≡◌, ℕ, zero, suc, ◌+◌, ◌⊎◌, Bool, if◌then◌else◌, List, [], ◌∷◌, ◌++◌, length, Option, None, Some}
use Rattle.tb_perm.specs.declared.span.Span.{Span}
use Rattle.tb_lex.specs.declared.punctuation.Punctuation.{Punctuation}
use Rattle.tb_lex.specs.declared.punctuation.Punctuation.TheVariants.{Comma}
use Rattle.tb_syntax.specs.Reading.{◌>>=◌}
use Rattle.tb_syntax.specs.State.{State}
use Rattle.tb_syntax.specs.Marks.{punct_at, has_mark}

-- values, and the marks behind them
abbrev pub Listed : Type 0 → Type 0
Listed A = List A × List Span

-- these values and marks, and then those
abbrev pub joined_lists : {A : Type 0} → List A → List Span → Option (Listed A × State) → Option (Listed A × State)
joined_lists values marks None = None
joined_lists values marks (Some x) = Some ((values ++ x.0.0, marks ++ x.0.1), x.1)

-- values up to where they end, or up to one behind which no mark goes on
unfoldable pub list_at : {A : Type 0} → (State → Bool) → (State → Option (A × State)) → (State → Bool) → Punctuation → ℕ → State → Option (Listed A × State)
list_at ends one goes mark zero state = None
list_at ends one goes mark (suc fuel) state =
    if ends state then Some (([], []), state)
    else (one state >>= λ x.
    if goes x.1 then (punct_at mark x.1 >>= λ m. joined_lists (x.0 ∷ []) (m.0 ∷ []) (list_at ends one goes mark fuel m.1))
    else Some ((x.0 ∷ [], []), x.1))

-- values with commas between them, and maybe one behind the last, up to a mark that closes
unfoldable pub listed_at : {A : Type 0} → (State → Option (A × State)) → Punctuation → State → Option (Listed A × State)
listed_at one close state = list_at (has_mark close) one (has_mark Comma) Comma (length state) state

-- behind each value but maybe the last stands a mark
abbrev pub IsListed : {A : Type 0} → List A → List Span → Type 0
IsListed values marks = (length marks ≡ length values) ⊎ (length marks + 1 ≡ length values)
