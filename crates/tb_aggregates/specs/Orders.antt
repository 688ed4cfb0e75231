-- The places of declared parts in the text.
use Rattle.std.specs.Prelude.{ℕ, zero, suc, ◌+◌, Bool, false, if◌then◌else◌, nat_eq, List, [], ◌∷◌, ◌++◌, length, Option, Some, None}

-- the numbers below this one
abbrev pub up_to : ℕ → List ℕ
up_to zero = []
up_to (suc n) = up_to n ++ n ∷ []

abbrev pub is_number : Option ℕ → ℕ → Bool
is_number None number = false
is_number (Some found) number = nat_eq found number

-- the first place, counted from here, of the part that is the declared one of this number
abbrev pub place_from : ℕ → List (Option ℕ) → ℕ → Option ℕ
place_from place [] number = None
place_from place (found ∷ numbers) number = if is_number found number then Some place else place_from (place + 1) numbers number

abbrev pub place_of : List (Option ℕ) → ℕ → Option ℕ
place_of numbers number = place_from 0 numbers number

abbrev pub orders_by : (List ℕ → Option (List ℕ)) → List ℕ → Option ℕ → Option (List ℕ)
orders_by more order None = None
orders_by more order (Some place) = more (order ++ place ∷ [])

-- the places of so many declared parts more, each in the text
abbrev pub orders : List (Option ℕ) → List ℕ → ℕ → Option (List ℕ)
orders numbers order zero = Some order
orders numbers order (suc left) = orders_by (λ longer. orders numbers longer left) order (place_of numbers (length order))

-- the text has as many parts as are declared, and each of these
abbrev pub order_of : List (Option ℕ) → ℕ → Option (List ℕ)
order_of numbers count = if nat_eq (length numbers) count then orders numbers [] count else None
