-- What a name means: the last `let` of it.
use Rattle.std.proofs.Common.{◌≡◌, ◌≢◌, ℕ, zero, suc, ◌-◌, ◌<◌, ◌≤◌, Bool, true, false, cond, List, [], ◌∷◌, ◌++◌, length, take, get_or, Option, Some, None, refl, ap, subst, ◌∙◌, arith, inl, inr, length-take}
use Rattle.std.specs.Str.{bytes_eq}
use Rattle.std.proofs.Math.Seq.{take-suc}
use Rattle.tb_small.specs.Scope.{Binding}
use Rattle.std.specs.List.{AllByRecursion}
use Rattle.std.proofs.lemmas.Bool.{cases_Bool}
use Rattle.std.proofs.lemmas.Slice.Eq.{bytes_eq-Decides}
use Rattle.tb_small.specs.Words.{is_name}
use Rattle.tb_small.specs.Grammar.{name_of, IsMeant}
use Rattle.tb_small.specs.Reading.{later_or, last_named}

-- a new `let` hides those of its name
pub last_named-push : (scope : List Binding) (binding : Binding) (name : List ℕ) → last_named (scope ++ binding ∷ []) name ≡ cond (bytes_eq binding.name name) (Some (length scope)) (last_named scope name)
last_named-push [] binding name = refl
last_named-push (first ∷ scope) binding name =
    ap (λ found. later_or found (bytes_eq first.name name)) (last_named-push scope binding name)
    ∙ elim (bytes_eq binding.name name) as (λ same. later_or (cond same (Some (length scope)) (last_named scope name)) (bytes_eq first.name name) ≡ cond same (Some (length (first ∷ scope))) (last_named (first ∷ scope) name)) [
      | true ↦ ap (λ n. Some n) (omega arith)
      | false ↦ refl
    ]

-- a search from the back has come to this `let`
pub named-step : (scope : List Binding) (name : List ℕ) (n : ℕ) (d : Binding) → 0 < n → n ≤ length scope
    → last_named (take n scope) name ≡ cond (bytes_eq (get_or scope (n - 1) d).name name) (Some (n - 1)) (last_named (take (n - 1) scope) name)
named-step scope name n d some there =
    let up : n ≡ suc (n - 1) = omega arith in
    let front : take n scope ≡ take (n - 1) scope ++ get_or scope (n - 1) d ∷ [] =
    ap (λ k. take k scope) up ∙ take-suc scope (n - 1) d (omega arith) in
    let count : length (take (n - 1) scope) ≡ n - 1 = omega (arith, length-take (n - 1) scope) in
    ap (λ scope. last_named scope name) front ∙ last_named-push (take (n - 1) scope) (get_or scope (n - 1) d) name
    ∙ ap (λ k. cond (bytes_eq (get_or scope (n - 1) d).name name) (Some k) (last_named (take (n - 1) scope) name)) count

bytes-same : (a b : List ℕ) → bytes_eq a b ≡ true → a ≡ b
bytes-same a b e = (bytes_eq-Decides a b).0 e

bytes-true : (a b : List ℕ) → a ≡ b → bytes_eq a b ≡ true
bytes-true a b e = (bytes_eq-Decides a b).1 e

pub bytes-differ : (a b : List ℕ) → a ≢ b → bytes_eq a b ≡ false
bytes-differ a b differ = elim (cases_Bool (bytes_eq a b)) [
  | inl same ↦ absurd (differ (bytes-same a b same))
  | inr other ↦ other
]

-- this `let` is the last of the name
pub record IsLast (scope : List Binding) (name : List ℕ) (number : ℕ) : Type 0 where
  pub is_there : number < length scope
  pub is_named : name_of scope number ≡ name
  pub is_last : (later : ℕ) → number < later → later < length scope → name_of scope later ≢ name

-- no `let` has the name
abbrev IsFree : List Binding → List ℕ → Type 0
IsFree scope name = (k : ℕ) → k < length scope → name_of scope k ≢ name

free-cons : (binding : Binding) (scope : List Binding) (name : List ℕ) → binding.name ≢ name → IsFree scope name → IsFree (binding ∷ scope) name
free-cons binding scope name here free zero below = here
free-cons binding scope name here free (suc k) below = free k (omega arith)

last-here : (binding : Binding) (scope : List Binding) (name : List ℕ) → binding.name ≡ name → IsFree scope name → IsLast (binding ∷ scope) name 0
last-here binding scope name here free = record { is_there = omega arith; is_named = here; is_last = later-free }
  where
    later-free : (later : ℕ) → 0 < later → later < length (binding ∷ scope) → name_of (binding ∷ scope) later ≢ name
    later-free zero above below = absurd (omega arith)
    later-free (suc k) above below = free k (omega arith)

last-cons : (binding : Binding) (scope : List Binding) (name : List ℕ) (number : ℕ) → IsLast scope name number → IsLast (binding ∷ scope) name (suc number)
last-cons binding scope name number h = record { is_there = (let t = h.is_there in omega arith); is_named = h.is_named; is_last = later-last }
  where
    later-last : (later : ℕ) → suc number < later → later < length (binding ∷ scope) → name_of (binding ∷ scope) later ≢ name
    later-last zero above below = absurd (omega arith)
    later-last (suc k) above below = h.is_last k (omega arith) (omega arith)

-- what a search finds is the last, and where it finds nothing there is none
abbrev Found : List Binding → List ℕ → Option ℕ → Type 0
Found scope name None = IsFree scope name
Found scope name (Some number) = IsLast scope name number

found-cons : (binding : Binding) (scope : List Binding) (name : List ℕ) (found : Option ℕ) (here : Bool) → bytes_eq binding.name name ≡ here → Found scope name found → Found (binding ∷ scope) name (later_or found here)
found-cons binding scope name (Some number) here e h = subst (λ n. IsLast (binding ∷ scope) name n) (omega arith) (last-cons binding scope name number h)
found-cons binding scope name None true e h = last-here binding scope name (bytes-same binding.name name e) h
found-cons binding scope name None false e h = free-cons binding scope name (λ same. let t = bytes-true binding.name name same in absurd cc) h

found : (scope : List Binding) (name : List ℕ) → Found scope name (last_named scope name)
found [] name = λ k below. absurd (omega arith)
found (binding ∷ scope) name = found-cons binding scope name (last_named scope name) (bytes_eq binding.name name) refl (found scope name)

pub last-takes : (scope : List Binding) (name : List ℕ) (number : ℕ) → last_named scope name ≡ Some number → IsLast scope name number
last-takes scope name number e = subst (λ o. Found scope name o) e (found scope name)

free-again : (scope : List Binding) (name : List ℕ) → IsFree scope name → last_named scope name ≡ None
free-again [] name free = refl
free-again (binding ∷ scope) name free =
    let tail : last_named scope name ≡ None = free-again scope name (λ k below. free (suc k) (omega arith)) in
    let here : bytes_eq binding.name name ≡ false = bytes-differ binding.name name (free 0 (omega arith)) in
    ap (λ o. later_or o (bytes_eq binding.name name)) tail ∙ ap (λ h. later_or None h) here

pub last-again : (scope : List Binding) (name : List ℕ) (number : ℕ) → IsLast scope name number → last_named scope name ≡ Some number
last-again [] name number h = let t = h.is_there in absurd (omega arith)
last-again (binding ∷ scope) name zero h =
    let tail : last_named scope name ≡ None = free-again scope name (λ k below. h.is_last (suc k) (omega arith) (omega arith)) in
    let here : bytes_eq binding.name name ≡ true = bytes-true binding.name name h.is_named in
    ap (λ o. later_or o (bytes_eq binding.name name)) tail ∙ ap (λ h. later_or None h) here
last-again (binding ∷ scope) name (suc number) h =
    let t = h.is_there in
    let tail : last_named scope name ≡ Some number = last-again scope name number (record { is_there = omega arith; is_named = h.is_named; is_last = λ later above below. h.is_last (suc later) (omega arith) (omega arith) }) in
    ap (λ o. later_or o (bytes_eq binding.name name)) tail ∙ ap (λ n. Some n) (omega arith)

-- what a variable means is the last of its own name
pub meant-last : (scope : List Binding) (number : ℕ) → IsMeant scope number → IsLast scope (name_of scope number) number
meant-last scope number h = record { is_there = h.is_there; is_named = refl; is_last = h.is_last }

pub last-meant : (scope : List Binding) (name : List ℕ) (number : ℕ) → IsLast scope name number → IsMeant scope number
last-meant scope name number h = record { is_there = h.is_there; is_last = λ later above below same. h.is_last later above below (same ∙ h.is_named) }

-- the names of a scope are names
abbrev pub AreNamed : List Binding → Type 0
AreNamed scope = AllByRecursion (λ binding. is_name binding.name ≡ true) scope

pub named-at : (scope : List Binding) (number : ℕ) → number < length scope → AreNamed scope → is_name (name_of scope number) ≡ true
named-at [] number below named = absurd (omega arith)
named-at (binding ∷ scope) zero below named = named.0
named-at (binding ∷ scope) (suc number) below named = named-at scope number (omega arith) named.1

pub named-append : (scope more : List Binding) → AreNamed scope → AreNamed more → AreNamed (scope ++ more)
named-append [] more named others = others
named-append (binding ∷ scope) more named others = (named.0, named-append scope more named.1 others)
