-- The variable that a name means, from the last one on, and the end of a block.
use Rattle.std.proofs.Common.{◌≡◌, ℕ, suc, ◌-◌, ◌<◌, ◌≤◌, Bool, true, false, if◌then◌else◌, List, [], ◌∷◌, ◌++◌, length, take, get_or, slice_get, Option, Some, None, refl, ap, sym, ◌∙◌, arith}
use Rattle.std.proofs.Math.Seq.{take-suc}
use Rattle.std.specs.Str.{bytes_eq}
use Rattle.tb_mentions.specs.declared.variables.Variable.{Variable}
use Rattle.tb_mentions.specs.Variables.{Known, VariablesOf, told_variable, told_known, last_named, or_number, cut, closed}

or_number_if : (b : Bool) (number : ℕ) (old other : Option ℕ) → or_number (if b then Some number else old) other ≡ (if b then Some number else or_number old other)
or_number_if true number old other = refl
or_number_if false number old other = refl

-- one more at the end: a name means it, or what it meant
last_more : (variables : List Known) (variable : Known) (name : List ℕ) → last_named (variables ++ variable ∷ []) name ≡ (if bytes_eq variable.name name then Some variable.number else last_named variables name)
last_more [] variable name = refl
last_more (first ∷ variables) variable name =
    ap (λ found. or_number found (if bytes_eq first.name name then Some first.number else None)) (last_more variables variable name)
    ∙ or_number_if (bytes_eq variable.name name) variable.number (last_named variables name) (if bytes_eq first.name name then Some first.number else None)

told_more : (variables : List Variable) (variable : Variable) → told_known (variables ++ variable ∷ []) ≡ told_known variables ++ told_variable variable ∷ []
told_more [] variable = refl
told_more (first ∷ variables) variable = ap (λ more. told_variable first ∷ more) (told_more variables variable)

pub by_last : (known : List Variable) (at before : ℕ) (variable : Variable) (name : List ℕ) → before ≡ at - 1 → 0 < at → at ≤ length known → variable ≡ get_or known before variable
    → last_named (told_known (take at known)) name ≡ (if bytes_eq (told_variable variable).name name then Some variable.number else last_named (told_known (take before known)) name)
by_last known at before variable name e some within is =
    let next : at ≡ suc before = omega arith in
    let inside : before < length known = omega arith in
    ap (λ n. last_named (told_known (take n known)) name) next
    ∙ ap (λ variables. last_named (told_known variables) name) (take-suc known before variable inside ∙ ap (λ v. take before known ++ v ∷ []) (sym is))
    ∙ ap (λ variables. last_named variables name) (told_more (take before known) variable)
    ∙ last_more (told_known (take before known)) (told_variable variable) name

pub if_true : {A : Type 0} (b : Bool) (x y : A) → b ≡ true → (if b then x else y) ≡ x
if_true true x y e = refl
if_true false x y e = cc

pub if_false : {A : Type 0} (b : Bool) (x y : A) → b ≡ false → (if b then x else y) ≡ y
if_false true x y e = cc
if_false false x y e = refl

-- the block that began last ends
pub closed_is : (variables : VariablesOf) (known : List Known) (marks : List ℕ) (mark : ℕ) → slice_get variables.marks (length variables.marks - 1) ≡ Some mark → known ≡ take mark variables.known → marks ≡ take (length variables.marks - 1) variables.marks
    → record { known = known; marks = marks; count = variables.count } ≡ closed variables
closed_is variables known marks mark at k m =
    (λ i. record { known = k i; marks = m i; count = variables.count }) ∙ ap (λ found. cut found variables) (sym at)
