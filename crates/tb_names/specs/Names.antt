-- Names as bytes.
use Rattle.std.specs.Prelude.{ℕ, Bool, List, [], ◌∷◌, map, Option, Some, None}
use Rattle.std.specs.Borrow.{Bor}
use Rattle.std.specs.List.{list_any}
use Rattle.std.specs.Str.{bytes_eq}
use Rattle.tb_ast.specs.declared.leaf.Ident.{Ident}

abbrev pub name_of : Ident → List ℕ
name_of ident = ident.name.bytes

abbrev pub names_of : List Ident → List (List ℕ)
names_of idents = map name_of idents

-- the identifiers that are lent
abbrev pub told : List (Bor Ident) → List Ident
told idents = map (λ (ident : Bor Ident). ident.now) idents

-- the names that are lent
abbrev pub lent : List (Bor (List ℕ)) → List (List ℕ)
lent names = map (λ (name : Bor (List ℕ)). name.now) names

-- the name is one of these
abbrev pub is_among : List (List ℕ) → List ℕ → Bool
is_among names name = list_any (bytes_eq name) names

-- the first of a list, if there is one
abbrev pub first_of : {A : Type 0} → List A → Option A
first_of [] = None
first_of (x ∷ xs) = Some x
