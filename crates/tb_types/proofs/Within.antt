-- Lists, and what lies in a type.
use Rattle.std.proofs.Common.{◌≡◌, refl, sym, ◌∙◌, ap, subst, ℕ, suc, zero, ◌<◌, Bool, true, ◌&&◌, List, [], ◌∷◌, ◌++◌, length, map, Option, Some, None, slice_get, slice_set, arith}
use Rattle.std.specs.List.{AllByRecursion, list_all}
use Rattle.std.specs.Cmp.{first_so, second_so}
use Rattle.tb_types.specs.declared.shape.Ty.{Ty}
use Rattle.tb_types.specs.declared.shape.TyShape.{TyShape}
use Rattle.tb_types.specs.declared.shape.TyShape.TheVariants.{Tuple, Array, Struct, Boxed, Cell, UnsafeCell, Slice}
use Rattle.tb_types.specs.declared.item.Field.{Field}
use Rattle.tb_types.specs.Table.{TypeTable, IsType, shape_at, fields_of, fields_at, named_in}
use Rattle.tb_types.specs.Folded.{node_in, node_by, node_of, item_in, types_in, types_of}
use Rattle.tb_types.specs.Sound.{AreTypes}

pub get_left : {X : Type 0} (xs ys : List X) (i : ℕ) → i < length xs → slice_get (xs ++ ys) i ≡ slice_get xs i
get_left [] ys i h = absurd (omega arith)
get_left (x ∷ xs) ys zero h = refl
get_left (x ∷ xs) ys (suc i) h = get_left xs ys i (omega arith)

pub get_seam : {X : Type 0} (xs : List X) (y : X) (i : ℕ) → i ≡ length xs → slice_get (xs ++ y ∷ []) i ≡ Some y
get_seam [] y zero h = refl
get_seam [] y (suc i) h = absurd (omega arith)
get_seam (x ∷ xs) y zero h = absurd (omega arith)
get_seam (x ∷ xs) y (suc i) h = get_seam xs y i (omega arith)

pub get_same : {X : Type 0} (xs : List X) (i : ℕ) (y : X) → i < length xs → slice_get (slice_set xs i y) i ≡ Some y
get_same [] i y h = absurd (omega arith)
get_same (x ∷ xs) zero y h = refl
get_same (x ∷ xs) (suc i) y h = get_same xs i y (omega arith)

pub get_other : {X : Type 0} (xs : List X) (i j : ℕ) (y : X) → (j ≡ i → ⊥) → slice_get (slice_set xs i y) j ≡ slice_get xs j
get_other [] i j y h = refl
get_other (x ∷ xs) zero zero y h = absurd (h refl)
get_other (x ∷ xs) zero (suc j) y h = refl
get_other (x ∷ xs) (suc i) zero y h = refl
get_other (x ∷ xs) (suc i) (suc j) y h = get_other xs i j y (λ e. h (ap suc e))

pub get_found : {X : Type 0} (xs : List X) (i : ℕ) → i < length xs → (x : X) × (slice_get xs i ≡ Some x)
get_found [] i h = absurd (omega arith)
get_found (x ∷ xs) zero h = (x, refl)
get_found (x ∷ xs) (suc i) h = get_found xs i (omega arith)

pub all_to : {X : Type 0} {P Q : X → Type 0} (xs : List X) → AllByRecursion P xs → ((x : X) → P x → Q x) → AllByRecursion Q xs
all_to [] h f = tt
all_to (x ∷ xs) h f = (f x h.0, all_to xs h.1 f)

pub all_both : {X : Type 0} (P Q : X → Type 0) (xs : List X) → AllByRecursion P xs → AllByRecursion Q xs → AllByRecursion (λ x. P x × Q x) xs
all_both P Q [] h k = tt
all_both P Q (x ∷ xs) h k = ((h.0, k.0), all_both P Q xs h.1 k.1)

-- a test that holds of each, as one test and one by one
pub all_true : {X : Type 0} (f : X → Bool) (xs : List X) → AllByRecursion (λ x. f x ≡ true) xs → list_all (λ b. b) (map f xs) ≡ true
all_true f [] h = refl
all_true f (x ∷ xs) h = ap (λ b. b && list_all (λ c. c) (map f xs)) h.0 ∙ all_true f xs h.1

pub true_all : {X : Type 0} (f : X → Bool) (xs : List X) → list_all (λ b. b) (map f xs) ≡ true → AllByRecursion (λ x. f x ≡ true) xs
true_all f [] h = tt
true_all f (x ∷ xs) h = (first_so (f x) (list_all (λ b. b) (map f xs)) h, true_all f xs (second_so (f x) (list_all (λ b. b) (map f xs)) h))

-- the types of fields
pub fields_all : (P : Ty → Type 0) (fields : List Field) → AllByRecursion (λ (field : Field). P field.ty) fields → AllByRecursion P (types_in fields)
fields_all P [] h = tt
fields_all P (field ∷ fields) h = (h.0, fields_all P fields h.1)

-- what holds of the types that a shape names and of those of the fields of its struct holds of its parts
pub parts_all : (P : Ty → Type 0) (types : TypeTable) (shape : TyShape) → AllByRecursion P (named_in shape) → AllByRecursion P (types_of (fields_of (item_in types.items shape))) → AllByRecursion P (node_in types shape).parts
parts_all P types (Tuple parts) named fields = named
parts_all P types (Array part n) named fields = named
parts_all P types (Struct item) named fields = fields
parts_all P types (Boxed part) named fields = named
parts_all P types (Cell part) named fields = named
parts_all P types (UnsafeCell part) named fields = named
parts_all P types (Slice part) named fields = named
parts_all P types shape named fields = tt

types_all : (P : Ty → Type 0) (found : Option (List Field)) → ((fields : List Field) → found ≡ Some fields → AllByRecursion (λ (field : Field). P field.ty) fields) → AllByRecursion P (types_of found)
types_all P None each = tt
types_all P (Some fields) each = fields_all P fields (each fields refl)

-- what holds of the types of all fields holds of those of the struct that a shape names
pub items_all : (P : Ty → Type 0) (types : TypeTable) (shape : TyShape) → ((item : ℕ) (fields : List Field) → fields_at types item ≡ Some fields → AllByRecursion (λ (field : Field). P field.ty) fields) → AllByRecursion P (types_of (fields_of (item_in types.items shape)))
items_all P types (Struct item) each = types_all P (fields_at types item) (each item)
items_all P types shape each = tt

-- what lies in a type are types
pub parts_types : (types : TypeTable) → AreTypes types → (ty : Ty) → IsType types ty → AllByRecursion (IsType types) (node_of types ty).parts
parts_types types sound ty h =
    let found : (shape : TyShape) × (shape_at types ty ≡ Some shape) = get_found types.shapes ty.0 h in
    let named : AllByRecursion (IsType types) (named_in found.0) =
    all_to (named_in found.0) (sound.names ty found.0 found.1) (λ part lower. omega arith) in
    let fields : AllByRecursion (IsType types) (types_of (fields_of (item_in types.items found.0))) =
    items_all (IsType types) types found.0 (λ item fields e. all_to fields (sound.fields item fields e) (λ field is. is.is_type)) in
    subst (λ (found_shape : Option TyShape). AllByRecursion (IsType types) (node_by types found_shape).parts) (sym found.1) (parts_all (IsType types) types found.0 named fields)

-- a type has the node of its shape
pub node_found : (types : TypeTable) (ty : Ty) (shape : TyShape) → shape_at types ty ≡ Some shape → node_of types ty ≡ node_in types shape
node_found types ty shape e = ap (node_by types) e

-- what holds of a list and of one more holds of both
pub all_snoc : {X : Type 0} (P : X → Type 0) (xs : List X) (x : X) → AllByRecursion P xs → P x → AllByRecursion P (xs ++ x ∷ [])
all_snoc P [] x h k = (k, tt)
all_snoc P (y ∷ xs) x h k = (h.0, all_snoc P xs x h.1 k)
