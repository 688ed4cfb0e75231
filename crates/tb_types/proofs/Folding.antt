-- Laws of going over a type.
use Rattle.std.proofs.Common.{◌≡◌, refl, sym, ◌∙◌, ap, ℕ, suc, zero, ◌+◌, Bool, true, List, [], ◌∷◌, length, map, nat_eq, arith, subst}
use Rattle.std.specs.List.{AllByRecursion, list_all}
use Rattle.std.specs.Cmp.{first_so, second_so, unsigned_Decides}
use Rattle.tb_types.specs.declared.shape.Ty.{Ty}
use Rattle.tb_types.specs.Table.{TypeTable}
use Rattle.tb_types.specs.Folded.{Node, node_of, folded_at, folded, depth_of, fits_by}

-- what a test finds to be equal on each element is equal on the list
pub map_same : {X Y : Type 0} (test : X → Bool) (f g : X → Y) (xs : List X) → list_all (λ b. b) (map test xs) ≡ true → ((x : X) → test x ≡ true → f x ≡ g x) → map f xs ≡ map g xs
map_same test f g [] h e = refl
map_same test f g (x ∷ xs) h e =
    ap (λ y. y ∷ map f xs) (e x (first_so (test x) (list_all (λ b. b) (map test xs)) h))
    ∙ ap (λ ys. g x ∷ ys) (map_same test f g xs (second_so (test x) (list_all (λ b. b) (map test xs)) h) e)

pub map_all : {X Y : Type 0} (P : X → Type 0) (f g : X → Y) (xs : List X) → AllByRecursion P xs → ((x : X) → P x → f x ≡ g x) → map f xs ≡ map g xs
map_all P f g [] h e = refl
map_all P f g (x ∷ xs) h e = ap (λ y. y ∷ map f xs) (e x h.0) ∙ ap (λ ys. g x ∷ ys) (map_all P f g xs h.1 e)

pub nothing : {X : Type 0} (xs : List X) (bs : List Bool) → nat_eq (length xs) 0 ≡ true → xs ≡ []
nothing [] bs h = refl
nothing (x ∷ xs) bs h = let e : length (x ∷ xs) ≡ 0 = (unsigned_Decides (length (x ∷ xs)) 0).0 h in absurd (omega arith)

module _ {A : Type 0} (step : Node → List A → A) (types : TypeTable) where
  -- going down further than a type goes changes nothing
  pub deeper : (depth : ℕ) (ty : Ty) → folded_at fits_by types depth ty ≡ true → folded_at step types (suc depth) ty ≡ folded_at step types depth ty
  unfolding folded_at
  deeper zero ty h =
      let none : (node_of types ty).parts ≡ [] = nothing (node_of types ty).parts [] (first_so (nat_eq (length (node_of types ty).parts) 0) true h)
      in ap (λ parts. step (node_of types ty) (map (folded_at step types zero) parts)) none
  deeper (suc depth) ty h =
      ap (step (node_of types ty)) (map_same (folded_at fits_by types depth) (folded_at step types (suc depth)) (folded_at step types depth) (node_of types ty).parts
      (second_so (nat_eq (length (node_of types ty).parts) (length (map (folded_at fits_by types depth) (node_of types ty).parts))) (list_all (λ b. b) (map (folded_at fits_by types depth) (node_of types ty).parts)) h)
      (deeper depth))

unfoldable pub plus : ℕ → ℕ → ℕ
plus zero depth = depth
plus (suc more) depth = suc (plus more depth)

pub plus-is : (more depth : ℕ) → plus more depth ≡ more + depth
unfolding plus
plus-is zero depth = omega arith
plus-is (suc more) depth = let h : plus more depth ≡ more + depth = plus-is more depth in omega arith

fits_plus : (types : TypeTable) (more depth : ℕ) (ty : Ty) → folded_at fits_by types depth ty ≡ true → folded_at fits_by types (plus more depth) ty ≡ true
unfolding plus
fits_plus types zero depth ty h = h
fits_plus types (suc more) depth ty h = deeper fits_by types (plus more depth) ty (fits_plus types more depth ty h) ∙ fits_plus types more depth ty h

-- what fits a depth fits a greater one
pub fits_within : (types : TypeTable) (depth more : ℕ) (ty : Ty) → folded_at fits_by types depth ty ≡ true → folded_at fits_by types (more + depth) ty ≡ true
fits_within types depth more ty h = subst (λ n. folded_at fits_by types n ty ≡ true) (plus-is more depth) (fits_plus types more depth ty h)

module _ {A : Type 0} (step : Node → List A → A) (types : TypeTable) where
  at_plus : (more depth : ℕ) (ty : Ty) → folded_at fits_by types depth ty ≡ true → folded_at step types (plus more depth) ty ≡ folded_at step types depth ty
  unfolding plus
  at_plus zero depth ty h = refl
  at_plus (suc more) depth ty h = deeper step types (plus more depth) ty (fits_plus types more depth ty h) ∙ at_plus more depth ty h

  -- two depths that a type fits give the same
  pub same_depth : (a b : ℕ) (ty : Ty) → folded_at fits_by types a ty ≡ true → folded_at fits_by types b ty ≡ true → folded_at step types a ty ≡ folded_at step types b ty
  same_depth a b ty f g =
      let e : plus b a ≡ plus a b = plus-is b a ∙ (let c : b + a ≡ a + b = omega arith in c) ∙ sym (plus-is a b)
      in sym (at_plus b a ty f) ∙ ap (λ n. folded_at step types n ty) e ∙ at_plus a b ty g

  -- the value of a type is the step at its shape and the values of its parts
  pub folded_is : (ty : Ty) → folded_at fits_by types (depth_of types) ty ≡ true → folded step types ty ≡ step (node_of types ty) (map (folded step types) (node_of types ty).parts)
  unfolding folded folded_at
  folded_is ty h = sym (deeper step types (depth_of types) ty h)

-- two tables in which some types, and all that lies in them, are made of the same
module _ (old new : TypeTable) (P : Ty → Type 0) (same : (ty : Ty) → P ty → node_of new ty ≡ node_of old ty) (down : (ty : Ty) → P ty → AllByRecursion P (node_of old ty).parts) where
  pub same_at : {A : Type 0} (step : Node → List A → A) (depth : ℕ) (ty : Ty) → P ty → folded_at step new depth ty ≡ folded_at step old depth ty
  unfolding folded_at
  same_at step zero ty p = ap (λ (node : Node). step node []) (same ty p)
  same_at step (suc depth) ty p =
      ap (λ (node : Node). step node (map (folded_at step new depth) node.parts)) (same ty p)
      ∙ ap (step (node_of old ty)) (map_all P (folded_at step new depth) (folded_at step old depth) (node_of old ty).parts (down ty p) (same_at step depth))

  pub same_folded : {A : Type 0} (step : Node → List A → A) (ty : Ty) → P ty → folded_at fits_by old (depth_of old) ty ≡ true → folded_at fits_by new (depth_of new) ty ≡ true → folded step new ty ≡ folded step old ty
  unfolding folded
  same_folded step ty p f g =
      same_depth step new (depth_of new) (depth_of old) ty g (same_at fits_by (depth_of old) ty p ∙ f) ∙ same_at step (depth_of old) ty p
