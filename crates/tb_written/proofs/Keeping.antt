-- What a number means in a table that grows.
use Rattle.std.proofs.Common.{◌≡◌, refl, sym, ◌∙◌, ap, subst, ℕ, zero, suc, ◌+◌, ◌<◌, List, [], ◌∷◌, ◌++◌, map, length, Option, Some, None, IfSome, IfOk, OnOk, Result, Ok, Err, slice_get, get_or, drop, drop-cons, arith}
use Rattle.std.specs.List.{AllByRecursion}
use Rattle.std.specs.Option.{option_map}
use Rattle.std.proofs.lemmas.List.{append_assoc}
use Rattle.std.proofs.lemmas.Option.{slice_get_within}
use Rattle.tb_types.specs.declared.shape.Ty.{Ty}
use Rattle.tb_types.specs.declared.shape.TyShape.{TyShape}
use Rattle.tb_types.specs.declared.item.Item.{Item}
use Rattle.tb_lookup.specs.declared.file.Entry.{Entry}
use Rattle.tb_types.specs.Table.{TypeTable, IsType, Extends, shape_at}
use Rattle.tb_types.specs.Trees.{TupleTree, MoreTrees, tree_of, trees_by}
use Rattle.tb_types.specs.Sound.{AreTypes}
use Rattle.tb_types.proofs.CallerLemmas.{same_type}
use Rattle.tb_written.specs.Written.{Tree, all_trees, with_first, tuple, joined}
use Rattle.tb_written.specs.Kept.{Keeps, IsTypeIf, tree_if, trees_if, all_types, with_type, IsFound, IsMore, IsMoreBefore, AreDeclared}

found : {X : Type 0} (xs : List X) (i : ℕ) → i < length xs → (x : X) × (slice_get xs i ≡ Some x)
found [] i h = absurd (omega arith)
found (x ∷ xs) zero h = (x, refl)
found (x ∷ xs) (suc i) h = found xs i (omega arith)

pub keeps : (old new : TypeTable) → AreTypes old → Extends old new → new.items ≡ old.items → Keeps old new
keeps old new sound extends items = record {
  items = items;
  types = λ ty h. (let f : (shape : TyShape) × (shape_at old ty ≡ Some shape) = found old.shapes ty.0 h in slice_get_within new.shapes ty.0 f.0 (extends.shapes ty f.0 f.1));
  trees = λ ty h. same_type old new extends sound ty h;
}

pub keeps_itself : (types : TypeTable) → Keeps types types
keeps_itself types = record { items = refl; types = λ ty h. h; trees = λ ty h. refl }

pub kept_twice : (a b c : TypeTable) → Keeps a b → Keeps b c → Keeps a c
kept_twice a b c one other = record {
  items = other.items ∙ one.items;
  types = λ ty h. other.types ty (one.types ty h);
  trees = λ ty h. other.trees ty (one.types ty h) ∙ one.trees ty h;
}

module _ (old new : TypeTable) (kept : Keeps old new) where
  pub is_kept : (part : Option Ty) → IsTypeIf old part → IsTypeIf new part
  is_kept None h = tt
  is_kept (Some ty) h = kept.types ty h

  pub tree_kept : (part : Option Ty) → IsTypeIf old part → tree_if new part ≡ tree_if old part
  tree_kept None h = refl
  tree_kept (Some ty) h = ap Some (kept.trees ty h)

  pub are_kept : (parts : List (Option Ty)) → AllByRecursion (IsTypeIf old) parts → AllByRecursion (IsTypeIf new) parts
  are_kept [] h = tt
  are_kept (part ∷ parts) h = (is_kept part h.0, are_kept parts h.1)

  pub trees_kept : (parts : List (Option Ty)) → AllByRecursion (IsTypeIf old) parts → trees_if new parts ≡ trees_if old parts
  trees_kept [] h = refl
  trees_kept (part ∷ parts) h = ap (λ t. t ∷ trees_if new parts) (tree_kept part h.0) ∙ ap (λ ts. tree_if old part ∷ ts) (trees_kept parts h.1)

  pub parts_kept : (parts : List Ty) → AllByRecursion (IsType old) parts → trees_by (tree_of new) parts ≡ trees_by (tree_of old) parts
  parts_kept [] h = refl
  parts_kept (part ∷ parts) h = ap (λ t. MoreTrees t (trees_by (tree_of new) parts)) (kept.trees part h.0) ∙ ap (λ ts. MoreTrees (tree_of old part) ts) (parts_kept parts h.1)

-- the parts of a tuple, as types and as trees
module _ (types : TypeTable) where
  with_first_is : (part : Option Ty) (parts : Option (List Ty)) → with_first (tree_if types part) (option_map (trees_by (tree_of types)) parts) ≡ option_map (trees_by (tree_of types)) (with_type part parts)
  with_first_is None parts = refl
  with_first_is (Some part) None = refl
  with_first_is (Some part) (Some parts) = refl

  pub all_trees_are : (parts : List (Option Ty)) → all_trees (trees_if types parts) ≡ option_map (trees_by (tree_of types)) (all_types parts)
  all_trees_are [] = refl
  all_trees_are (part ∷ parts) = ap (with_first (tree_if types part)) (all_trees_are parts) ∙ with_first_is part (all_types parts)

  abbrev AreTypesIf : Option (List Ty) → Type 0
  AreTypesIf parts = IfSome parts (AllByRecursion (IsType types))

  with_type_are : (part : Option Ty) (parts : Option (List Ty)) → IsTypeIf types part → AreTypesIf parts → AreTypesIf (with_type part parts)
  with_type_are None parts h k = tt
  with_type_are (Some part) None h k = tt
  with_type_are (Some part) (Some parts) h k = (h, k)

  all_are : (parts : List (Option Ty)) → AllByRecursion (IsTypeIf types) parts → AreTypesIf (all_types parts)
  all_are [] h = tt
  all_are (part ∷ parts) h = with_type_are part (all_types parts) h.0 (all_are parts h.1)

  pub all_types_are : (parts : List (Option Ty)) (list : List Ty) → all_types parts ≡ Some list → AllByRecursion (IsTypeIf types) parts → AllByRecursion (IsType types) list
  all_types_are parts list e h = subst AreTypesIf e (all_are parts h)

-- what is found behind what was found
all_snoc : {X : Type 0} (P : X → Type 0) (xs : List X) (x : X) → AllByRecursion P xs → P x → AllByRecursion P (xs ++ x ∷ [])
all_snoc P [] x h k = (k, tt)
all_snoc P (y ∷ xs) x h k = (h.0, all_snoc P xs x h.1 k)

trees_snoc : (types : TypeTable) (parts : List (Option Ty)) (part : Option Ty) → trees_if types (parts ++ part ∷ []) ≡ trees_if types parts ++ tree_if types part ∷ []
trees_snoc types [] part = refl
trees_snoc types (first ∷ parts) part = ap (λ ts. tree_if types first ∷ ts) (trees_snoc types parts part)

pub one_more : (old new : TypeTable) (before after : List (Option Ty)) (part : Option Ty) (tree : Tree) → AllByRecursion (IsTypeIf old) before → IsFound old new part tree → after ≡ before ++ part ∷ [] → IsMore old new before after (tree ∷ [])
one_more old new before after part tree are is e = record {
  kept = is.kept;
  are_types = subst (AllByRecursion (IsTypeIf new)) (sym e) (all_snoc (IsTypeIf new) before part (are_kept old new is.kept before are) is.is_type);
  means = ap (trees_if new) e ∙ trees_snoc new before part ∙ ap (λ ts. ts ++ tree_if new part ∷ []) (trees_kept old new is.kept before are) ∙ ap (λ t. trees_if old before ++ t ∷ []) is.means;
}

-- a round of a loop
pub more_before : (first old new : TypeTable) (before after : List (Option Ty)) (trees rest still all : List Tree) → IsMoreBefore first old before still all → still ≡ trees ++ rest → IsMore old new before after trees → IsMoreBefore first new after rest all
more_before first old new before after trees rest still all so e more = record {
  kept = kept_twice first old new so.kept more.kept;
  are_types = more.are_types;
  means = ap (λ ts. ts ++ rest) more.means ∙ append_assoc (trees_if old before) trees rest ∙ ap (λ ts. trees_if old before ++ ts) (sym e) ∙ so.means;
}

module _ {A : Type 0} (values : List A) (at : ℕ) (value : A) (inside : at < length values) (is : value ≡ get_or values at value) where
  pub next : drop at values ≡ value ∷ drop (at + 1) values
  next =
      let one : at + 1 ≡ suc at = omega arith in
      drop-cons values at value inside ∙ ap (λ v. v ∷ drop (suc at) values) (sym is) ∙ ap (λ n. value ∷ drop n values) (sym one)

  pub next_joined : (f : A → List Tree) → joined (map f (drop at values)) ≡ f value ++ joined (map f (drop (at + 1) values))
  next_joined f = ap (λ vs. joined (map f vs)) next

  pub next_mapped : (f : A → Tree) → map f (drop at values) ≡ f value ∷ map f (drop (at + 1) values)
  next_mapped f = ap (map f) next

-- what is found after something else
module _ (old middle new : TypeTable) (kept : Keeps old middle) where
  found_after : (part : Option Ty) (tree all : Tree) → IsFound middle new part tree → tree ≡ all → IsFound old new part all
  found_after part tree all is e = record { kept = kept_twice old middle new kept is.kept; is_type = is.is_type; means = is.means ∙ e }

  pub found_then : {E : Type 0} (result : Result (Option Ty) E) (tree all : Tree) → IfOk result (λ part. IsFound middle new part tree) → tree ≡ all → IfOk result (λ part. IsFound old new part all)
  found_then (Ok part) tree all h e = found_after part tree all h e
  found_then (Err error) tree all h e = h

-- structs stay declared
pub still_declared : (old new : TypeTable) (file : List Entry) → Keeps old new → AreDeclared old file → AreDeclared new file
still_declared old new file kept declared = record {
  layout = subst (λ (items : List Item). 0 < length items) (sym kept.items) declared.layout;
  structs = λ name number e. subst (λ (items : List Item). number < length items) (sym kept.items) (declared.structs name number e);
}

-- the tuple of types
pub tuple_found : (old new : TypeTable) (parts : List (Option Ty)) (list : List Ty) (ty : Ty) → all_types parts ≡ Some list → IsFound old new (Some ty) (Some (TupleTree (trees_by (tree_of old) list))) → IsFound old new (Some ty) (tuple (trees_if old parts))
tuple_found old new parts list ty e is = record {
  kept = is.kept;
  is_type = is.is_type;
  means = is.means ∙ sym (ap (option_map TupleTree) (all_trees_are old parts ∙ ap (option_map (trees_by (tree_of old))) e));
}

pub no_tuple : (types : TypeTable) (parts : List (Option Ty)) → all_types parts ≡ None → IsFound types types None (tuple (trees_if types parts))
no_tuple types parts e = record {
  kept = keeps_itself types;
  is_type = tt;
  means = sym (ap (option_map TupleTree) (all_trees_are types parts ∙ ap (option_map (trees_by (tree_of types))) e));
}

pub tuple_interned : (old new : TypeTable) (list : List Ty) (ty : Ty) → AllByRecursion (IsType old) list → Keeps old new → IsType new ty → tree_of new ty ≡ TupleTree (trees_by (tree_of new) list) → IsFound old new (Some ty) (Some (TupleTree (trees_by (tree_of old) list)))
tuple_interned old new list ty are kept is e = record {
  kept = kept;
  is_type = is;
  means = ap Some (e ∙ ap TupleTree (parts_kept old new kept list are));
}

pub tuple_then : {E : Type 0} (old new : TypeTable) (list : List Ty) (result : Result Ty E) → AllByRecursion (IsType old) list → OnOk result (Keeps old new) → IfOk result (λ ty. IsType new ty) → IfOk result (λ ty. tree_of new ty ≡ TupleTree (trees_by (tree_of new) list))
    → IfOk result (λ ty. IsFound old new (Some ty) (Some (TupleTree (trees_by (tree_of old) list))))
tuple_then old new list (Ok ty) are kept is e = tuple_interned old new list ty are kept is e
tuple_then old new list (Err error) are kept is e = is
