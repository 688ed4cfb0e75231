-- Types of one table that mean the same have one number.
use Rattle.std.proofs.Common.{◌≡◌, refl, sym, ◌∙◌, ap, ℕ, suc, zero, ◌<◌, List, [], ◌∷◌, Some, arith}
use Rattle.std.specs.List.{AllByRecursion}
use Rattle.tb_types.specs.declared.shape.Ty.{Ty}
use Rattle.tb_types.specs.declared.shape.TyShape.{TyShape}
use Rattle.tb_types.specs.declared.shape.TyShape.TheVariants.{Int, Bool as BoolShape, Char, Unit, Tuple, Array, Struct, Ref, Raw, Boxed, Cell, UnsafeCell, Slice}
use Rattle.tb_types.specs.Table.{TypeTable, IsType, shape_at, named_in}
use Rattle.tb_types.specs.Trees.{TypeTree, trees_by, tree_in, tree_of, IsSameType}
use Rattle.tb_types.specs.Sound.{AreTypes}
use Rattle.tb_types.proofs.Within.{get_found, all_to}
use Rattle.tb_types.proofs.Places.{one_place}
use Rattle.tb_types.proofs.Trees.{tree_step}

module _ (f : Ty → TypeTree) (Is : Ty → Type 0) where
  -- the tree of the one is that of no other
  abbrev Tells : Ty → Type 0
  Tells part = (other : Ty) → Is other → f part ≡ f other → part ≡ other

  parts_same : (a b : List Ty) → AllByRecursion Tells a → AllByRecursion Is b → trees_by f a ≡ trees_by f b → a ≡ b
  parts_same [] [] h k e = refl
  parts_same [] (y ∷ b) h k e = cc
  parts_same (x ∷ a) [] h k e = cc
  parts_same (x ∷ a) (y ∷ b) h k e =
      let first : f x ≡ f y = cc in
      let rest : trees_by f a ≡ trees_by f b = cc in
      ap (λ z. z ∷ a) (h.0 y k.0 first) ∙ ap (λ zs. y ∷ zs) (parts_same a b h.1 k.1 rest)

  shape_same : (a b : TyShape) → AllByRecursion Tells (named_in a) → AllByRecursion Is (named_in b) → tree_in a f ≡ tree_in b f → a ≡ b
  shape_same (Int a) (Int b) h k e = let i : a ≡ b = cc in ap Int i
  shape_same (Int a) b h k e = cc
  shape_same BoolShape BoolShape h k e = refl
  shape_same BoolShape b h k e = cc
  shape_same Char Char h k e = refl
  shape_same Char b h k e = cc
  shape_same Unit Unit h k e = refl
  shape_same Unit b h k e = cc
  shape_same (Tuple a) (Tuple b) h k e = let i : trees_by f a ≡ trees_by f b = cc in ap Tuple (parts_same a b h k i)
  shape_same (Tuple a) b h k e = cc
  shape_same (Array a n) (Array b m) h k e = let i : f a ≡ f b = cc in let j : n ≡ m = cc in ap (λ x. Array x n) (h.0 b k.0 i) ∙ ap (Array b) j
  shape_same (Array a n) b h k e = cc
  shape_same (Struct a) (Struct b) h k e = let i : a ≡ b = cc in ap Struct i
  shape_same (Struct a) b h k e = cc
  shape_same (Ref m a) (Ref o b) h k e = let i : f a ≡ f b = cc in let j : m ≡ o = cc in ap (Ref m) (h.0 b k.0 i) ∙ ap (λ x. Ref x b) j
  shape_same (Ref m a) b h k e = cc
  shape_same (Raw m a) (Raw o b) h k e = let i : f a ≡ f b = cc in let j : m ≡ o = cc in ap (Raw m) (h.0 b k.0 i) ∙ ap (λ x. Raw x b) j
  shape_same (Raw m a) b h k e = cc
  shape_same (Boxed a) (Boxed b) h k e = let i : f a ≡ f b = cc in ap Boxed (h.0 b k.0 i)
  shape_same (Boxed a) b h k e = cc
  shape_same (Cell a) (Cell b) h k e = let i : f a ≡ f b = cc in ap Cell (h.0 b k.0 i)
  shape_same (Cell a) b h k e = cc
  shape_same (UnsafeCell a) (UnsafeCell b) h k e = let i : f a ≡ f b = cc in ap UnsafeCell (h.0 b k.0 i)
  shape_same (UnsafeCell a) b h k e = cc
  shape_same (Slice a) (Slice b) h k e = let i : f a ≡ f b = cc in ap Slice (h.0 b k.0 i)
  shape_same (Slice a) b h k e = cc

module _ (types : TypeTable) (sound : AreTypes types) where
  same_below : (bound : ℕ) (one other : Ty) → one.0 < bound → IsType types one → IsType types other → IsSameType types one types other → one ≡ other
  same_below zero one other low h k same = absurd (omega arith)
  same_below (suc bound) one other low h k same =
      let a : (shape : TyShape) × (shape_at types one ≡ Some shape) = get_found types.shapes one.0 h in
      let b : (shape : TyShape) × (shape_at types other ≡ Some shape) = get_found types.shapes other.0 k in
      let s : a.0 ≡ b.0 = shape_same (tree_of types) (IsType types) a.0 b.0
      (all_to (named_in a.0) (sound.names one a.0 a.1) (λ part lower. λ more is e. same_below bound part more (omega arith) (omega arith) is e))
      (all_to (named_in b.0) (sound.names other b.0 b.1) (λ part lower. omega arith))
      (sym (tree_step types.shapes sound.names one a.0 a.1) ∙ same ∙ tree_step types.shapes sound.names other b.0 b.1) in
      ap (λ n. record { 0 = n }) (one_place types.shapes one.0 other.0 b.0 sound.one_number (a.1 ∙ ap Some s) b.1)

  -- types that mean the same are one
  pub same_number : (one other : Ty) → IsType types one → IsType types other → IsSameType types one types other → one ≡ other
  same_number one other = same_below (suc one.0) one other (omega arith)
