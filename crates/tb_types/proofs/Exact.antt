-- Shapes that `==` finds equal are the same.
use Rattle.std.proofs.Common.{◌≡◌, refl, ◌∙◌, true, true≢false, ap, sym, rules, ◌&&◌, nat_eq}
use Rattle.std.specs.Bool.{Decides}
use Rattle.std.specs.Cmp.{first_so, second_so, unsigned_Decides, booleans_Decides}
use mathlib.Core.Bool.{beq}
use Rattle.std.specs.Cmp.Lexicographic.{pointwise_decides}
use Rattle.tb_types.specs.declared.shape.Ty.{Ty}
use Rattle.tb_types.specs.declared.shape.TyShape.{TyShape}
use Rattle.tb_types.specs.declared.shape.TyShape.TheVariants.{Int, Bool, Char, Unit, Tuple, Array, Struct, Ref, Raw, Boxed, Cell, UnsafeCell, Slice}
use Rattle.tb_types.specs.declared.shape.IntKind.{IntKind}
use Rattle.tb_types.specs.contracts.shape.TyShapePartialEq.TheImpl as shape_law
use Rattle.tb_types.specs.contracts.shape.IntKindPartialEq.TheImpl as kind_law
use Rattle.tb_types.specs.Same.{ty_eq, parts_eq}

ty_decides : (a b : Ty) → Decides (ty_eq a b) (a ≡ b)
ty_decides a b = (λ h. ap (λ n. record { 0 = n }) ((unsigned_Decides a.0 b.0).0 h), λ e. (unsigned_Decides a.0 b.0).1 (ap (λ ty. ty.0) e))

ty_exact : (a b : Ty) → ty_eq a b ≡ true → a ≡ b
ty_exact a b h = (ty_decides a b).0 h

two : {A B C : Type 0} (f : A → B → C) (a x : A) (b y : B) → a ≡ x → b ≡ y → f a b ≡ f x y
two f a x b y e d = ap (λ v. f v b) e ∙ ap (f x) d

pub exact_kind : (a b : IntKind) → (kind_law.ghosts).eq a b ≡ true → a ≡ b
exact_kind a b h = search rules

pub exact_shape : (a b : TyShape) → (shape_law.ghosts).eq a b ≡ true → a ≡ b
exact_shape (Int a) (Int b) h = let k : (kind_law.ghosts).eq a b ≡ true = h in ap Int (exact_kind a b k)
exact_shape (Int a) b h = absurd (true≢false (sym h))
exact_shape Bool Bool h = refl
exact_shape Bool b h = absurd (true≢false (sym h))
exact_shape Char Char h = refl
exact_shape Char b h = absurd (true≢false (sym h))
exact_shape Unit Unit h = refl
exact_shape Unit b h = absurd (true≢false (sym h))
exact_shape (Tuple a) (Tuple b) h = let k : parts_eq a b ≡ true = h in ap Tuple ((pointwise_decides ty_decides a b).0 k)
exact_shape (Tuple a) b h = absurd (true≢false (sym h))
exact_shape (Array a n) (Array b m) h = let k : (ty_eq a b && nat_eq n m) ≡ true = h in two Array a b n m (ty_exact a b (first_so (ty_eq a b) (nat_eq n m) k)) ((unsigned_Decides n m).0 (second_so (ty_eq a b) (nat_eq n m) k))
exact_shape (Array a n) b h = absurd (true≢false (sym h))
exact_shape (Struct a) (Struct b) h = let k : nat_eq a b ≡ true = h in ap Struct ((unsigned_Decides a b).0 k)
exact_shape (Struct a) b h = absurd (true≢false (sym h))
exact_shape (Ref m a) (Ref n b) h = let k : (beq m n && ty_eq a b) ≡ true = h in two Ref m n a b ((booleans_Decides m n).0 (first_so (beq m n) (ty_eq a b) k)) (ty_exact a b (second_so (beq m n) (ty_eq a b) k))
exact_shape (Ref m a) b h = absurd (true≢false (sym h))
exact_shape (Raw m a) (Raw n b) h = let k : (beq m n && ty_eq a b) ≡ true = h in two Raw m n a b ((booleans_Decides m n).0 (first_so (beq m n) (ty_eq a b) k)) (ty_exact a b (second_so (beq m n) (ty_eq a b) k))
exact_shape (Raw m a) b h = absurd (true≢false (sym h))
exact_shape (Boxed a) (Boxed b) h = let k : ty_eq a b ≡ true = h in ap Boxed (ty_exact a b k)
exact_shape (Boxed a) b h = absurd (true≢false (sym h))
exact_shape (Cell a) (Cell b) h = let k : ty_eq a b ≡ true = h in ap Cell (ty_exact a b k)
exact_shape (Cell a) b h = absurd (true≢false (sym h))
exact_shape (UnsafeCell a) (UnsafeCell b) h = let k : ty_eq a b ≡ true = h in ap UnsafeCell (ty_exact a b k)
exact_shape (UnsafeCell a) b h = absurd (true≢false (sym h))
exact_shape (Slice a) (Slice b) h = let k : ty_eq a b ≡ true = h in ap Slice (ty_exact a b k)
exact_shape (Slice a) b h = absurd (true≢false (sym h))
