-- Covers is the order of the permissions.
use Rattle.std.proofs.Common.{◌≡◌, ◌≤◌, ◌↔◌, ◌||◌, ◌&&◌, ℕ, Bool, true, false, not, arith, refl, IsTrue}
use Rattle.std.proofs.Math.Dec.{leb, leb-zero}
use Rattle.std.proofs.lemmas.Bool.{leb-true, le-leb, and_parts}
use Rattle.std.specs.Prelude.{Result, Ok, Err, is_err}
use Rattle.tb_perm.specs.declared.perm.Perm.{Perm}
use Rattle.tb_perm.specs.declared.perm.Perm.TheVariants.{Cell, Reserved, Conflicted, ReservedIm, Active, Frozen, Disabled}
use Rattle.tb_perm.specs.declared.perm.State.{State}
use Rattle.tb_perm.specs.declared.perm.Kind.{Kind}
use Rattle.tb_perm.specs.declared.perm.Kind.TheVariants.{Read, Write}
use Rattle.tb_perm.specs.declared.perm.Rel.{Rel}
use Rattle.tb_perm.specs.declared.perm.Rel.TheVariants.{Local, Foreign}
use Rattle.tb_perm.specs.declared.report.Refusal.{Refusal}
use Rattle.tb_perm.specs.Covers.{Covers, Keeps, HoldsAfter, moved, order_of}

-- the order as a test
abbrev is_below : Perm → Perm → Bool → Bool
is_below p c guarded = leb (order_of p) (order_of c)

then_so : (a b : Bool) → (not a || b) ≡ true → a ≡ true → b ≡ true
then_so true b h holds = h
then_so false b h holds = cc

-- a test of every permission, truth value, kind and relation
abbrev every : (Perm → Bool) → Bool
every f = f Cell && (f Reserved && (f Conflicted && (f ReservedIm && (f Active && (f Frozen && f Disabled)))))

abbrev both : (Bool → Bool) → Bool
both f = f false && f true

abbrev kinds : (Kind → Bool) → Bool
kinds f = f Read && f Write

abbrev rels : (Rel → Bool) → Bool
rels f = f Local && f Foreign

all_parts : (a b c d e f g : Bool) → (a && (b && (c && (d && (e && (f && g)))))) ≡ true → (a ≡ true) × (b ≡ true) × (c ≡ true) × (d ≡ true) × (e ≡ true) × (f ≡ true) × (g ≡ true)
all_parts a b c d e f g h =
    let h1 = and_parts a (b && (c && (d && (e && (f && g))))) h in
    let h2 = and_parts b (c && (d && (e && (f && g)))) h1.1 in
    let h3 = and_parts c (d && (e && (f && g))) h2.1 in
    let h4 = and_parts d (e && (f && g)) h3.1 in
    let h5 = and_parts e (f && g) h4.1 in
    let h6 = and_parts f g h5.1 in (
      h1.0,
      h2.0,
      h3.0,
      h4.0,
      h5.0,
      h6.0,
      h6.1,
    )

every_parts : (f : Perm → Bool) → every f ≡ true → (f Cell ≡ true) × (f Reserved ≡ true) × (f Conflicted ≡ true) × (f ReservedIm ≡ true) × (f Active ≡ true) × (f Frozen ≡ true) × (f Disabled ≡ true)
every_parts f h = all_parts (f Cell) (f Reserved) (f Conflicted) (f ReservedIm) (f Active) (f Frozen) (f Disabled) h

every_at : (f : Perm → Bool) → every f ≡ true → (p : Perm) → f p ≡ true
every_at f h Cell = (every_parts f h).0
every_at f h Reserved = (every_parts f h).1
every_at f h Conflicted = (every_parts f h).2
every_at f h ReservedIm = (every_parts f h).3
every_at f h Active = (every_parts f h).4
every_at f h Frozen = (every_parts f h).5
every_at f h Disabled = (every_parts f h).6

both_at : (f : Bool → Bool) → both f ≡ true → (b : Bool) → f b ≡ true
both_at f h false = (and_parts (f false) (f true) h).0
both_at f h true = (and_parts (f false) (f true) h).1

kinds_at : (f : Kind → Bool) → kinds f ≡ true → (k : Kind) → f k ≡ true
kinds_at f h Read = (and_parts (f Read) (f Write) h).0
kinds_at f h Write = (and_parts (f Read) (f Write) h).1

rels_at : (f : Rel → Bool) → rels f ≡ true → (r : Rel) → f r ≡ true
rels_at f h Local = (and_parts (f Local) (f Foreign) h).0
rels_at f h Foreign = (and_parts (f Local) (f Foreign) h).1

-- the first condition of the order, at one pair
abbrev refuses_test : Perm → Perm → Bool → Kind → Bool
refuses_test p c g kind = not (is_below p c g) || (not (is_err (moved p false Local kind)) || is_err (moved c g Local kind))

-- the second condition, at one pair
abbrev after_test : Bool → Result State Refusal → Result State Refusal → Bool
after_test g (Ok s) (Ok t) = is_below s.perm t.perm g
after_test g (Ok s) (Err refusal) = true
after_test g (Err refusal) t = true

abbrev moves_test : Perm → Perm → Bool → Rel → Kind → Bool
moves_test p c g rel kind = not (is_below p c g) || after_test g (moved p false rel kind) (moved c g rel kind)

holds_after : (g : Bool) (r s : Result State Refusal) → after_test g r s ≡ true → HoldsAfter (λ a b g. is_below a b g ≡ true) g r s
holds_after g (Ok s) (Ok t) h = h
holds_after g (Ok s) (Err refusal) h = tt
holds_after g (Err refusal) t h = tt

all_refuse : every (λ p. every (λ c. both (λ g. kinds (refuses_test p c g)))) ≡ true
all_refuse = refl

all_move : every (λ p. every (λ c. both (λ g. rels (λ rel. kinds (moves_test p c g rel))))) ≡ true
all_move = refl

refuse_all : (p c : Perm) (g : Bool) (kind : Kind) → refuses_test p c g kind ≡ true
refuse_all p c g kind =
    let at_p = every_at (λ a. every (λ b. both (λ h. kinds (refuses_test a b h)))) all_refuse p in
    let at_c = every_at (λ b. both (λ h. kinds (refuses_test p b h))) at_p c in
    kinds_at (refuses_test p c g) (both_at (λ h. kinds (refuses_test p c h)) at_c g) kind

move_all : (p c : Perm) (g : Bool) (rel : Rel) (kind : Kind) → moves_test p c g rel kind ≡ true
move_all p c g rel kind =
    let at_p = every_at (λ a. every (λ b. both (λ h. rels (λ r. kinds (moves_test a b h r))))) all_move p in
    let at_c = every_at (λ b. both (λ h. rels (λ r. kinds (moves_test p b h r)))) at_p c in
    let at_g = both_at (λ h. rels (λ r. kinds (moves_test p c h r))) at_c g in
    kinds_at (moves_test p c g rel) (rels_at (λ r. kinds (moves_test p c g r)) at_g rel) kind

-- the order meets the three conditions
order_keeps : Keeps (λ a b g. is_below a b g ≡ true)
order_keeps =
    record {
      refuses = λ p c g kind below refused.
          then_so (is_err (moved p false Local kind)) (is_err (moved c g Local kind)) (then_so (is_below p c g) (not (is_err (moved p false Local kind)) || is_err (moved c g Local kind)) (refuse_all p c g kind) below) refused;
      moves = λ p c g rel kind below. holds_after g _ _ (then_so (is_below p c g) (after_test g (moved p false rel kind) (moved c g rel kind)) (move_all p c g rel kind) below);
      freed = λ p c g below. below;
    }

-- every relation that meets the conditions lies within the order: where p stands behind c, some
-- accesses lead to one that p refuses and c does not
module _ (R : Perm → Perm → Bool → Type 0) (keeps : Keeps R) where
  after_disabled : (c : Perm) → R Disabled c false → is_below Disabled c false ≡ true
  after_disabled Disabled h = refl
  after_disabled Cell h = keeps.refuses Disabled Cell false Read h refl
  after_disabled Reserved h = keeps.refuses Disabled Reserved false Read h refl
  after_disabled Conflicted h = keeps.refuses Disabled Conflicted false Read h refl
  after_disabled ReservedIm h = keeps.refuses Disabled ReservedIm false Read h refl
  after_disabled Active h = keeps.refuses Disabled Active false Read h refl
  after_disabled Frozen h = keeps.refuses Disabled Frozen false Read h refl

  after_frozen : (c : Perm) → R Frozen c false → is_below Frozen c false ≡ true
  after_frozen Disabled h = refl
  after_frozen Frozen h = refl
  after_frozen Cell h = keeps.refuses Frozen Cell false Write h refl
  after_frozen Reserved h = keeps.refuses Frozen Reserved false Write h refl
  after_frozen Conflicted h = keeps.refuses Frozen Conflicted false Write h refl
  after_frozen ReservedIm h = keeps.refuses Frozen ReservedIm false Write h refl
  after_frozen Active h = keeps.refuses Frozen Active false Write h refl

  after_active : (c : Perm) → R Active c false → is_below Active c false ≡ true
  after_active Disabled h = refl
  after_active Frozen h = refl
  after_active Active h = refl
  after_active Cell h = after_frozen Cell (keeps.moves Active Cell false Foreign Read h)
  after_active Reserved h = after_frozen Reserved (keeps.moves Active Reserved false Foreign Read h)
  after_active Conflicted h = after_frozen Conflicted (keeps.moves Active Conflicted false Foreign Read h)
  after_active ReservedIm h = after_frozen ReservedIm (keeps.moves Active ReservedIm false Foreign Read h)

  after_reserved : (c : Perm) → R Reserved c false → is_below Reserved c false ≡ true
  after_reserved Disabled h = refl
  after_reserved Frozen h = refl
  after_reserved Active h = refl
  after_reserved Reserved h = refl
  after_reserved Conflicted h = refl
  after_reserved Cell h = after_disabled Cell (keeps.moves Reserved Cell false Foreign Write h)
  after_reserved ReservedIm h = after_disabled ReservedIm (keeps.moves Reserved ReservedIm false Foreign Write h)

  after_conflicted : (c : Perm) → R Conflicted c false → is_below Conflicted c false ≡ true
  after_conflicted Disabled h = refl
  after_conflicted Frozen h = refl
  after_conflicted Active h = refl
  after_conflicted Reserved h = refl
  after_conflicted Conflicted h = refl
  after_conflicted Cell h = after_disabled Cell (keeps.moves Conflicted Cell false Foreign Write h)
  after_conflicted ReservedIm h = after_disabled ReservedIm (keeps.moves Conflicted ReservedIm false Foreign Write h)

  after_reserved_im : (c : Perm) → R ReservedIm c false → is_below ReservedIm c false ≡ true
  after_reserved_im Disabled h = refl
  after_reserved_im Frozen h = refl
  after_reserved_im Active h = refl
  after_reserved_im Reserved h = refl
  after_reserved_im Conflicted h = refl
  after_reserved_im ReservedIm h = refl
  after_reserved_im Cell h = after_active Cell (keeps.moves ReservedIm Cell false Local Write h)

  within_order_free : (p c : Perm) → R p c false → is_below p c false ≡ true
  within_order_free Cell c h = leb-zero (order_of c)
  within_order_free Reserved c h = after_reserved c h
  within_order_free Conflicted c h = after_conflicted c h
  within_order_free ReservedIm c h = after_reserved_im c h
  within_order_free Active c h = after_active c h
  within_order_free Frozen c h = after_frozen c h
  within_order_free Disabled c h = after_disabled c h

  pub within_order : (p c : Perm) (g : Bool) → R p c g → order_of p ≤ order_of c
  within_order p c g h = leb-true _ _ (within_order_free p c (keeps.freed p c g h))

pub order-Covers : (p c : Perm) (g : Bool) → Covers p c g → order_of p ≤ order_of c
order-Covers p c g h = within_order _ h.1 p c g h.2

pub Covers-order : (p c : Perm) (g : Bool) → order_of p ≤ order_of c → Covers p c g
Covers-order p c g h = (is_below, order_keeps, le-leb _ _ h)

pub Covers-chain : (p q c : Perm) (g : Bool) → Covers p q false → Covers q c g → Covers p c g
Covers-chain p q c g upper lower =
    let first : order_of p ≤ order_of q = order-Covers p q false upper in
    let second : order_of q ≤ order_of c = order-Covers q c g lower in
    Covers-order p c g (omega arith)

-- what a comparison of the places says
pub order_tells : (p c : Perm) (g : Bool) (a b : ℕ) → a ≡ order_of p → b ≡ order_of c → IsTrue (leb a b) ↔ Covers p c g
order_tells p c g a b is_a is_b = (
  λ h. Covers-order p c g (rw (← is_a, ← is_b) (leb-true a b h)),
  λ h. le-leb a b (rw (is_a, is_b) (order-Covers p c g h)),
)

-- the relation meets its own conditions
pub Covers-keeps : Keeps Covers
Covers-keeps =
    record {
      refuses = λ p c g kind h refused. h.1.refuses p c g kind h.2 refused;
      moves = λ p c g rel kind h. covers_after g _ _ (order_after p c g rel kind h);
      freed = λ p c g h. Covers-order p c false (order-Covers p c g h);
    }
  where
    order_after : (p c : Perm) (g : Bool) (rel : Rel) (kind : Kind) → Covers p c g → HoldsAfter (λ a b g. is_below a b g ≡ true) g (moved p false rel kind) (moved c g rel kind)
    order_after p c g rel kind h = order_keeps.moves p c g rel kind (le-leb _ _ (order-Covers p c g h))

    covers_after : (g : Bool) (r s : Result State Refusal) → HoldsAfter (λ a b g. is_below a b g ≡ true) g r s → HoldsAfter Covers g r s
    covers_after g (Ok s) (Ok t) h = Covers-order s.perm t.perm g (leb-true _ _ h)
    covers_after g (Ok s) (Err refusal) h = tt
    covers_after g (Err refusal) t h = tt
