-- When a tag may be left out of a tree: its only child refuses whatever it would have refused.
use Rattle.std.specs.Prelude.{◌≡◌, ℕ, Bool, true, false, Result, Ok, Err, is_err, ⊤}
use Rattle.tb_perm.specs.declared.perm.Perm.{Perm}
use Rattle.tb_perm.specs.declared.perm.Perm.TheVariants.{Cell, Reserved, Conflicted, ReservedIm, Active, Frozen, Disabled}
use Rattle.tb_perm.specs.declared.perm.State.{State}
use Rattle.tb_perm.specs.declared.perm.Kind.{Kind}
use Rattle.tb_perm.specs.declared.perm.Rel.{Rel}
use Rattle.tb_perm.specs.declared.perm.Rel.TheVariants.{Local}
use Rattle.tb_perm.specs.declared.report.Refusal.{Refusal}
use Rattle.tb_perm.specs.Table.{step_of}

-- what the table makes of a permission at a byte that the tag has not accessed
abbrev pub moved : Perm → Bool → Rel → Kind → Result State Refusal
moved perm guarded rel kind = step_of (record { perm = perm; accessed = false }) guarded rel kind

-- where neither refuses, the relation holds of the two permissions that come out
abbrev pub HoldsAfter : (Perm → Perm → Bool → Type 0) → Bool → Result State Refusal → Result State Refusal → Type 0
HoldsAfter R guarded (Ok s) (Ok t) = R s.perm t.perm guarded
HoldsAfter R guarded (Ok s) (Err refusal) = ⊤
HoldsAfter R guarded (Err refusal) t = ⊤

-- the three conditions on a relation between the permission p of an unguarded tag, the permission c
-- of a tag below it, and whether that one is guarded
pub record Keeps (R : Perm → Perm → Bool → Type 0) : Type 0 where
  -- each local access that p refuses, c refuses
  pub refuses : (p c : Perm) (guarded : Bool) (kind : Kind) → R p c guarded → is_err (moved p false Local kind) ≡ true → is_err (moved c guarded Local kind) ≡ true
  -- any access that neither refuses leaves them related
  pub moves : (p c : Perm) (guarded : Bool) (rel : Rel) (kind : Kind) → R p c guarded → HoldsAfter R guarded (moved p false rel kind) (moved c guarded rel kind)
  -- they stay related when the guard goes
  pub freed : (p c : Perm) (guarded : Bool) → R p c guarded → R p c false

-- the greatest relation that meets the conditions: the union of all tests that meet them
abbrev pub Covers : Perm → Perm → Bool → Type 0
Covers p c guarded = (R : Perm → Perm → Bool → Bool) × Keeps (λ a b g. R a b g ≡ true) × (R p c guarded ≡ true)

-- the order of the permissions, by how much they forbid
abbrev pub order_of : Perm → ℕ
order_of Cell = 0
order_of ReservedIm = 1
order_of Reserved = 2
order_of Conflicted = 2
order_of Active = 3
order_of Frozen = 4
order_of Disabled = 5
