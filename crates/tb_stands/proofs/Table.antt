-- What the table says of a tag and one that covers it.
use Rattle.std.proofs.Common.{◌≡◌, Bool, true, false, cond, refl, Option, Some, None}
use Rattle.std.specs.Prelude.{Result, Ok, Err, is_some, is_err}
use Rattle.tb_perm.specs.declared.perm.Perm.{Perm}
use Rattle.tb_perm.specs.declared.perm.State.{State}
use Rattle.tb_perm.specs.declared.perm.Kind.{Kind}
use Rattle.tb_perm.specs.declared.perm.Rel.{Rel}
use Rattle.tb_perm.specs.declared.perm.Rel.TheVariants.{Local, Foreign}
use Rattle.tb_perm.specs.declared.report.Refusal.{Refusal}
use Rattle.tb_perm.specs.declared.report.Refusal.TheVariants.{Protected}
use Rattle.tb_perm.specs.Table.{after_local, after_foreign, loses, made_accessed}
use Rattle.tb_perm.specs.Event.{moved_state, refusal_of, state_after, refusal_in}
use Rattle.tb_perm.specs.Covers.{Covers, HoldsAfter}
use Rattle.tb_perm.proofs.Order.{Covers-keeps, Covers-order, order-Covers}

-- whatever its guard becomes
pub covers_guard : (p c : Perm) (g h : Bool) → Covers p c g → Covers p c h
covers_guard p c g h covers = Covers-order p c h (order-Covers p c g covers)

-- an unguarded tag refuses local accesses alone, and there the one that covers it refuses too
pub refuses_local : (s t : State) (g : Bool) (kind : Kind) → Covers s.perm t.perm g → is_some (refusal_of (Some kind) false Local s) ≡ true → is_some (refusal_of (Some kind) g Local t) ≡ true
refuses_local s t g kind covers refused = err_some (after_local t.perm g kind) (Covers-keeps.refuses s.perm t.perm g kind covers (some_err (after_local s.perm false kind) refused))
  where
    some_err : (r : Result Perm Refusal) → is_some (refusal_in (made_accessed r)) ≡ true → is_err (made_accessed r) ≡ true
    some_err (Ok p) h = h
    some_err (Err e) h = refl

    err_some : (r : Result Perm Refusal) → is_err (made_accessed r) ≡ true → is_some (refusal_in (made_accessed r)) ≡ true
    err_some (Ok p) h = h
    err_some (Err e) h = refl

-- a local access that neither refuses
moves_local : (s t : State) (g : Bool) (kind : Kind) → Covers s.perm t.perm g → is_some (refusal_of (Some kind) false Local s) ≡ false → is_some (refusal_of (Some kind) g Local t) ≡ false → Covers (moved_state (Some kind) false Local s).perm (moved_state (Some kind) g Local t).perm g
moves_local s t g kind covers free_s free_t = at (after_local s.perm false kind) (after_local t.perm g kind) free_s free_t (Covers-keeps.moves s.perm t.perm g Local kind covers)
  where
    at : (a b : Result Perm Refusal) → is_some (refusal_in (made_accessed a)) ≡ false → is_some (refusal_in (made_accessed b)) ≡ false → HoldsAfter Covers g (made_accessed a) (made_accessed b) → Covers (state_after (made_accessed a) s).perm (state_after (made_accessed b) t).perm g
    at (Ok p) (Ok q) free_a free_b holds = holds
    at (Ok p) (Err e) free_a free_b holds = absurd (let clash : true ≡ false = free_b in cc)
    at (Err e) b free_a free_b holds = absurd (let clash : true ≡ false = free_a in cc)

foreign_covers : (p c : Perm) (g : Bool) (kind : Kind) → Covers p c g → Covers (after_foreign p false kind) (after_foreign c g kind) g
foreign_covers p c false kind covers = Covers-keeps.moves p c false Foreign kind covers
foreign_covers p c true kind covers = Covers-keeps.moves p c true Foreign kind covers

-- a foreign access that the covering tag does not refuse
moves_foreign : (s t : State) (g : Bool) (kind : Kind) → Covers s.perm t.perm g → is_some (refusal_of (Some kind) g Foreign t) ≡ false → Covers (moved_state (Some kind) false Foreign s).perm (moved_state (Some kind) g Foreign t).perm g
moves_foreign s t g kind covers free_t = at (loses t g (after_foreign t.perm g kind)) free_t
  where
    at : (b : Bool) → is_some (refusal_in (cond b (Err Protected) (Ok (record { perm = after_foreign t.perm g kind; accessed = t.accessed })))) ≡ false
        → Covers (after_foreign s.perm false kind) (state_after (cond b (Err Protected) (Ok (record { perm = after_foreign t.perm g kind; accessed = t.accessed }))) t).perm g
    at true free = absurd (let clash : true ≡ false = free in cc)
    at false free = foreign_covers s.perm t.perm g kind covers

-- an event that neither refuses, and that both see in the same way, leaves the one covered by the other
pub moves_covered : (s t : State) (g : Bool) (rel : Rel) (met : Option Kind) → Covers s.perm t.perm g → is_some (refusal_of met false rel s) ≡ false → is_some (refusal_of met g rel t) ≡ false → Covers (moved_state met false rel s).perm (moved_state met g rel t).perm g
moves_covered s t g rel None covers free_s free_t = covers
moves_covered s t g Local (Some kind) covers free_s free_t = moves_local s t g kind covers free_s free_t
moves_covered s t g Foreign (Some kind) covers free_s free_t = moves_foreign s t g kind covers free_t
