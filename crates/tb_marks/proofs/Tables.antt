-- The permission table, on what marks promise.
use Rattle.std.proofs.Common.{◌≡◌, ◌∙◌, ◌⊎◌, ◌≤◌, Bool, true, refl, ap, sym, subst, arith, Option, Some, None, inl, inr}
use Rattle.std.specs.Prelude.{Result, Ok, Err}
use Rattle.tb_perm.specs.declared.perm.Perm.{Perm}
use Rattle.tb_perm.specs.declared.perm.Perm.TheVariants.{Cell, Reserved, Conflicted, ReservedIm, Active, Frozen, Disabled}
use Rattle.tb_perm.specs.declared.perm.State.{State}
use Rattle.tb_perm.specs.declared.perm.Kind.{Kind}
use Rattle.tb_perm.specs.declared.perm.Kind.TheVariants.{Read, Write}
use Rattle.tb_perm.specs.declared.perm.Rel.{Rel}
use Rattle.tb_perm.specs.declared.perm.Rel.TheVariants.{Local, Foreign}
use Rattle.tb_perm.specs.declared.perm.Mark.{Mark}
use Rattle.tb_perm.specs.declared.perm.Mark.TheVariants.{Nothing, Read as ReadMark, Write as WriteMark}
use Rattle.tb_perm.specs.declared.report.Refusal.{Refusal}
use Rattle.tb_perm.specs.Table.{step_of, after_foreign, IsIdle}
use Rattle.tb_perm.specs.Event.{moved_state, refusal_of, state_after, refusal_in}
use Rattle.tb_perm.specs.Marked.{level, leaves_alone}
use Rattle.tb_perm.proofs.Idle.{idle_moves, idle_after, idle_read, idle_local_read}
use Rattle.tb_marks.specs.Marks.{Promises, raised}
use Rattle.tb_marks.specs.Event.{lowered_at, raised_at, leaves_at}

-- an access that is not refused has its new state
pub ok_from : (s : State) (g : Bool) (rel : Rel) (kind : Kind) → refusal_of (Some kind) g rel s ≡ None → (t : State) × (step_of s g rel kind ≡ Ok t)
ok_from s g rel kind none = at (step_of s g rel kind) none
  where
    at : (r : Result State Refusal) → refusal_in r ≡ None → (t : State) × (r ≡ Ok t)
    at (Ok t) is = (t, refl)
    at (Err refusal) is = cc

moves_to : (s t : State) (g : Bool) (rel : Rel) (kind : Kind) → step_of s g rel kind ≡ Ok t → moved_state (Some kind) g rel s ≡ t
moves_to s t g rel kind is = ap (λ r. state_after r s) is

-- a foreign write leaves what no foreign read changes
write_then_read : (p : Perm) (g : Bool) → after_foreign (after_foreign p g Write) g Read ≡ after_foreign p g Write
write_then_read Cell g = refl
write_then_read Reserved g = refl
write_then_read Conflicted g = refl
write_then_read ReservedIm g = refl
write_then_read Active g = refl
write_then_read Frozen g = refl
write_then_read Disabled g = refl

-- what is idle stays so after a foreign access of whichever kind
idle_foreign : (s t : State) (g : Bool) (kind asked : Kind) → step_of s g Foreign kind ≡ Ok t → IsIdle s g asked → IsIdle t g asked
idle_foreign s t g Read Read moved idle = idle_after s t g Read moved
idle_foreign s t g Write Write moved idle = idle_after s t g Write moved
idle_foreign s t g Write Read moved idle = idle_read t g (idle_after s t g Write moved)
idle_foreign s t g Read Write moved idle = subst (λ x. IsIdle x g Write) (sym (idle_moves s g Read (idle_read s g idle)) ∙ moves_to s t g Foreign Read moved) idle

pub promises_foreign : (kind : Option Kind) (mark : Mark) (s : State) (g : Bool) → Promises mark s g → Promises mark (moved_state kind g Foreign s) g
promises_foreign None mark s g promises = promises
promises_foreign (Some kind) mark s g promises = at (step_of s g Foreign kind) refl
  where
    at : (r : Result State Refusal) → step_of s g Foreign kind ≡ r → Promises mark (state_after r s) g
    at (Ok t) is = λ asked leaves. idle_foreign s t g kind asked is (promises asked leaves)
    at (Err refusal) is = promises

pub promises_nothing : (s : State) (g : Bool) → Promises Nothing s g
promises_nothing s g = λ asked leaves. absurd (cc)

pub promises_lowered : (kind : Option Kind) (mark : Mark) (s : State) (g : Bool) → Promises mark s g → Promises (lowered_at kind mark) s g
promises_lowered None mark s g promises = promises
promises_lowered (Some Read) mark s g promises = promises
promises_lowered (Some Write) mark s g promises = promises_nothing s g

pub promises_local : (kind : Option Kind) (mark : Mark) (s : State) (g : Bool) → refusal_of kind g Local s ≡ None → Promises mark s g → Promises (lowered_at kind mark) (moved_state kind g Local s) g
promises_local None mark s g none promises = promises
promises_local (Some Write) mark s g none promises = promises_nothing (moved_state (Some Write) g Local s) g
promises_local (Some Read) mark s g none promises =
    let ok = ok_from s g Local Read none in
    λ asked leaves. subst (λ x. IsIdle x g asked) (sym (moves_to s ok.0 g Local Read ok.1)) (idle_local_read s ok.0 g asked ok.1 (promises asked leaves))

-- a raised mark leaves alone what the mark before did, and the kind, and what the kind comprises
raised_cases : (kind : Kind) (mark : Mark) (asked : Kind) → leaves_alone (raised kind mark) asked ≡ true → (leaves_alone mark asked ≡ true) ⊎ (leaves_alone (raised kind Nothing) asked ≡ true)
raised_cases Read Nothing asked leaves = inr leaves
raised_cases Read ReadMark asked leaves = inr leaves
raised_cases Read WriteMark asked leaves = inl refl
raised_cases Write mark asked leaves = inr refl

raised_idle : (kind asked : Kind) (s : State) (g : Bool) → IsIdle s g kind → leaves_alone (raised kind Nothing) asked ≡ true → IsIdle s g asked
raised_idle Read Read s g idle leaves = idle
raised_idle Read Write s g idle leaves = absurd (cc)
raised_idle Write Read s g idle leaves = idle_read s g idle
raised_idle Write Write s g idle leaves = idle

pub promises_idle : (kind : Kind) (mark : Mark) (s : State) (g : Bool) → IsIdle s g kind → Promises mark s g → Promises (raised kind mark) s g
promises_idle kind mark s g idle promises = λ asked leaves. at asked (raised_cases kind mark asked leaves)
  where
    at : (asked : Kind) → (leaves_alone mark asked ≡ true) ⊎ (leaves_alone (raised kind Nothing) asked ≡ true) → IsIdle s g asked
    at asked (inl before) = promises asked before
    at asked (inr now) = raised_idle kind asked s g idle now

pub promises_raised : (kind : Option Kind) (mark : Mark) (s : State) (g : Bool) → refusal_of kind g Foreign s ≡ None → Promises mark s g → Promises (raised_at kind mark) (moved_state kind g Foreign s) g
promises_raised None mark s g none promises = promises
promises_raised (Some kind) mark s g none promises =
    let ok = ok_from s g Foreign kind none in
    promises_idle kind mark (moved_state (Some kind) g Foreign s) g
    (subst (λ x. IsIdle x g kind) (sym (moves_to s ok.0 g Foreign kind ok.1)) (idle_after s ok.0 g kind ok.1))
    (promises_foreign (Some kind) mark s g promises)

-- a state of which some mark that leaves the event alone speaks
pub promises_shut : (kind : Option Kind) (above mark : Mark) (s : State) (g : Bool) → leaves_at kind above ≡ true → Promises above s g → Promises mark s g → Promises (raised_at kind mark) s g
promises_shut None above mark s g leaves shut promises = promises
promises_shut (Some kind) above mark s g leaves shut promises = promises_idle kind mark s g (shut kind leaves) promises

pub shut_stays : (kind : Option Kind) (above : Mark) (s : State) (g : Bool) → leaves_at kind above ≡ true → Promises above s g → moved_state kind g Foreign s ≡ s
shut_stays None above s g leaves shut = refl
shut_stays (Some kind) above s g leaves shut = idle_moves s g kind (shut kind leaves)

pub shut_passes : (kind : Option Kind) (above : Mark) (s : State) (g : Bool) → leaves_at kind above ≡ true → Promises above s g → refusal_of kind g Foreign s ≡ None
shut_passes None above s g leaves shut = refl
shut_passes (Some kind) above s g leaves shut = ap refusal_in (shut kind leaves)

-- a raised mark leaves the event alone, and promises no less
pub raised_leaves : (kind : Option Kind) (mark : Mark) → leaves_at kind (raised_at kind mark) ≡ true
raised_leaves None mark = refl
raised_leaves (Some Read) Nothing = refl
raised_leaves (Some Read) ReadMark = refl
raised_leaves (Some Read) WriteMark = refl
raised_leaves (Some Write) mark = refl

pub raised_more : (kind : Option Kind) (mark : Mark) → level mark ≤ level (raised_at kind mark)
raised_more None mark = omega arith
raised_more (Some Read) Nothing = omega arith
raised_more (Some Read) ReadMark = omega arith
raised_more (Some Read) WriteMark = omega arith
raised_more (Some Write) Nothing = omega arith
raised_more (Some Write) ReadMark = omega arith
raised_more (Some Write) WriteMark = omega arith
