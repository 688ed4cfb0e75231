-- The table on states that foreign accesses leave as they are.
use Rattle.std.proofs.Common.{◌≡◌, ◌∙◌, ◌&&◌, ◌≤◌, Bool, true, false, cond, not, refl, ap, sym, subst, arith, Some, None}
use Rattle.std.specs.Prelude.{Result, Ok, Err}
use Rattle.tb_perm.specs.declared.perm.Perm.{Perm}
use Rattle.tb_perm.specs.declared.perm.Perm.TheVariants.{Cell, Reserved, Conflicted, ReservedIm, Active, Frozen, Disabled}
use Rattle.tb_perm.specs.declared.perm.State.{State}
use Rattle.tb_perm.specs.declared.perm.Kind.{Kind}
use Rattle.tb_perm.specs.declared.perm.Kind.TheVariants.{Read, Write}
use Rattle.tb_perm.specs.declared.perm.Rel.TheVariants.{Local, Foreign}
use Rattle.tb_perm.specs.declared.perm.Mark.{Mark}
use Rattle.tb_perm.specs.declared.perm.Mark.TheVariants.{Nothing, Read as ReadMark, Write as WriteMark}
use Rattle.tb_perm.specs.declared.report.Refusal.{Refusal}
use Rattle.tb_perm.specs.declared.report.Refusal.TheVariants.{Protected}
use Rattle.tb_perm.specs.Table.{step_of, after_local, after_foreign, loses, is_disabled, made_accessed, IsIdle}
use Rattle.tb_perm.specs.Event.{moved_state, refusal_of, state_after, refusal_in}
use Rattle.tb_perm.specs.Marked.{level, leaves_alone}

ok_same : (r : Result State Refusal) (x y : State) → r ≡ Ok x → r ≡ Ok y → x ≡ y
ok_same (Ok z) x y is_x is_y = cc
ok_same (Err refusal) x y is_x is_y = cc

-- an idle state does not move, and does not refuse
pub idle_moves : (s : State) (g : Bool) (kind : Kind) → IsIdle s g kind → moved_state (Some kind) g Foreign s ≡ s
idle_moves s g kind idle = ap (λ r. state_after r s) idle

pub idle_refuses : (s : State) (g : Bool) (kind : Kind) → IsIdle s g kind → refusal_of (Some kind) g Foreign s ≡ None
idle_refuses s g kind idle = ap refusal_in idle

-- a tag that is not protected refuses no foreign access
pub free_refuses : (s : State) (kind : Kind) → refusal_of (Some kind) false Foreign s ≡ None
free_refuses s kind = refl

-- idle is a matter of the permission
pub idle_stays : (s : State) (g : Bool) (kind : Kind) → IsIdle s g kind → after_foreign s.perm g kind ≡ s.perm
idle_stays s g kind idle = at (loses s g (after_foreign s.perm g kind)) idle
  where
    at : (b : Bool) → cond b (Err Protected) (Ok (record { perm = after_foreign s.perm g kind; accessed = s.accessed })) ≡ Ok s → after_foreign s.perm g kind ≡ s.perm
    at true clash = cc
    at false same = ap (λ (x : State). x.perm) (ok_same (Ok (record { perm = after_foreign s.perm g kind; accessed = s.accessed })) _ s refl same)

pub stays_idle : (s : State) (g : Bool) (kind : Kind) → after_foreign s.perm g kind ≡ s.perm → IsIdle s g kind
stays_idle s g kind stays =
    ap (λ p. cond (loses s g p) (Err Protected) (Ok (record { perm = p; accessed = s.accessed }))) stays
    ∙ ap (λ b. cond b (Err Protected) (Ok s)) (never (g && s.accessed) (is_disabled s.perm))
  where
    never : (x c : Bool) → (x && c && not c) ≡ false
    never true true = refl
    never true false = refl
    never false true = refl
    never false false = refl

pub idle_same : (s t : State) (g : Bool) (kind : Kind) → t.perm ≡ s.perm → IsIdle s g kind → IsIdle t g kind
idle_same s t g kind same idle = stays_idle t g kind (ap (λ p. after_foreign p g kind) same ∙ idle_stays s g kind idle ∙ sym same)

-- a foreign access made twice is one
pub foreign_twice : (p : Perm) (g : Bool) (kind : Kind) → after_foreign (after_foreign p g kind) g kind ≡ after_foreign p g kind
foreign_twice Cell g kind = refl
foreign_twice Reserved false Read = refl
foreign_twice Reserved true Read = refl
foreign_twice Reserved g Write = refl
foreign_twice Conflicted g Read = refl
foreign_twice Conflicted g Write = refl
foreign_twice ReservedIm g kind = refl
foreign_twice Active false Read = refl
foreign_twice Active true Read = refl
foreign_twice Active g Write = refl
foreign_twice Frozen g Read = refl
foreign_twice Frozen g Write = refl
foreign_twice Disabled g kind = refl

-- what a foreign access leaves is idle for its kind
pub idle_after : (s t : State) (g : Bool) (kind : Kind) → step_of s g Foreign kind ≡ Ok t → IsIdle t g kind
idle_after s t g kind moved = at (loses s g (after_foreign s.perm g kind)) moved
  where
    at : (b : Bool) → cond b (Err Protected) (Ok (record { perm = after_foreign s.perm g kind; accessed = s.accessed })) ≡ Ok t → IsIdle t g kind
    at true clash = cc
    at false same = stays_idle t g kind (subst (λ p. after_foreign p g kind ≡ p) (ap (λ (x : State). x.perm) (ok_same (Ok (record { perm = after_foreign s.perm g kind; accessed = s.accessed })) _ t refl same)) (foreign_twice s.perm g kind))

-- idle for writes is idle for reads
write_stays : (p : Perm) (g : Bool) → after_foreign p g Write ≡ p → after_foreign p g Read ≡ p
write_stays Cell g stays = refl
write_stays Reserved g stays = absurd (cc)
write_stays Conflicted g stays = refl
write_stays ReservedIm g stays = refl
write_stays Active g stays = absurd (cc)
write_stays Frozen g stays = refl
write_stays Disabled g stays = refl

pub idle_read : (s : State) (g : Bool) → IsIdle s g Write → IsIdle s g Read
idle_read s g idle = stays_idle s g Read (write_stays s.perm g (idle_stays s g Write idle))

-- an idle state stays idle when the guard goes
freed_stays : (p : Perm) (g : Bool) (kind : Kind) → after_foreign p g kind ≡ p → after_foreign p false kind ≡ p
freed_stays Cell g kind stays = refl
freed_stays Reserved g Read stays = refl
freed_stays Reserved g Write stays = absurd (cc)
freed_stays Conflicted g Read stays = refl
freed_stays Conflicted g Write stays = absurd (cc)
freed_stays ReservedIm g kind stays = refl
freed_stays Active false Read stays = absurd (cc)
freed_stays Active true Read stays = absurd (cc)
freed_stays Active g Write stays = absurd (cc)
freed_stays Frozen g Read stays = refl
freed_stays Frozen g Write stays = absurd (cc)
freed_stays Disabled g kind stays = refl

pub idle_freed : (s : State) (g : Bool) (kind : Kind) → IsIdle s g kind → IsIdle s false kind
idle_freed s g kind idle = stays_idle s false kind (freed_stays s.perm g kind (idle_stays s g kind idle))

-- a local read leaves the permission, and with it what is idle
read_keeps : (p q : Perm) (g : Bool) → after_local p g Read ≡ Ok q → q ≡ p
read_keeps Cell q g done = cc
read_keeps Reserved q g done = cc
read_keeps Conflicted q g done = cc
read_keeps ReservedIm q g done = cc
read_keeps Active q g done = cc
read_keeps Frozen q g done = cc
read_keeps Disabled q g done = cc

pub local_read_perm : (s t : State) (g : Bool) → step_of s g Local Read ≡ Ok t → t.perm ≡ s.perm
local_read_perm s t g moved = at (after_local s.perm g Read) refl moved
  where
    at : (r : Result Perm Refusal) → after_local s.perm g Read ≡ r → made_accessed r ≡ Ok t → t.perm ≡ s.perm
    at (Err refusal) is same = cc
    at (Ok p) is same = ap (λ (x : State). x.perm) (sym (ok_same (Ok (record { perm = p; accessed = true })) _ t refl same)) ∙ read_keeps s.perm p g is

pub idle_local_read : (s t : State) (g : Bool) (kind : Kind) → step_of s g Local Read ≡ Ok t → IsIdle s g kind → IsIdle t g kind
idle_local_read s t g kind moved idle = idle_same s t g kind (local_read_perm s t g moved) idle

-- a greater mark promises what a lesser one does
pub leaves_more : (low high : Mark) (kind : Kind) → level low ≤ level high → leaves_alone low kind ≡ true → leaves_alone high kind ≡ true
leaves_more Nothing high kind below leaves = absurd (cc)
leaves_more ReadMark Nothing kind below leaves = absurd (omega (arith, below))
leaves_more ReadMark ReadMark kind below leaves = leaves
leaves_more ReadMark WriteMark kind below leaves = refl
leaves_more WriteMark Nothing kind below leaves = absurd (omega (arith, below))
leaves_more WriteMark ReadMark kind below leaves = absurd (omega (arith, below))
leaves_more WriteMark WriteMark kind below leaves = refl
