-- The permission table, after Tree Borrows: what one access makes of one tag's state at one byte.
use Rattle.std.specs.Prelude.{◌≡◌, Bool, true, false, ◌&&◌, not, cond, Result, Ok, Err}
use Rattle.tb_perm.specs.declared.perm.Perm.{Perm}
use Rattle.tb_perm.specs.declared.perm.Perm.TheVariants.{Cell, Reserved, Conflicted, ReservedIm, Active, Frozen, Disabled}
use Rattle.tb_perm.specs.declared.perm.State.{State}
use Rattle.tb_perm.specs.declared.perm.Kind.{Kind}
use Rattle.tb_perm.specs.declared.perm.Kind.TheVariants.{Read, Write}
use Rattle.tb_perm.specs.declared.perm.Rel.{Rel}
use Rattle.tb_perm.specs.declared.perm.Rel.TheVariants.{Local, Foreign}
use Rattle.tb_perm.specs.declared.perm.Guard.{Guard}
use Rattle.tb_perm.specs.declared.perm.Guard.TheVariants.{Free, Weak, Strong}
use Rattle.tb_perm.specs.declared.report.Refusal.{Refusal}
use Rattle.tb_perm.specs.declared.report.Refusal.TheVariants.{ReadForbidden, WriteForbidden, Protected}

-- a tag is protected by a weak guard and by a strong one
abbrev pub is_guarded : Guard → Bool
is_guarded Free = false
is_guarded Weak = true
is_guarded Strong = true

-- the columns of local accesses: the permission afterwards, or a refusal
abbrev pub after_local : Perm → Bool → Kind → Result Perm Refusal
after_local Cell protected kind = Ok Cell
after_local Reserved protected Read = Ok Reserved
after_local Reserved protected Write = Ok Active
after_local Conflicted protected Read = Ok Conflicted
after_local Conflicted false Write = Ok Active
after_local Conflicted true Write = Err WriteForbidden
after_local ReservedIm protected Read = Ok ReservedIm
after_local ReservedIm protected Write = Ok Active
after_local Active protected kind = Ok Active
after_local Frozen protected Read = Ok Frozen
after_local Frozen protected Write = Err WriteForbidden
after_local Disabled protected Read = Err ReadForbidden
after_local Disabled protected Write = Err WriteForbidden

-- the columns of foreign accesses
abbrev pub after_foreign : Perm → Bool → Kind → Perm
after_foreign Cell protected kind = Cell
after_foreign Reserved false Read = Reserved
after_foreign Reserved true Read = Conflicted
after_foreign Reserved protected Write = Disabled
after_foreign Conflicted protected Read = Conflicted
after_foreign Conflicted protected Write = Disabled
after_foreign ReservedIm protected kind = ReservedIm
after_foreign Active false Read = Frozen
after_foreign Active true Read = Disabled
after_foreign Active protected Write = Disabled
after_foreign Frozen protected Read = Frozen
after_foreign Frozen protected Write = Disabled
after_foreign Disabled protected kind = Disabled

-- nothing is allowed any more
abbrev pub is_disabled : Perm → Bool
is_disabled Disabled = true
is_disabled Cell = false
is_disabled Reserved = false
is_disabled Conflicted = false
is_disabled ReservedIm = false
is_disabled Active = false
is_disabled Frozen = false

-- a byte that a protected tag has accessed may not be taken from it
abbrev pub loses : State → Bool → Perm → Bool
loses s protected perm = protected && s.accessed && is_disabled perm && not (is_disabled s.perm)

-- a local access that is not refused leaves the byte accessed
abbrev pub made_accessed : Result Perm Refusal → Result State Refusal
made_accessed (Ok perm) = Ok (record { perm = perm; accessed = true })
made_accessed (Err refusal) = Err refusal

-- the table: the new state, or a refusal
abbrev pub step_of : State → Bool → Rel → Kind → Result State Refusal
step_of s protected Local kind = made_accessed (after_local s.perm protected kind)
step_of s protected Foreign kind =
    cond
    (loses s protected (after_foreign s.perm protected kind))
    (Err Protected)
    (Ok (record { perm = after_foreign s.perm protected kind; accessed = s.accessed }))

-- a foreign access of this kind leaves the state as it is
abbrev pub IsIdle : State → Bool → Kind → Type 0
IsIdle s protected kind = step_of s protected Foreign kind ≡ Ok s
