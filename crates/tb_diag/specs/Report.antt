-- The text of a report.
use Rattle.std.specs.Prelude.{List, [], ◌++◌, ℕ, codes}
use Rattle.std.specs.Fmt.{decimal}
use Rattle.tb_perm.specs.declared.perm.Perm.{Perm}
use Rattle.tb_perm.specs.declared.perm.Perm.TheVariants.{Cell, Reserved, Conflicted, ReservedIm, Active, Frozen, Disabled}
use Rattle.tb_perm.specs.declared.report.Access.{Access}
use Rattle.tb_perm.specs.declared.report.Access.TheVariants.{Read, Write, Reborrow, CallEnd, Free}
use Rattle.tb_perm.specs.declared.report.Refusal.{Refusal}
use Rattle.tb_perm.specs.declared.report.Refusal.TheVariants.{ReadForbidden, WriteForbidden, Protected, StrongDealloc}
use Rattle.tb_perm.specs.declared.report.Report.{Report}
use Rattle.tb_perm.specs.declared.span.Span.{Span}
use Rattle.tb_perm.specs.declared.tag.AllocId.{AllocId}
use Rattle.tb_heap.specs.declared.stop.Stop.{Stop}
use Rattle.tb_heap.specs.declared.stop.Stop.TheVariants as stop
use Rattle.tb_eval.specs.declared.outcome.Outcome.{Outcome}
use Rattle.tb_eval.specs.declared.outcome.Outcome.TheVariants.{Finished, Undefined, Panic as Panicked, StepLimit, WriteFault, Memory}
use Rattle.tb_eval.specs.declared.outcome.Panic.{Panic}
use Rattle.tb_eval.specs.declared.outcome.Panic.TheVariants.{Overflow}
use Rattle.tb_diag.specs.Place.{span_text}

abbrev pub refusal_text : Refusal → List ℕ
refusal_text ReadForbidden = codes "read forbidden"
refusal_text WriteForbidden = codes "write forbidden"
refusal_text Protected = codes "protected"
refusal_text StrongDealloc = codes "strong protector"

abbrev pub access_text : Access → List ℕ
access_text Read = codes "read"
access_text Write = codes "write"
access_text Reborrow = codes "reborrow"
access_text CallEnd = codes "call end"
access_text Free = codes "free"

abbrev pub perm_text : Perm → List ℕ
perm_text Cell = codes "Cell"
perm_text Reserved = codes "Reserved"
perm_text Conflicted = codes "Reserved conflicted"
perm_text ReservedIm = codes "ReservedIM"
perm_text Active = codes "Active"
perm_text Frozen = codes "Frozen"
perm_text Disabled = codes "Disabled"

-- which access was refused, and where
unfoldable pub refused_text : AllocId → Report → List ℕ
refused_text alloc report =
    codes "  " ++ (refusal_text report.refusal ++ (codes ": " ++ (access_text report.access
    ++ (codes " through tag " ++ (decimal report.through.0 ++ (codes " at byte " ++ (decimal report.byte ++ (codes " of allocation " ++ decimal alloc.0))))))))

-- by which tag, and what that may still do
unfoldable pub refusing_text : Report → List ℕ
refusing_text report = codes "; tag " ++ (decimal report.tag.0 ++ (codes " is " ++ (perm_text report.perm ++ codes ", made at ")))

-- both, and where that tag was made
abbrev pub borrow_text : List ℕ → AllocId → Report → List ℕ
borrow_text source alloc report = refused_text alloc report ++ refusing_text report ++ span_text source report.made ++ codes "\n"

-- a line of these words and a place
abbrev pub placed : List ℕ → List ℕ → Span → List ℕ
placed words source span = words ++ span_text source span ++ codes "\n"

-- why a run is undefined behaviour, and for a refused access what refused it; running out of memory is none
abbrev pub stop_text : List ℕ → Stop → Span → List ℕ
stop_text source stop.Dangling span = placed (codes "undefined behaviour: dangling pointer at ") source span
stop_text source stop.Uninit span = placed (codes "undefined behaviour: uninitialised bytes at ") source span
stop_text source (stop.Borrow alloc report) span = placed (codes "undefined behaviour: borrow rules at ") source span ++ borrow_text source alloc report
stop_text source stop.Memory span = codes "out of memory\n"

abbrev pub panic_text : Panic → List ℕ
panic_text Overflow = codes "panic: overflow at "

-- how a run ended, in lines with their ends; a run that finished needs no report
abbrev pub report_of : List ℕ → Outcome → List ℕ
report_of source Finished = []
report_of source (Undefined stop span) = stop_text source stop span
report_of source (Panicked panic span) = placed (panic_text panic) source span
report_of source StepLimit = codes "stopped: step limit\n"
report_of source WriteFault = codes "write fault\n"
report_of source Memory = codes "out of memory\n"
