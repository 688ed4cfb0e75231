-- What a report's status and line say of why the call ended.
use Rattle.std.proofs.Common.{◌≡◌, ◌⊎◌, inl, inr, ℕ, Option, List, refl, sym, ◌∙◌, subst, arith}
use Rattle.tb_base.specs.Growth.{GrewByPrefix}
use Rattle.tb_base.proofs.GrowthLaws.{GrewByPrefix-whole}
use Rattle.tb_base.specs.Outside.{FilesTold}
use Rattle.tb_top.specs.declared.halt.Halt.{Halt}
use Rattle.tb_top.specs.declared.halt.Halt.TheVariants as halt
use Rattle.tb_top.specs.Output.{EachOutput, FrontOfFaultLine}
use Rattle.tb_top.specs.Report.{line_of, status_of, cut_status_of, Reports, IsWhole}

-- in any case a front of its line went out
pub line_front : (why : Halt) (old new : Option (List ℕ)) (before now status : ℕ) → Reports why old new before now status → GrewByPrefix old new (line_of why)
line_front why old new before now status (inl whole) = GrewByPrefix-whole old new (line_of why) whole.line
line_front why old new before now status (inr cut) = cut.front

-- the status of out of memory is no other's
memory_of : (why : Halt) → status_of why ≡ 8 → why ≡ halt.Memory
memory_of halt.TooLong e = absurd (omega arith)
memory_of halt.NotBuilt e = absurd (omega arith)
memory_of (halt.Undefined report) e = absurd (omega arith)
memory_of (halt.Panic report) e = absurd (omega arith)
memory_of halt.ReadFault e = absurd (omega arith)
memory_of halt.WriteFault e = absurd (omega arith)
memory_of halt.Memory e = refl
memory_of halt.Usage e = absurd (omega arith)

memory_of_cut : (why : Halt) → cut_status_of why ≡ 8 → why ≡ halt.Memory
memory_of_cut halt.TooLong e = absurd (omega arith)
memory_of_cut halt.NotBuilt e = absurd (omega arith)
memory_of_cut (halt.Undefined report) e = absurd (omega arith)
memory_of_cut (halt.Panic report) e = absurd (omega arith)
memory_of_cut halt.ReadFault e = absurd (omega arith)
memory_of_cut halt.WriteFault e = absurd (omega arith)
memory_of_cut halt.Memory e = refl
memory_of_cut halt.Usage e = absurd (omega arith)

memory_reported : (why : Halt) (old new : Option (List ℕ)) (before now status : ℕ) → Reports why old new before now status → status ≡ 8 → why ≡ halt.Memory
memory_reported why old new before now status (inl whole) e = memory_of why (sym whole.answer ∙ e)
memory_reported why old new before now status (inr cut) e = memory_of_cut why (sym cut.answer ∙ e)

pub memory_line : (why : Halt) (old new : Option (List ℕ)) (before now status : ℕ) → Reports why old new before now status → status ≡ 8 → GrewByPrefix old new (line_of halt.Memory)
memory_line why old new before now status reports e =
    subst (λ w. GrewByPrefix old new (line_of w)) (memory_reported why old new before now status reports e) (line_front why old new before now status reports)

pub read_line : (why : Halt) (old new : Option (List ℕ)) (before now status : ℕ) → Reports why old new before now status → why ≡ halt.ReadFault → FrontOfFaultLine old new
read_line why old new before now status reports e = inl (subst (λ w. GrewByPrefix old new (line_of w)) e (line_front why old new before now status reports))

-- the line of a call that failed
fault_line : (why : Halt) (old new : Option (List ℕ)) → (status_of why ≡ 6) ⊎ (status_of why ≡ 7) ⊎ (status_of why ≡ 8) → GrewByPrefix old new (line_of why) → FrontOfFaultLine old new
fault_line halt.TooLong old new (inl e) front = absurd (omega arith)
fault_line halt.NotBuilt old new (inl e) front = absurd (omega arith)
fault_line halt.TooLong old new (inr (inl e)) front = absurd (omega arith)
fault_line halt.NotBuilt old new (inr (inl e)) front = absurd (omega arith)
fault_line halt.TooLong old new (inr (inr e)) front = absurd (omega arith)
fault_line halt.NotBuilt old new (inr (inr e)) front = absurd (omega arith)
fault_line (halt.Undefined report) old new (inl e) front = absurd (omega arith)
fault_line (halt.Undefined report) old new (inr (inl e)) front = absurd (omega arith)
fault_line (halt.Undefined report) old new (inr (inr e)) front = absurd (omega arith)
fault_line (halt.Panic report) old new (inl e) front = absurd (omega arith)
fault_line (halt.Panic report) old new (inr (inl e)) front = absurd (omega arith)
fault_line (halt.Panic report) old new (inr (inr e)) front = absurd (omega arith)
fault_line halt.ReadFault old new is front = inl front
fault_line halt.WriteFault old new is front = inr (inl front)
fault_line halt.Memory old new is front = inr (inr front)
fault_line halt.Usage old new (inl e) front = absurd (omega arith)
fault_line halt.Usage old new (inr (inl e)) front = absurd (omega arith)
fault_line halt.Usage old new (inr (inr e)) front = absurd (omega arith)

pub err_front : (words : List (List ℕ)) (told : Option FilesTold) (why : Halt) (old new : Option (List ℕ)) (before now status : ℕ) → Reports why old new before now status
    → EachOutput words told (λ output. output.err ≡ line_of why) ⊎ ((status_of why ≡ 6) ⊎ (status_of why ≡ 7) ⊎ (status_of why ≡ 8))
    → EachOutput words told (λ output. GrewByPrefix old new output.err ⊎ FrontOfFaultLine old new)
err_front words told why old new before now status reports (inl same) = λ output is. inl (subst (λ line. GrewByPrefix old new line) (sym (same output is)) (line_front why old new before now status reports))
err_front words told why old new before now status reports (inr fails) = λ output is. inr (fault_line why old new fails (line_front why old new before now status reports))

-- without a fault the line went out whole
pub whole_of : (why : Halt) (old new : Option (List ℕ)) (before now status : ℕ) → Reports why old new before now status → now ≡ before → IsWhole why old new before now status
whole_of why old new before now status (inl whole) calm = whole
whole_of why old new before now status (inr cut) calm = absurd (let rose = cut.rose in omega arith)
