-- The reports of a call that does not finish, and its statuses.
use Rattle.std.specs.Prelude.{◌≡◌, ◌<◌, ◌⊎◌, ℕ, List, Option, codes}
use Rattle.tb_base.specs.Growth.{Grew, GrewByPrefix}
use Rattle.tb_small.specs.declared.error.SmallError.{SmallError}
use Rattle.tb_small.specs.declared.error.SmallError.TheVariants as parse
use Rattle.tb_top.specs.declared.read.ReadError.{ReadError}
use Rattle.tb_top.specs.declared.read.ReadError.TheVariants as read
use Rattle.tb_top.specs.declared.halt.Halt.{Halt}
use Rattle.tb_top.specs.declared.halt.Halt.TheVariants as halt

-- the line that is put, with its end
abbrev pub line_of : Halt → List ℕ
line_of halt.Usage = codes "usage: tbmiri FILE\n"
line_of halt.TooLong = codes "refused S2: source too long\n"
line_of halt.NotBuilt = codes "refused U1: not built yet at 1:1-1:1\n"
line_of (halt.Undefined report) = report
line_of (halt.Panic report) = report
line_of halt.ReadFault = codes "read fault\n"
line_of halt.WriteFault = codes "write fault\n"
line_of halt.Memory = codes "out of memory\n"

abbrev pub status_of : Halt → ℕ
status_of (halt.Undefined report) = 1
status_of halt.TooLong = 2
status_of halt.NotBuilt = 2
status_of (halt.Panic report) = 3
status_of halt.ReadFault = 6
status_of halt.WriteFault = 7
status_of halt.Memory = 8
status_of halt.Usage = 9

-- the status where the report itself could not be put
abbrev pub cut_status_of : Halt → ℕ
cut_status_of (halt.Undefined report) = 7
cut_status_of halt.TooLong = 7
cut_status_of halt.NotBuilt = 7
cut_status_of (halt.Panic report) = 7
cut_status_of halt.ReadFault = 7
cut_status_of halt.WriteFault = 7
cut_status_of halt.Memory = 8
cut_status_of halt.Usage = 7

pub record IsWhole (why : Halt) (old new : Option (List ℕ)) (before now status : ℕ) : Type 0 where
  pub line : Grew old new (line_of why)
  pub answer : status ≡ status_of why
  pub faults : now ≡ before

pub record IsCut (why : Halt) (old new : Option (List ℕ)) (before now status : ℕ) : Type 0 where
  pub front : GrewByPrefix old new (line_of why)
  pub answer : status ≡ cut_status_of why
  pub rose : before < now

-- The report was put whole, or the sink failed after a prefix of it.
abbrev pub Reports : Halt → Option (List ℕ) → Option (List ℕ) → ℕ → ℕ → ℕ → Type 0
Reports why old new before now status = IsWhole why old new before now status ⊎ IsCut why old new before now status

-- what a file that was not read comes to
abbrev pub halt_of_read : ReadError → Halt
halt_of_read read.TooLong = halt.TooLong
halt_of_read read.Fault = halt.ReadFault
halt_of_read read.Memory = halt.Memory

-- what a source that was not read comes to
abbrev pub halt_of_parse : SmallError → Halt
halt_of_parse parse.NotBuilt = halt.NotBuilt
halt_of_parse parse.Memory = halt.Memory
